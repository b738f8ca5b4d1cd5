use Rattle.std.proofs.Common.{◌∙◌, ap, refl, sym}
use Rattle.std.specs.Prelude.{option_map}
use Rattle.std.proofs.lemmas.Option.{IfSome_then}
use Rattle.rt_store.specs.Shown.{shown}
use Rattle.rt_plans.specs.DocValue.{DocValue}
use Rattle.rt_plans.specs.InsertionPlans.{with_typed}
use Rattle.rt_plans.specs.Insertions.{insertion_of}
use Rattle.rt_plans.specs.Selected.{selected_stamps}
use Rattle.rt_text.specs.Owned.{widget_value}
use Rattle.rt_text.specs.Widgets.{selections_of}
use Rattle.rt_text.proofs.InsertedDocument.{begun}
use Rattle.rt_text.proofs.ViewLaws.{viewed}
use Rattle.rt_text.proofs.doc.Doc.typed.Goals as goal

pub returns-clause-comes : goal.returns-clause-comes
returns-clause-comes g c =
    let (states, gap) = c.neighbours-gap.result in
    let doc = c.args.self.now in
    let stamps = selected_stamps c.args.widget.now.selection in
    let seen = c.seen-count.result in
    let count = c.seen-count.ensures.value ∙ c.clock.ensures ∙ ap (λ (f : DocValue). f.count) c.self.view_is in
    IfSome_then c.typed_between.result c.typed_between.ensures.comes
    (λ typed h others.
    let view = viewed doc (widget_value c.args.widget.now) others in
    sym (begun (λ s start. insertion_of s (option_map (shown states.now) gap.left) (option_map (shown states.now) gap.right) c.args.text.pieces.now c.args.text.rest.now start) doc.site seen stamps view refl count refl
    ∙ c.neighbours-gap.ensures.comes others c.args.text.rest.now)
    ∙ h doc.site (selections_of others) doc.tags
    ∙ begun (λ s start. with_typed s typed start) doc.site seen stamps view refl count refl)
