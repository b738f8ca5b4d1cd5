use Rattle.std.proofs.Common.{◌∙◌, All, ap, subst, sym}
use Rattle.std.proofs.lemmas.Result.{IfOk-weaker}
use Rattle.rt_text.specs.Widgets.{length_shown}
use Rattle.rt_plans.specs.DocValue.{DocValue}
use Rattle.rt_plans.specs.Listed.{AreListed}
use Rattle.rt_tagcmd.specs.TagCommands.{range_ends}
use Rattle.rt_tagcmd.proofs.TagFinds.{LiesWithin, tagged_within, unlisted}
use Rattle.rt_tagcmd.proofs.tag_find.tag_ranges.Goals as goal

pub range_ends-requires : goal.range_ends-requires
range_ends-requires g c =
    let view = c.args.view.now in
    subst (All (LiesWithin (length_shown view))) (sym (c.deref.ensures.value ∙ c.in_ok-ranges.ensures.ok))
    (tagged_within view c.args.name.now)

pub returns-clause-unlisted : goal.returns-clause-unlisted
returns-clause-unlisted g c = λ u.
    let view = c.args.view.now in
    let none = unlisted view c.args.name.now (subst (λ (d : DocValue). AreListed d.tags d.cells) c.doc.ensures c.tags-tags.ensures.listed) u in
    IfOk-weaker c.range_ends.result _ _
    (λ positions h. h ∙ ap (range_ends view) (c.deref.ensures.value ∙ c.in_ok-ranges.ensures.ok ∙ none))
    c.range_ends.ensures.ok
