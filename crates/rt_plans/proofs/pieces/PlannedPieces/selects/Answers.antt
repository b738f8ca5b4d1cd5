use Rattle.std.proofs.Common.{◌∙◌, ◌||◌, ap, sym}
use Rattle.std.specs.List.{list_any}
use Rattle.std.proofs.lemmas.Bool.{or_left}
use Rattle.rt_stamps.specs.Stamps.{is_same}
use Rattle.rt_plans.specs.Selected.{selected_stamps}
use Rattle.rt_store.specs.Spans.{is_among}
use Rattle.rt_plans.proofs.PlanLaws.{among_with}
use Rattle.rt_plans.proofs.pieces.PlannedPieces.selects.Goals as goal

pub returns-then-has : goal.returns-then-has
returns-then-has c =
    let selection = selected_stamps c.args.selection.now in
    let selected = c.args.self.now.selected.items in
    c.if-has.true ∙ sym (among_with selected selection c.args.stamp ∙ or_left (is_among selection c.args.stamp) (is_among selected c.args.stamp) (sym c.has.ensures ∙ c.if-has.true))

pub returns-else-has : goal.returns-else-has
returns-else-has c =
    let selection = selected_stamps c.args.selection.now in
    let selected = c.args.self.now.selected.items in
    c.contains.ensures.value ∙ ap (list_any (λ other. is_same other c.args.stamp)) c.deref.ensures.value
    ∙ sym (among_with selected selection c.args.stamp ∙ ap (λ b. b || is_among selected c.args.stamp) (sym c.has.ensures ∙ c.if-has.false))
