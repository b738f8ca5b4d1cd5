use Rattle.std.proofs.Common.{◌∙◌, ap, sym}
use Rattle.rt_stamps.specs.Words.{as_words}
use Rattle.rt_store.specs.Cells.{stamps_of}
use Rattle.rt_plans.specs.Insertions.{selected_if, tagged_cells}
use Rattle.rt_plans.specs.Selections.{with_stamps}
use Rattle.rt_plans.proofs.PlanLaws.{with_append}
use Rattle.rt_plans.proofs.stamps.select_new.Goals as goal

pub returns-in_ok-push_stamps-clause-selected : goal.returns-in_ok-push_stamps-clause-selected
returns-in_ok-push_stamps-clause-selected c = λ selection.
    let before = c.args.selected.now.items in
    let new = stamps_of (tagged_cells c.args.site.number c.args.count (as_words c.args.names.now) c.args.text.now) in
    ap (λ l. with_stamps l selection) c.in_ok-push_stamps.ensures.ok ∙ with_append before new selection
    ∙ sym (ap (λ b. selected_if b new (with_stamps before selection)) c.if-asked.true)
