use Rattle.std.proofs.Common.{◌∙◌, [], ap, sym}
use Rattle.rt_plans.specs.Removals.{is_covered, stamps_at}
use Rattle.rt_plans.specs.Selected.{selected_stamps}
use Rattle.rt_plans.specs.Selections.{selection_with, unselected, with_stamps}
use Rattle.rt_plans.proofs.Selecting.{unselected_alike}
use Rattle.rt_plans.proofs.listing.select.Goals as goal
use Rattle.rt_plans.proofs.listing.select.Goals.{then-on+in_ok-reserve, else-on+in_ok-of}

pub returns-clause-ok : goal.returns-clause-ok
returns-clause-ok g c =
    let stamps = stamps_at (is_covered c.args.ranges.now) 0 (g.S.TextStore.list c.args.store.now) in
    let old = selected_stamps c.args.selection.now in
    elim c.if-on.branch [
      | then-on+in_ok-reserve w ↦
          ap selected_stamps w.selection-is ∙ w.add.ensures ∙ (λ i. with_stamps ((w.deref.ensures.value ∙ c.in_ok-stamps.ensures.ok) i) (w.reserve.ensures.same i)) ∙ ap (λ b. selection_with b stamps old) (sym w.if-on.true)
      | else-on+in_ok-of w ↦
          ap selected_stamps w.selection-is ∙ w.remove.ensures ∙ ap (λ l. unselected l old) (w.in_ok-of.ensures.ok ∙ ap (λ l. with_stamps l []) (w.deref-else-on.ensures.value ∙ c.in_ok-stamps.ensures.ok))
          ∙ unselected_alike stamps old ∙ ap (λ b. selection_with b stamps old) (sym w.if-on.false)
    ]
