use Rattle.std.proofs.Common.{◌≡◌}
use Rattle.rt_store.specs.Cells.{visible_of}
use Rattle.rt_store.specs.Tagged.{next_place}
use Rattle.rt_plans.specs.Selected.{selected_stamps}
use Rattle.rt_text.proofs.TaggedLaws.{selects}
use Rattle.rt_text.proofs.characters.next_selected.Given as goal

abbrev pub invariant-loop-at : goal.invariant-loop-at
invariant-loop-at g l =
    next_place (selects (selected_stamps l.selection) l.selected) (visible_of (g.S.TextStore.list l.store)) l.at
    ≡ next_place (selects (selected_stamps l.selection) l.selected) (visible_of (g.S.TextStore.list l.store)) l.place
