use Rattle.std.proofs.Common.{◌≡◌, ◌≤◌, length}
use Rattle.rt_store.specs.Cells.{visible_of}
use Rattle.rt_store.specs.Tagged.{previous_place}
use Rattle.rt_plans.specs.Selected.{selected_stamps}
use Rattle.rt_store.specs.Spans.{is_among}
use Rattle.rt_text.proofs.characters.last_selected.Given as goal

abbrev pub invariant-loop-at : goal.invariant-loop-at
invariant-loop-at g l = record {
  same : previous_place (λ cell. is_among (selected_stamps l.selection) cell.stamp) (visible_of (g.S.TextStore.list l.store)) l.at
      ≡ previous_place (λ cell. is_among (selected_stamps l.selection) cell.stamp) (visible_of (g.S.TextStore.list l.store)) l.end;
  within : l.at ≤ length (visible_of (g.S.TextStore.list l.store));
}

abbrev pub decreases-loop-at : goal.decreases-loop-at
decreases-loop-at g l = l.at
