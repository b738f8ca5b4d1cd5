use Rattle.std.proofs.Common.{◌≡◌, ℕ, All, ◌||◌, drop, length}
use Rattle.rt_store.specs.Cells.{visible_of}
use Rattle.rt_rga.specs.NamedRuns.{IsBelow, names_at, spans_of_runs}
use Rattle.rt_rga.specs.Taken.{is_in_runs}
use Rattle.rt_rga.proofs.places.place_runs.Given as goal

abbrev pub invariant-loop-run : goal.invariant-loop-run
invariant-loop-run g l = record {
  places : (place : ℕ) → (is_in_runs l.places.items place || names_at (spans_of_runs (drop l.run-index l.runs)) (g.S.TextStore.list l.store) place)
      ≡ names_at (spans_of_runs l.runs) (g.S.TextStore.list l.store) place;
  below : All (IsBelow (length (visible_of (g.S.TextStore.list l.store)))) l.places.items;
}
