use Rattle.std.proofs.Common.{◌≡◌, ◌-◌, ◌++◌, take, drop}
use Rattle.rt_store.specs.Cells.{visible_of}
use Rattle.rt_plans.proofs.cells.push_cells.Given as goal

abbrev pub invariant-loop-place : goal.invariant-loop-place
invariant-loop-place g l =
    l.cells.items ≡ l.initial.cells.items ++ take (l.place - l.fn.range.from) (drop l.fn.range.from (visible_of (g.S.TextStore.list l.store)))
