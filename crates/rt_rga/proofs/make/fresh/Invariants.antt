use Rattle.std.proofs.Common.{◌≡◌, ◌≤◌, ◌++◌, map, drop}
use Rattle.std.specs.List.{AllByRecursion}
use Rattle.rt_stamps.specs.declared.limits.TheConstants.{GREATEST_COUNT}
use Rattle.rt_ops.specs.Operations.{last_count}
use Rattle.rt_store.specs.Shown.{shown}
use Rattle.rt_store.specs.Tagged.{AreStates}
use Rattle.rt_tags.specs.States.{KeepsIds}
use Rattle.rt_rga.specs.Making.{fresh_cells}
use Rattle.rt_rga.proofs.make.fresh.Given as goal

abbrev pub invariant-loop-op : goal.invariant-loop-op
invariant-loop-op l = record {
  cells : map (shown l.states) l.cells ++ fresh_cells (drop l.op-index l.ops) ≡ fresh_cells l.ops;
  given : AreStates l.states l.cells;
  ids : KeepsIds l.fn.states l.states;
  counts : AllByRecursion (λ op. last_count op ≤ GREATEST_COUNT) (drop l.op-index l.ops);
}
