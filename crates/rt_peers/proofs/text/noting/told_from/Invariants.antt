use Rattle.std.proofs.Common.{◌≡◌, ◌+◌, ◌++◌, drop, length, map, reverse}
use Rattle.rt_changes.specs.Telling.{changes_in}
use Rattle.rt_peers.specs.Telling.{each_change}
use Rattle.rt_peers.proofs.text.noting.told_from.Given as goal

abbrev pub invariant-loop-change : goal.invariant-loop-change
invariant-loop-change l = record {
  at : l.place ≡ l.fn.from + length l.yielded;
  told : map changes_in l.told.items ++ drop l.place (reverse (each_change l.log.operations)) ≡ drop l.fn.from (reverse (each_change l.log.operations));
}
