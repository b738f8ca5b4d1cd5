use Rattle.std.proofs.Common.{◌≤◌, take}
use Rattle.rt_tree.specs.Sharing.{NoneIsNewer}
use Rattle.rt_tree.proofs.splice.newest_of.Given as goal

abbrev pub invariant-loop-cell : goal.invariant-loop-cell
invariant-loop-cell l = record { least : l.initial.newest ≤ l.newest; cells : NoneIsNewer l.newest (take l.cell-index l.cells) }
