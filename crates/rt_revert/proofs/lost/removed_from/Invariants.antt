use Rattle.std.proofs.Common.{◌≡◌, ◌++◌, drop, map}
use Rattle.rt_undo.specs.Actions.{removed_in}
use Rattle.rt_revert.specs.Planning.{cell_removed}
use Rattle.rt_revert.proofs.lost.removed_from.Given as goal

abbrev pub invariant-loop-cell : goal.invariant-loop-cell
invariant-loop-cell l = removed_in l.removed.items ++ map cell_removed (drop l.cell-index l.cells) ≡ map cell_removed l.cells
