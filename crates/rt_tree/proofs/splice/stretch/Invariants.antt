use Rattle.std.proofs.Common.{◌≡◌, ◌≤◌, take}
use Rattle.rt_tree.specs.Additions.{stretch_count}
use Rattle.rt_tree.proofs.splice.stretch.Given as goal

abbrev pub invariant-loop-i : goal.invariant-loop-i
invariant-loop-i l = record {
  some : 1 ≤ l.i;
  one : stretch_count (take l.i l.cells) ≡ 1;
}
