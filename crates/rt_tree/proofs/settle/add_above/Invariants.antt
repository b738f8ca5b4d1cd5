use Rattle.std.proofs.Common.{◌≡◌, ◌-◌, ◌<◌, ◌≤◌, length}
use Rattle.rt_tree.specs.Changes.{bare, AreExactBut, Lacks}
use Rattle.rt_tree.specs.Shape.{level_of}
use Rattle.rt_tree.proofs.settle.add_above.Given as goal

abbrev pub invariant-loop-level : goal.invariant-loop-level
invariant-loop-level l = record {
  same : bare l.mem ≡ bare l.initial.mem;
  is : l.node.index < length l.initial.mem.heads;
  at_level : level_of (bare l.initial.mem) l.node.index ≡ l.level;
  low : l.level ≤ l.height;
  exact : AreExactBut l.node.index l.mem;
  more : Lacks l.node.index l.more l.mem;
}

abbrev pub decreases-loop-level : goal.decreases-loop-level
decreases-loop-level l = l.height - l.level
