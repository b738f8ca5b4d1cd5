use Rattle.std.proofs.Common.{◌≡◌, ◌+◌, ◌<◌, ◌≤◌, length}
use Rattle.rt_nodes.specs.Nodes.{entries}
use Rattle.rt_tree.specs.Changes.{bare, above, AreExact}
use Rattle.rt_tree.specs.Shape.{AreFilled, IsShape, ahead, level_of, runs}
use Rattle.rt_tree.specs.Standing.{Stay}
use Rattle.rt_tree.specs.Summaries.{AreTold}
use Rattle.rt_tree.specs.Trees.{HasNodes}
use Rattle.rt_tree.proofs.room.make_way.Given as goal

abbrev pub invariant-loop-level : goal.invariant-loop-level
invariant-loop-level l = record {
  low : l.level ≤ l.height;
  tree : IsShape (bare l.mem) l.height l.root.index;
  exact : AreExact l.mem;
  filled : AreFilled l.mem l.root.index;
  spent : length l.mem.heads + l.mem.room ≡ length l.initial.mem.heads + l.initial.mem.room;
  high : 0 < l.height → 0 < l.level;
  same : entries l.mem l.leaf.index ≡ entries l.initial.mem l.leaf.index;
  ahead_is : ahead (bare l.mem) l.height l.leaf.index ≡ ahead (bare l.initial.mem) l.height l.leaf.index;
  runs_are : runs (bare l.mem) l.height l.root.index ≡ runs (bare l.initial.mem) l.height l.root.index;
  stay : Stay l.initial.mem l.mem;
  longer : length l.initial.mem.heads ≤ length l.mem.heads;
  told : AreTold l.states l.mem l.sums (runs (bare l.mem) l.height l.root.index);
  tags : l.sums.tags ≡ l.initial.sums.tags;
  leaf : (l.leaf.index < length l.mem.heads) × (level_of (bare l.mem) l.leaf.index ≡ 0);
  roomy : length (entries l.mem (above (bare l.mem) l.level l.leaf.index)) < 16;
  room : HasNodes l.initial.mem (length (runs (bare l.initial.mem) l.height l.root.index));
}

abbrev pub decreases-loop-level : goal.decreases-loop-level
decreases-loop-level l = l.level
