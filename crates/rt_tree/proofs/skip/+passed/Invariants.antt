use Rattle.std.proofs.Common.{◌≡◌, ◌+◌, ◌*◌, take}
use Rattle.rt_nodes.specs.Nodes.{entries}
use Rattle.rt_tree.specs.Shape.{all_below, level_of, sum_of}
use Rattle.rt_tree.specs.Skips.{passed}
use Rattle.rt_tree.proofs.skip.+passed.Given as goal

abbrev pub decreases-entry_passed : goal.decreases-entry_passed
decreases-entry_passed l = 2 * level_of l.mem.now l.node.index

abbrev pub decreases-passed : goal.decreases-passed
decreases-passed l = 2 * level_of l.mem.now l.node.index + 1

abbrev pub invariant-passed-loop-i : goal.invariant-passed-loop-i
invariant-passed-loop-i l =
    let front = take l.i (entries l.mem l.node.index) in
    record {
      cells : l.done ≡ (sum_of front).cells;
      passed : passed l.fn.from l.new (all_below l.mem (level_of l.mem l.node.index) front) ≡ l.done;
    }
