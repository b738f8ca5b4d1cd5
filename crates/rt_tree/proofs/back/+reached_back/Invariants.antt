use Rattle.std.proofs.Common.{◌≡◌, ◌+◌, ◌*◌, ◌≤◌, length, take}
use Rattle.rt_nodes.specs.Nodes.{entries}
use Rattle.rt_tree.specs.Reaches.{reached_back}
use Rattle.rt_tree.specs.Shape.{all_below, level_of, runs, sum_of}
use Rattle.rt_tree.specs.Summaries.{tagged_as}
use Rattle.rt_tree.proofs.back.+reached_back.Given as goal

abbrev pub decreases-entry_back : goal.decreases-entry_back
decreases-entry_back l = 2 * level_of l.mem.now l.node.index

abbrev pub decreases-reached_back : goal.decreases-reached_back
decreases-reached_back l = 2 * level_of l.mem.now l.node.index + 1

abbrev pub invariant-reached_back-loop-i : goal.invariant-reached_back-loop-i
invariant-reached_back-loop-i l =
    let es = entries l.mem l.node.index in
    let k = level_of l.mem l.node.index in
    let test = tagged_as l.search.states.now l.search.wanted.tag l.search.wanted.on in
    record {
      within : l.i ≤ length es;
      left : l.left ≡ (sum_of (take l.i es)).visible;
      back : reached_back test l.fn.upto (runs l.mem k l.node.index) ≡ reached_back test l.fn.upto (all_below l.mem k (take l.i es));
    }

abbrev pub decreases-reached_back-loop-i : goal.decreases-reached_back-loop-i
decreases-reached_back-loop-i l = l.i
