use Rattle.std.proofs.Common.{◌≡◌, take}
use Rattle.rt_nodes.specs.Nodes.{entries}
use Rattle.rt_tree.specs.Shape.{all_below, level_of}
use Rattle.rt_tree.specs.Summaries.{IsSummary, shown_states}
use Rattle.rt_tree.proofs.gather.gather.Given as goal

abbrev pub invariant-loop-i : goal.invariant-loop-i
invariant-loop-i l =
    let es = entries l.mem l.node.index in
    let k = level_of l.mem l.node.index in
    record {
      so_far : IsSummary l.states (shown_states (all_below l.mem k (take l.i es))) l.summary;
      capacity : l.summary.counts.capacity ≡ l.fn.summary.counts.capacity;
    }
