use Rattle.std.proofs.Common.{◌≡◌, ◌+◌, ◌≤◌, length, take}
use Rattle.rt_nodes.specs.Nodes.{entries}
use Rattle.rt_tree.specs.Shape.{left_of, sum_of}
use Rattle.rt_tree.specs.Sums.{plus}
use Rattle.rt_tree.proofs.up.counts_with_left.Given as goal

abbrev pub invariant-loop-index : goal.invariant-loop-index
invariant-loop-index g l =
    let nodes = g.L.Looks.nodes in
    let left = left_of l.node.index (entries (nodes l.initial.looks) l.parent.index) in
    record {
      low : l.index ≤ length left;
      sum : l.counts ≡ plus l.fn.more (sum_of (take l.index left));
      cost : g.L.Looks.looked l.looks ≡ g.L.Looks.looked l.initial.looks + l.index;
      same : nodes l.looks ≡ nodes l.initial.looks;
      kept : g.L.Looks.summaries l.looks ≡ g.L.Looks.summaries l.initial.looks;
      lent : g.L.Looks.counter l.looks ≡ g.L.Looks.counter l.initial.looks;
    }
