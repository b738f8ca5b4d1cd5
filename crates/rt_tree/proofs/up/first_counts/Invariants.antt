use Rattle.std.proofs.Common.{◌≡◌, ◌+◌, ◌≤◌, take}
use Rattle.rt_nodes.specs.Nodes.{entries}
use Rattle.rt_tree.specs.Shape.{sum_of}
use Rattle.rt_tree.proofs.up.first_counts.Given as goal

abbrev pub invariant-loop-index : goal.invariant-loop-index
invariant-loop-index g l =
    let nodes = g.L.Looks.nodes in
    record {
      low : l.index ≤ l.fn.count;
      sum : l.counts ≡ sum_of (take l.index (entries (nodes l.initial.looks) l.node.index));
      cost : g.L.Looks.looked l.looks ≡ g.L.Looks.looked l.initial.looks + l.index;
      same : nodes l.looks ≡ nodes l.initial.looks;
      kept : g.L.Looks.summaries l.looks ≡ g.L.Looks.summaries l.initial.looks;
      lent : g.L.Looks.counter l.looks ≡ g.L.Looks.counter l.initial.looks;
    }
