use Rattle.std.proofs.Common.{◌≡◌, ◌+◌, ◌-◌, ◌*◌, ◌≤◌}
use Rattle.rt_tree.specs.Shape.{level_of}
use Rattle.rt_tree.proofs.Rising.{Rising}
use Rattle.rt_tree.proofs.up.rise.Given as goal

abbrev pub invariant-loop-node : goal.invariant-loop-node
invariant-loop-node g l =
    let m = g.L.Looks.nodes l.initial.looks in
    record {
      rising : Rising m l.root.index l.fn.leaf.index l.fn.first.entry l.node.index l.before;
      cost : g.L.Looks.looked l.looks ≤ g.L.Looks.looked l.initial.looks + 16 * level_of m l.node.index;
      counted : g.L.Looks.looked l.initial.looks + level_of m l.node.index ≤ g.L.Looks.looked l.looks;
      same : g.L.Looks.nodes l.looks ≡ m;
      kept : g.L.Looks.summaries l.looks ≡ g.L.Looks.summaries l.initial.looks;
      lent : g.L.Looks.counter l.looks ≡ g.L.Looks.counter l.initial.looks;
    }

abbrev pub decreases-loop-node : goal.decreases-loop-node
decreases-loop-node g l = let m = g.L.Looks.nodes l.initial.looks in level_of m l.root.index - level_of m l.node.index
