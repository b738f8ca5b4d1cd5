use Rattle.std.proofs.Common.{◌≡◌, ◌+◌, ◌-◌, ◌*◌, ◌≤◌}
use Rattle.rt_tree.specs.Shape.{level_of}
use Rattle.rt_tree.proofs.Going.{Going}
use Rattle.rt_tree.proofs.walk.descend_by.Given as goal

abbrev pub invariant-loop-child : goal.invariant-loop-child
invariant-loop-child g l =
    let m = g.L.Looks.nodes l.initial.looks in
    record {
      going : Going m l.fn.root.index l.by l.fn.place l.node.index l.rest l.before;
      counted : g.L.Looks.looked l.initial.looks + (level_of m l.fn.root.index - level_of m l.node.index) ≤ g.L.Looks.looked l.looks;
      cost : g.L.Looks.looked l.looks ≤ g.L.Looks.looked l.initial.looks + 16 * (level_of m l.fn.root.index - level_of m l.node.index);
      same : g.L.Looks.nodes l.looks ≡ m;
      kept : g.L.Looks.summaries l.looks ≡ g.L.Looks.summaries l.initial.looks;
      lent : g.L.Looks.counter l.looks ≡ g.L.Looks.counter l.initial.looks;
    }

abbrev pub decreases-loop-child : goal.decreases-loop-child
decreases-loop-child g l = level_of (g.L.Looks.nodes l.initial.looks) l.node.index
