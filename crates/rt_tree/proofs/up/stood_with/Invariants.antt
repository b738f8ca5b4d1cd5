use Rattle.std.proofs.Common.{◌≡◌, ℕ, ◌+◌, ◌<◌, Some, false, slice_get, take}
use Rattle.rt_nodes.specs.Nodes.{entries}
use Rattle.rt_tree.specs.declared.node.Entry.TheVariants.{Here}
use Rattle.rt_tree.specs.declared.node.Run.{Run}
use Rattle.rt_tree.specs.Runs.{has_cell}
use Rattle.rt_tree.specs.Shape.{sum_of}
use Rattle.rt_tree.proofs.up.stood_with.Given as goal

abbrev pub invariant-loop-entry : goal.invariant-loop-entry
invariant-loop-entry g l =
    let nodes = g.L.Looks.nodes in
    record {
      sum : l.counts ≡ sum_of (take l.entry (entries (nodes l.initial.looks) l.leaf.index));
      none : (i : ℕ) (run : Run) → i < l.entry → slice_get (entries (nodes l.initial.looks) l.leaf.index) i ≡ Some (Here run) → has_cell run l.stamp ≡ false;
      cost : g.L.Looks.looked l.looks ≡ g.L.Looks.looked l.initial.looks + l.entry;
      same : nodes l.looks ≡ nodes l.initial.looks;
      kept : g.L.Looks.summaries l.looks ≡ g.L.Looks.summaries l.initial.looks;
      lent : g.L.Looks.counter l.looks ≡ g.L.Looks.counter l.initial.looks;
    }
