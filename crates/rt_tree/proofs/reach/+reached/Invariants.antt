use Rattle.std.proofs.Common.{◌≡◌, ◌+◌, ◌*◌, ◌≤◌, take}
use Rattle.std.specs.List.{AllByRecursion}
use Rattle.rt_nodes.specs.Nodes.{entries}
use Rattle.rt_tree.specs.Reaches.{reached}
use Rattle.rt_tree.specs.Shape.{all_below, level_of, runs, sum_of}
use Rattle.rt_tree.specs.Skips.{HasCells}
use Rattle.rt_tree.specs.Summaries.{tagged_as}
use Rattle.rt_tree.proofs.Seeking.{Spent}
use Rattle.rt_tree.proofs.reach.+reached.Given as goal

abbrev pub decreases-entry_reached : goal.decreases-entry_reached
decreases-entry_reached g l = 2 * level_of (g.L.Looks.nodes l.looks.now) l.node.index

abbrev pub decreases-reached : goal.decreases-reached
decreases-reached g l = 2 * level_of (g.L.Looks.nodes l.looks.now) l.node.index + 1

abbrev pub invariant-reached-loop-i : goal.invariant-reached-loop-i
invariant-reached-loop-i g l =
    let m = g.L.Looks.nodes l.initial.looks in
    let k = level_of m l.node.index in
    let front = take l.i (entries m l.node.index) in
    record {
      visible : l.done ≡ (sum_of front).visible;
      reached : AllByRecursion HasCells (runs m k l.node.index) → reached (tagged_as l.states l.wanted.tag l.wanted.on) l.fn.from (all_below m k front) ≡ l.done;
      spent : Spent k l.fn.from l.done (g.L.Looks.looked l.initial.looks) l.i (g.L.Looks.looked l.looks);
      counted : g.L.Looks.looked l.initial.looks ≤ g.L.Looks.looked l.looks;
      same : g.L.Looks.nodes l.looks ≡ m;
      kept : g.L.Looks.summaries l.looks ≡ g.L.Looks.summaries l.initial.looks;
      lent : g.L.Looks.counter l.looks ≡ g.L.Looks.counter l.initial.looks;
    }
