use Rattle.std.proofs.Common.{◌≡◌, ◌≤◌, length, take}
use Rattle.rt_nodes.specs.Nodes.{entries}
use Rattle.rt_tags.specs.Borders.{last}
use Rattle.rt_tree.specs.Shape.{all_below, level_of}
use Rattle.rt_tree.specs.Summaries.{shown_states}
use Rattle.rt_tree.proofs.summaries.before_in.Given as goal

abbrev pub invariant-loop-at : goal.invariant-loop-at
invariant-loop-at l =
    let es = entries l.mem l.node.index in
    let k = level_of l.mem l.node.index in
    record {
      within : l.at ≤ length es;
      last : last (shown_states (all_below l.mem k (take l.i es))) ≡ last (shown_states (all_below l.mem k (take l.at es)));
    }

abbrev pub decreases-loop-at : goal.decreases-loop-at
decreases-loop-at l = l.at
