use Rattle.std.proofs.Common.{◌≡◌, drop}
use Rattle.rt_nodes.specs.Nodes.{entries}
use Rattle.rt_tags.specs.Borders.{first}
use Rattle.rt_tree.specs.Shape.{all_below, level_of}
use Rattle.rt_tree.specs.Summaries.{shown_states}
use Rattle.rt_tree.proofs.summaries.after_in.Given as goal

abbrev pub invariant-loop-at : goal.invariant-loop-at
invariant-loop-at l =
    let es = entries l.mem l.node.index in
    let k = level_of l.mem l.node.index in
    first (shown_states (all_below l.mem k (drop l.i es))) ≡ first (shown_states (all_below l.mem k (drop l.at es)))
