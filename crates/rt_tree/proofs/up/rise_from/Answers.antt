use Rattle.rt_tree.proofs.Rising.{few-own}
use Rattle.rt_tree.proofs.up.rise_from.Goals as goal

pub first_counts-counts-requires-clause-few : goal.first_counts-counts-requires-clause-few
first_counts-counts-requires-clause-few g c =
    few-own (g.L.Looks.nodes c.args.looks.now) c.args.root.index c.requires.tree c.args.leaf.index c.args.entry c.requires.leaf.0.0 c.requires.leaf.1 c.requires.few
