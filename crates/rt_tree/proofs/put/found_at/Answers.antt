use Rattle.rt_tree.specs.declared.node.CountedBy.TheVariants.{Cells}
use Rattle.rt_tree.proofs.Stands.{stands}
use Rattle.rt_tree.proofs.put.found_at.Goals as goal

pub returns-clause-run : goal.returns-clause-run
returns-clause-run c = let f = c.descend_by.result in stands c.args.mem.now c.args.root.index c.requires.tree Cells c.args.at f.spot.leaf.index f.spot.entry f.spot.offset f.run f.before c.descend_by.ensures.spot c.descend_by.ensures.before
