use Rattle.rt_tree.proofs.Stands.{stands}
use Rattle.rt_tree.proofs.find.find.Goals as goal

pub returns-clause-run : goal.returns-clause-run
returns-clause-run c = let f = c.descend_by.result in stands c.args.mem.now c.args.root.index c.requires.tree c.args.by c.args.place f.spot.leaf.index f.spot.entry f.spot.offset f.run f.before c.descend_by.ensures.spot c.descend_by.ensures.before
