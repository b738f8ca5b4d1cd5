use Rattle.rt_tree.proofs.Kept.{few_runs}
use Rattle.rt_tree.proofs.tree.Tree.focus_on.Goals as goal

pub stands-requires-clause-few : goal.stands-requires-clause-few
stands-requires-clause-few c = let s = c.self.inside in few_runs s.mem s.root.index s.text.items s.runs c.self.invariant.kept
