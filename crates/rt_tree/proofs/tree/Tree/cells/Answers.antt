use Rattle.std.proofs.Common.{subst}
use Rattle.rt_tree.specs.Tallies.{IsCountOf}
use Rattle.rt_tree.specs.Trees.{TreeValue}
use Rattle.rt_tree.proofs.tree.Tree.cells.Goals as goal

pub returns : goal.returns
returns c = (subst (λ (x : TreeValue). IsCountOf c.self.inside.counts x.cells) c.self.view_is c.self.invariant.counts).cells
