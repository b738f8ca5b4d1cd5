use Rattle.std.proofs.Common.{arith, ap, subst}
use Rattle.rt_tree.specs.Sharing.{NoneIsNewer}
use Rattle.rt_tree.specs.Trees.{TreeValue}
use Rattle.rt_tree.proofs.Skipping.{skip_newest}
use Rattle.rt_tree.proofs.tree.Tree.skip.Goals as goal

pub returns-then-new-self : goal.returns-then-new-self
returns-then-new-self c =
    let s = c.self.inside in
    let upto = subst (NoneIsNewer s.newest) (ap (λ (x : TreeValue). x.cells) c.self.view_is) c.self.invariant.newest in
    skip_newest c.args.new s.newest c.args.self.now.cells c.args.position (omega (arith, c.if-new-self.true)) upto c.requires
