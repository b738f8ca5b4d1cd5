use Rattle.std.proofs.Common.{Some, ap, ◌∙◌}
use Rattle.rt_store.specs.Cells.{position_of}
use Rattle.rt_tree.specs.Shape.{tree_runs}
use Rattle.rt_tree.specs.Trees.{TreeValue}
use Rattle.rt_tree.proofs.Housing.{is_here}
use Rattle.rt_tree.proofs.tree.Tree.position_of.Goals as goal

pub returns-in-Some : goal.returns-in-Some
returns-in-Some c =
    let s = c.self.inside in let h = c.in-Some.home in let e = c.in-Some.ensures in
    ap Some c.position.ensures
    ∙ is_here s.text.items (tree_runs s.mem s.root.index) s.homes.leaves c.args.stamp c.self.invariant.kept.kept (c.self.invariant.home e.sure) h.run h.before e.home e.has
    ∙ ap (λ (x : TreeValue). position_of x.cells c.args.stamp) c.self.view_is
