use Rattle.std.proofs.Common.{Some, ap, ◌∙◌}
use Rattle.rt_store.specs.Cells.{position_of}
use Rattle.rt_tree.specs.Shape.{tree_runs}
use Rattle.rt_tree.specs.Trees.{TreeValue}
use Rattle.rt_tree.proofs.Housing.{is_here, is_nowhere}
use Rattle.rt_tree.proofs.Kept.{few_runs}
use Rattle.rt_tree.proofs.tree.Tree.sought_position.Goals as goal

pub look_up-requires-clause-few : goal.look_up-requires-clause-few
look_up-requires-clause-few c = let s = c.self.inside in few_runs s.mem s.root.index s.text.items s.runs c.self.invariant.kept

pub returns-in-Nowhere : goal.returns-in-Nowhere
returns-in-Nowhere c =
    let s = c.self.inside in
    let none = c.in-Nowhere.ensures in
    is_nowhere s.text.items (tree_runs s.mem s.root.index) s.homes.leaves c.args.stamp c.self.invariant.kept.kept (c.self.invariant.home none.0) none.1
    ∙ ap (λ (x : TreeValue). position_of x.cells c.args.stamp) c.self.view_is

pub returns-in-At : goal.returns-in-At
returns-in-At c =
    let s = c.self.inside in let h = c.in-At.home in let e = c.in-At.ensures in
    ap Some c.position.ensures
    ∙ is_here s.text.items (tree_runs s.mem s.root.index) s.homes.leaves c.args.stamp c.self.invariant.kept.kept (c.self.invariant.home e.sure) h.run h.before e.home e.with_stamp
    ∙ ap (λ (x : TreeValue). position_of x.cells c.args.stamp) c.self.view_is

pub look_up-requires-clause-held : goal.look_up-requires-clause-held
look_up-requires-clause-held c = c.self.invariant.last
