use Rattle.std.proofs.Common.{subst, sym}
use Rattle.rt_store.specs.Cells.{AreDistinct}
use Rattle.rt_tree.specs.Shape.{tree_runs}
use Rattle.rt_tree.specs.Sharing.{AreBelowGreatest}
use Rattle.rt_tree.specs.Trees.{TreeValue}
use Rattle.rt_tree.proofs.Sure.{distinct_each}
use Rattle.rt_tree.proofs.tree.Tree.is_sure.Goals as goal

pub returns-clause-distinct : goal.returns-clause-distinct
returns-clause-distinct c = λ distinct below.
    let s = c.self.inside in
    c.self.invariant.steady
    (distinct_each s.text.items (tree_runs s.mem s.root.index) c.self.invariant.kept.kept (subst (λ (v : TreeValue). AreDistinct v.cells) (sym c.self.view_is) distinct))
    (subst (λ (v : TreeValue). AreBelowGreatest v.cells) (sym c.self.view_is) below)
