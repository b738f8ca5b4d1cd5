use Rattle.std.proofs.Common.{◌<◌, ◌+◌, ℕ, drop, length, slice_get, arith, sym, ap, ◌∙◌, subst}
use Rattle.std.specs.Prelude.{take_while}
use Rattle.rt_stamps.specs.Stamps.{is_before}
use Rattle.rt_store.specs.declared.cell.Cell.{Cell}
use Rattle.rt_tree.specs.Shape.{tree_runs}
use Rattle.rt_tree.specs.Trees.{TreeValue}
use Rattle.rt_tree.proofs.Kept.{shows}
use Rattle.rt_tree.proofs.Skipping.{have_cells, high_is, low_is, skip_is, skip_none}
use Rattle.rt_tree.proofs.tree.Tree.skip_past.Goals as goal

pub overflow_add-position : goal.overflow_add-position
overflow_add-position c =
    let s = c.self.inside in
    let h = shows s.mem s.root.index s.text.items s.runs c.self.invariant.kept s.sums.each.items c.args.self.now c.self.view_is in
    omega (arith, h.cells, c.requires, c.self.invariant.kept.few)

pub passed-requires-clause-node : goal.passed-requires-clause-node
passed-requires-clause-node c =
    let s = c.self.inside in
    let shape = c.self.invariant.kept.tree.shape in
    (shape.root_is, subst (λ n. s.root.index < n) shape.same shape.root_is)

pub passed-requires-clause-some : goal.passed-requires-clause-some
passed-requires-clause-some c = let s = c.self.inside in have_cells s.text.items (tree_runs s.mem s.root.index) c.self.invariant.kept.kept

pub passed-requires-clause-few : goal.passed-requires-clause-few
passed-requires-clause-few c = omega (arith, c.self.invariant.kept.few)

pub returns-then-is_low : goal.returns-then-is_low
returns-then-is_low c = skip_none c.args.new c.args.self.now.cells c.args.position c.nth-cell.result c.nth-cell.ensures (low_is (is_before c.args.new c.nth-cell.result.stamp) (sym c.is_low.ensures ∙ c.if-is_low.true))

pub returns : goal.returns
returns c =
    let s = c.self.inside in
    let cell = c.nth-cell.result in
    let here = ap (λ (x : TreeValue). slice_get x.cells c.args.position) c.self.view_is ∙ c.nth-cell.ensures in
    let above = high_is (is_before c.args.new cell.stamp) (sym c.is_low.ensures ∙ c.if-is_low.false) in
    c.passed.ensures ∙ skip_is s.text.items c.args.new (tree_runs s.mem s.root.index) c.args.position cell c.self.invariant.kept.kept here above
    ∙ ap (λ (x : TreeValue). c.args.position + length (take_while (λ (d : Cell ℕ). is_before c.args.new d.stamp) (drop c.args.position x.cells))) c.self.view_is
