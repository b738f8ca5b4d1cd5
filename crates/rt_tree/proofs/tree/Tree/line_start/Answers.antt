use Rattle.std.proofs.Common.{◌≡◌, ◌+◌, ◌-◌, ℕ, arith, sym, ap, ◌∙◌}
use Rattle.rt_stamps.specs.Places.{after_newlines}
use Rattle.rt_store.specs.Cells.{text_of}
use Rattle.rt_tree.specs.Runs.{cells_of_runs}
use Rattle.rt_tree.specs.Shape.{tree_runs}
use Rattle.rt_tree.specs.Trees.{TreeValue}
use Rattle.rt_tree.proofs.Kept.{few_runs, shows}
use Rattle.rt_tree.proofs.Lines.{start_found}
use Rattle.rt_tree.proofs.tree.Tree.line_start.Goals as goal

pub run_near-found-requires-clause-few : goal.run_near-found-requires-clause-few
run_near-found-requires-clause-few c = let s = c.self.inside in few_runs s.mem s.root.index s.text.items s.runs c.self.invariant.kept

pub run_near-found-requires-clause-within : goal.run_near-found-requires-clause-within
run_near-found-requires-clause-within c =
    let s = c.self.inside in
    let h = shows s.mem s.root.index s.text.items s.runs c.self.invariant.kept s.sums.each.items c.args.self.now c.self.view_is in
    omega (arith, h.newlines, c.requires, c.if-line-eq1.false)

pub returns : goal.returns
returns c =
    let s = c.self.inside in
    let f = c.run_near-found.result in
    let start = start_found s.text.items (tree_runs s.mem s.root.index) f.run f.before f.spot.offset (c.args.line - 2) c.self.invariant.kept.kept c.run_near-found.ensures in
    let k : c.args.line - 2 + 1 ≡ c.args.line - 1 = omega (arith, c.requires, c.if-line-eq1.false) in
    sym start ∙ ap (λ (n : ℕ). after_newlines n (text_of (cells_of_runs s.text.items (tree_runs s.mem s.root.index)))) k ∙ ap (λ (x : TreeValue). after_newlines (c.args.line - 1) (text_of x.cells)) c.self.view_is

pub run_near-found-requires-clause-held : goal.run_near-found-requires-clause-held
run_near-found-requires-clause-held c = c.self.invariant.last
