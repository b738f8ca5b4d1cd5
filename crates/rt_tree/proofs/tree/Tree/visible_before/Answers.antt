use Rattle.std.proofs.Common.{◌+◌, ℕ, arith, ap, ◌∙◌}
use Rattle.rt_store.specs.Cells.{visible_before}
use Rattle.rt_tree.specs.Shape.{tree_runs}
use Rattle.rt_tree.specs.Trees.{TreeValue}
use Rattle.rt_tree.proofs.Kept.{few_runs, shows}
use Rattle.rt_tree.proofs.Positions.{visible_there}
use Rattle.rt_tree.proofs.tree.Tree.visible_before.Goals as goal

pub run_near-found-requires-clause-few : goal.run_near-found-requires-clause-few
run_near-found-requires-clause-few c = let s = c.self.inside in few_runs s.mem s.root.index s.text.items s.runs c.self.invariant.kept

pub run_near-found-requires-clause-within : goal.run_near-found-requires-clause-within
run_near-found-requires-clause-within c =
    let s = c.self.inside in
    let h = shows s.mem s.root.index s.text.items s.runs c.self.invariant.kept s.sums.each.items c.args.self.now c.self.view_is in
    omega (arith, h.cells, c.requires)

pub returns : goal.returns
returns c =
    let s = c.self.inside in
    let f = c.run_near-found.result in
    ap (λ (n : ℕ). f.before.visible + n) c.visible_part.ensures
    ∙ visible_there s.text.items (tree_runs s.mem s.root.index) f.run f.before f.spot.offset c.args.position c.self.invariant.kept.kept c.run_near-found.ensures
    ∙ ap (λ (x : TreeValue). visible_before x.cells c.args.position) c.self.view_is

pub run_near-found-requires-clause-held : goal.run_near-found-requires-clause-held
run_near-found-requires-clause-held c = c.self.invariant.last
