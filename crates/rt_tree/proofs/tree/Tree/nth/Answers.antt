use Rattle.std.proofs.Common.{List, ℕ, slice_get, arith, sym, ap, ◌∙◌, subst}
use Rattle.rt_tree.specs.Runs.{IsRun, run_cells}
use Rattle.rt_tree.specs.Shape.{tree_runs}
use Rattle.rt_tree.specs.Trees.{TreeValue}
use Rattle.rt_tree.proofs.CellLaws.{is_run, nth_found}
use Rattle.rt_tree.proofs.Kept.{few_runs, shows}
use Rattle.rt_tree.proofs.tree.Tree.nth.Goals as goal

pub run_near-found-requires-clause-few : goal.run_near-found-requires-clause-few
run_near-found-requires-clause-few c = let s = c.self.inside in few_runs s.mem s.root.index s.text.items s.runs c.self.invariant.kept

pub run_near-found-requires-clause-within : goal.run_near-found-requires-clause-within
run_near-found-requires-clause-within c =
    let s = c.self.inside in
    let h = shows s.mem s.root.index s.text.items s.runs c.self.invariant.kept s.sums.each.items c.args.self.now c.self.view_is in
    omega (arith, h.cells, c.requires)

pub cell_in-requires-clause-run : goal.cell_in-requires-clause-run
cell_in-requires-clause-run c =
    let s = c.self.inside in
    let f = c.run_near-found.result in
    let st = c.run_near-found.ensures in
    subst (λ (text : List ℕ). IsRun text f.run) (sym c.deref.ensures.value) (is_run s.text.items (tree_runs s.mem s.root.index) f.run f.before f.spot.offset c.args.position c.self.invariant.kept.kept st.left st.right st.here)

pub returns : goal.returns
returns c =
    let s = c.self.inside in
    let f = c.run_near-found.result in
    ap (λ (x : TreeValue). slice_get x.cells c.args.position) (sym c.self.view_is)
    ∙ nth_found s.text.items (tree_runs s.mem s.root.index) f.run f.before f.spot.offset c.args.position c.self.invariant.kept.kept c.run_near-found.ensures
    ∙ ap (λ (text : List ℕ). slice_get (run_cells text f.run) f.spot.offset) (sym c.deref.ensures.value)
    ∙ c.cell_in.ensures

pub run_near-found-requires-clause-held : goal.run_near-found-requires-clause-held
run_near-found-requires-clause-held c = c.self.invariant.last
