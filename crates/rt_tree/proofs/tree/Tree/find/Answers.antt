use Rattle.std.proofs.Common.{List, ℕ, slice_get, arith, sym, ap, ◌∙◌, subst}
use Rattle.rt_store.specs.Cells.{visible_of}
use Rattle.rt_tree.specs.Runs.{IsRun, run_cells}
use Rattle.rt_tree.specs.Shape.{tree_runs}
use Rattle.rt_tree.specs.Trees.{TreeValue}
use Rattle.rt_tree.proofs.CellLaws.{is_run, visible_found}
use Rattle.rt_tree.proofs.Kept.{few_runs, shows}
use Rattle.rt_tree.proofs.tree.Tree.find.Goals as goal

pub find-found-requires-clause-few : goal.find-found-requires-clause-few
find-found-requires-clause-few c = let s = c.self.inside in few_runs s.mem s.root.index s.text.items s.runs c.self.invariant.kept

pub find-found-requires-clause-within : goal.find-found-requires-clause-within
find-found-requires-clause-within c =
    let s = c.self.inside in
    let h = shows s.mem s.root.index s.text.items s.runs c.self.invariant.kept s.sums.each.items c.args.self.now c.self.view_is in
    omega (arith, h.visible, c.requires.within)

pub cell_in-requires-clause-run : goal.cell_in-requires-clause-run
cell_in-requires-clause-run c =
    let s = c.self.inside in
    let f = c.find-found.result in
    let st = c.find-found.ensures.run in
    subst (λ (text : List ℕ). IsRun text f.run) (sym c.deref.ensures.value) (is_run s.text.items (tree_runs s.mem s.root.index) f.run f.before f.spot.offset c.args.place c.self.invariant.kept.kept st.left st.right st.here)

pub returns-clause-cell : goal.returns-clause-cell
returns-clause-cell c =
    let s = c.self.inside in
    let f = c.find-found.result in
    ap (λ (x : TreeValue). slice_get (visible_of x.cells) c.args.place) (sym c.self.view_is)
    ∙ visible_found s.text.items (tree_runs s.mem s.root.index) f.run f.before f.spot.offset c.args.place c.self.invariant.kept.kept c.find-found.ensures.run
    ∙ ap (λ (text : List ℕ). slice_get (run_cells text f.run) f.spot.offset) (sym c.deref.ensures.value)
    ∙ c.cell_in.ensures
