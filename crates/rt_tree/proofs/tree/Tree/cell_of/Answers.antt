use Rattle.std.proofs.Common.{ℕ, ◌+◌, ◌-◌, List, slice_get, ap, ◌∙◌, sym, subst}
use Rattle.rt_store.specs.Cells.{cell_of}
use Rattle.rt_store.proofs.Finding.{found_nowhere, found_there}
use Rattle.rt_tree.specs.Runs.{IsRun, cells_of_runs, run_cells}
use Rattle.rt_tree.specs.Shape.{tree_runs}
use Rattle.rt_tree.specs.Trees.{TreeValue}
use Rattle.rt_tree.proofs.CellLaws.{is_run, nth_found}
use Rattle.rt_tree.proofs.Housing.{is_here, is_nowhere, there_at}
use Rattle.rt_tree.proofs.Kept.{few_runs}
use Rattle.rt_tree.proofs.tree.Tree.cell_of.Goals as goal

pub look_up-requires-clause-few : goal.look_up-requires-clause-few
look_up-requires-clause-few c = let s = c.self.inside in few_runs s.mem s.root.index s.text.items s.runs c.self.invariant.kept

pub returns-in-Nowhere : goal.returns-in-Nowhere
returns-in-Nowhere c =
    let s = c.self.inside in
    let none = c.in-Nowhere.ensures in
    let all = cells_of_runs s.text.items (tree_runs s.mem s.root.index) in
    found_nowhere all c.args.stamp (sym (is_nowhere s.text.items (tree_runs s.mem s.root.index) s.homes.leaves c.args.stamp c.self.invariant.kept.kept (c.self.invariant.home none.0) none.1))
    ∙ ap (λ (x : TreeValue). cell_of x.cells c.args.stamp) c.self.view_is

pub cell-requires-clause-run : goal.cell-requires-clause-run
cell-requires-clause-run c =
    let s = c.self.inside in let h = c.in-At.home in let e = c.in-At.ensures in
    let runs = tree_runs s.mem s.root.index in
    let st = there_at runs h.run h.before c.args.stamp e.home e.with_stamp in
    subst (λ (text : List ℕ). IsRun text h.run) (sym c.deref.ensures.value) (is_run s.text.items runs h.run h.before (c.args.stamp.count - h.run.first) (h.before.cells + (c.args.stamp.count - h.run.first)) c.self.invariant.kept.kept st.left st.right st.here)

pub returns-in-At : goal.returns-in-At
returns-in-At c =
    let s = c.self.inside in let h = c.in-At.home in let e = c.in-At.ensures in
    let runs = tree_runs s.mem s.root.index in let all = cells_of_runs s.text.items runs in
    let offset = c.args.stamp.count - h.run.first in
    let here = is_here s.text.items runs s.homes.leaves c.args.stamp c.self.invariant.kept.kept (c.self.invariant.home e.sure) h.run h.before e.home e.with_stamp in
    let found = nth_found s.text.items runs h.run h.before offset (h.before.cells + offset) c.self.invariant.kept.kept (there_at runs h.run h.before c.args.stamp e.home e.with_stamp) in
    sym c.cell.ensures
    ∙ ap (λ (text : List ℕ). slice_get (run_cells text h.run) offset) c.deref.ensures.value
    ∙ sym found
    ∙ found_there all c.args.stamp (h.before.cells + offset) (sym here)
    ∙ ap (λ (x : TreeValue). cell_of x.cells c.args.stamp) c.self.view_is

pub look_up-requires-clause-held : goal.look_up-requires-clause-held
look_up-requires-clause-held c = c.self.invariant.last
