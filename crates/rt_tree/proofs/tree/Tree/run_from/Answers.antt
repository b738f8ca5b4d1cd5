use Rattle.std.proofs.Common.{arith, ℕ, ◌+◌, ◌-◌, ◌<◌, List, slice_get, ap, ◌∙◌, sym, subst}
use Rattle.std.proofs.lemmas.Bool.Decides.{nat_tests}
use Rattle.rt_store.specs.Cells.{GoOnTo, cell_of}
use Rattle.rt_store.proofs.Finding.{found_nowhere, found_there}
use Rattle.rt_tree.specs.Runs.{IsRun, cells_of_runs, run_cells}
use Rattle.rt_tree.specs.Shape.{tree_runs}
use Rattle.rt_tree.specs.Trees.{TreeValue}
use Rattle.rt_tree.proofs.CellLaws.{is_run, nth_found}
use Rattle.rt_tree.proofs.Housing.{is_here, is_nowhere, there_at}
use Rattle.rt_tree.proofs.Onward.{goes_on}
use Rattle.rt_tree.proofs.tree.Tree.run_from.Goals as goal

pub run_with-requires-clause-held : goal.run_with-requires-clause-held
run_with-requires-clause-held c = c.self.invariant.last

pub returns-in-Nowhere-clause-cell : goal.returns-in-Nowhere-clause-cell
returns-in-Nowhere-clause-cell c =
    let s = c.self.inside in
    let none = c.in-Nowhere.ensures in
    let all = cells_of_runs s.text.items (tree_runs s.mem s.root.index) in
    found_nowhere all c.args.stamp (sym (is_nowhere s.text.items (tree_runs s.mem s.root.index) s.homes.leaves c.args.stamp c.self.invariant.kept.kept (c.self.invariant.home none.0) none.1))
    ∙ ap (λ (x : TreeValue). cell_of x.cells c.args.stamp) c.self.view_is

pub rest_from-requires-clause-run : goal.rest_from-requires-clause-run
rest_from-requires-clause-run c =
    let s = c.self.inside in let r = c.in-Is.run' in let e = c.in-Is.ensures in
    let runs = tree_runs s.mem s.root.index in
    let st = there_at runs r e.front c.args.stamp e.stands e.with_stamp in
    subst (λ (text : List ℕ). IsRun text r) (sym c.deref.ensures.value) (is_run s.text.items runs r e.front (c.args.stamp.count - r.first) (e.front.cells + (c.args.stamp.count - r.first)) c.self.invariant.kept.kept st.left st.right st.here)

pub returns-in-Is-clause-cell : goal.returns-in-Is-clause-cell
returns-in-Is-clause-cell c =
    let s = c.self.inside in let r = c.in-Is.run' in let e = c.in-Is.ensures in
    let runs = tree_runs s.mem s.root.index in let all = cells_of_runs s.text.items runs in
    let offset = c.args.stamp.count - r.first in
    let here = is_here s.text.items runs s.homes.leaves c.args.stamp c.self.invariant.kept.kept (c.self.invariant.home e.sure) r e.front e.stands e.with_stamp in
    let found = nth_found s.text.items runs r e.front offset (e.front.cells + offset) c.self.invariant.kept.kept (there_at runs r e.front c.args.stamp e.stands e.with_stamp) in
    sym c.rest_from.ensures.cell
    ∙ ap (λ (text : List ℕ). slice_get (run_cells text r) offset) c.deref.ensures.value
    ∙ sym found
    ∙ found_there all c.args.stamp (e.front.cells + offset) (sym here)
    ∙ ap (λ (x : TreeValue). cell_of x.cells c.args.stamp) c.self.view_is

pub returns-in-Is-clause-run : goal.returns-in-Is-clause-run
returns-in-Is-clause-run c =
    let s = c.self.inside in let r = c.in-Is.run' in let e = c.in-Is.ensures in
    let runs = tree_runs s.mem s.root.index in
    let offset = c.args.stamp.count - r.first in
    let here = is_here s.text.items runs s.homes.leaves c.args.stamp c.self.invariant.kept.kept (c.self.invariant.home e.sure) r e.front e.stands e.with_stamp in
    let st = there_at runs r e.front c.args.stamp e.stands e.with_stamp in
    let good = is_run s.text.items runs r e.front offset (e.front.cells + offset) c.self.invariant.kept.kept st.left st.right st.here in
    let found = ap (λ (text : List ℕ). slice_get (run_cells text r) offset) (sym c.deref.ensures.value) ∙ c.rest_from.ensures.cell in
    let low : c.rest_from.result.last < r.first + r.len = (let l = c.rest_from.ensures.last in let some = good.some in grind (arith, l, some, nat_tests)) in
    subst (λ (x : TreeValue). GoOnTo x.cells c.rest_from.result.cell c.rest_from.result.last) c.self.view_is
    (goes_on s.text.items runs r e.front c.args.stamp c.self.invariant.kept.kept e.stands e.with_stamp c.rest_from.result.cell c.rest_from.result.last here found low)
