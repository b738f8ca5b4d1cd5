use Rattle.std.proofs.Common.{◌+◌, ◌-◌, Some, ap, ◌∙◌}
use Rattle.std.specs.Prelude.{option_map}
use Rattle.rt_store.specs.Cells.{position_of, visible_before}
use Rattle.rt_tree.specs.Runs.{cells_of_runs}
use Rattle.rt_tree.specs.Shape.{tree_runs}
use Rattle.rt_tree.specs.Trees.{TreeValue}
use Rattle.rt_tree.proofs.Housing.{is_here, there_at}
use Rattle.rt_tree.proofs.Positions.{visible_there}
use Rattle.rt_tree.proofs.tree.Tree.place_of.Goals as goal

pub returns-in-Some : goal.returns-in-Some
returns-in-Some c =
    let s = c.self.inside in let h = c.in-Some.home in let e = c.in-Some.ensures in
    let runs = tree_runs s.mem s.root.index in let all = cells_of_runs s.text.items runs in
    let offset = c.args.stamp.count - h.run.first in
    let here = is_here s.text.items runs s.homes.leaves c.args.stamp c.self.invariant.kept.kept (c.self.invariant.home e.sure) h.run h.before e.home e.has in
    let shown = visible_there s.text.items runs h.run h.before offset (h.before.cells + offset) c.self.invariant.kept.kept (there_at runs h.run h.before c.args.stamp e.home e.has) in
    ap Some c.place_in.ensures
    ∙ ap Some shown
    ∙ ap (option_map (visible_before all)) here
    ∙ ap (λ (x : TreeValue). option_map (visible_before x.cells) (position_of x.cells c.args.stamp)) c.self.view_is
