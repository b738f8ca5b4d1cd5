use Rattle.std.proofs.Common.{arith, map, ap, ◌∙◌}
use Rattle.rt_tree.specs.Shape.{tree_runs}
use Rattle.rt_tree.specs.Sharing.{run_in}
use Rattle.rt_tree.proofs.Meeting.{counts_to, kept_to, then_all}
use Rattle.rt_tree.proofs.Housed.{stamps_then}
use Rattle.rt_tree.proofs.update.update_all.Goals as goal

pub update_runs-requires-clause-kept : goal.update_runs-requires-clause-kept
update_runs-requires-clause-kept c =
    let p = c.update_by_homes.ensures.part in
    kept_to c.args.span c.args.update.now p.0 (tree_runs c.args.mem.now c.args.root.index) (tree_runs c.update_by_homes.new.mem c.args.root.index) p.1 c.requires.kept

pub update_runs-requires-clause-few : goal.update_runs-requires-clause-few
update_runs-requires-clause-few c =
    let p = c.update_by_homes.ensures.part in
    let e = counts_to c.args.span c.args.update.now p.0 (tree_runs c.args.mem.now c.args.root.index) (tree_runs c.update_by_homes.new.mem c.args.root.index) p.1 in
    let f = c.requires.few in omega (arith, e, f)

pub returns-clause-runs : goal.returns-clause-runs
returns-clause-runs c =
    let p = c.update_by_homes.ensures.part in
    c.update_runs.ensures.runs ∙ ap (map (run_in c.args.span c.args.update.now)) p.1 ∙ then_all c.args.span c.args.update.now p.0 (tree_runs c.args.mem.now c.args.root.index)

pub returns-clause-stay : goal.returns-clause-stay
returns-clause-stay c = stamps_then c.args.mem.now c.update_by_homes.new.mem c.update_runs.new.mem c.update_by_homes.ensures.stay c.update_runs.ensures.stay
