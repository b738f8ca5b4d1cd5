use Rattle.std.proofs.Common.{arith, sym, ◌∙◌}
use Rattle.rt_tree.specs.Shape.{tree_runs}
use Rattle.rt_tree.specs.Sharing.{BeginsAt}
use Rattle.rt_tree.proofs.Cutting.{few_all}
use Rattle.rt_tree.proofs.Walking.{all_passed, begins_here, found_inside, passed_more}
use Rattle.rt_tree.proofs.cut.inside_by_walk.Goals as goal

pub cells_of-all-requires-clause-few : goal.cells_of-all-requires-clause-few
cells_of-all-requires-clause-few c = few_all (tree_runs c.args.mem.now c.args.root.index) c.requires.kept c.requires.few

pub run_at-found-requires-clause-few : goal.run_at-found-requires-clause-few
run_at-found-requires-clause-few c = few_all (tree_runs c.args.mem.now c.args.root.index) c.requires.kept c.requires.few

pub returns-then-is_within : goal.returns-then-is_within
returns-then-is_within c =
    let all = tree_runs c.args.mem.now c.args.root.index in let f = c.run_at-found.result in
    found_inside c.requires.kept.text all c.loop-at.at c.args.stamp f.run f.before f.spot.offset c.requires.kept.runs c.loop-at.invariant c.run_at-found.ensures (sym c.is_within.ensures ∙ c.if-is_within.true)

pub loop-at-preserved : goal.loop-at-preserved
loop-at-preserved c =
    let all = tree_runs c.args.mem.now c.args.root.index in let f = c.run_at-found.result in
    passed_more c.requires.kept.text all c.loop-at.at (BeginsAt c.args.stamp) f.run f.before f.spot.offset c.requires.kept.runs c.loop-at.invariant c.run_at-found.ensures (begins_here c.args.stamp f.run (sym c.is_within.ensures ∙ c.if-is_within.false))

pub returns : goal.returns
returns c =
    let all = tree_runs c.args.mem.now c.args.root.index in let e = c.cells_of-all.ensures in let t = c.loop-at-test.false in
    all_passed c.requires.kept.text all c.loop-at.at (BeginsAt c.args.stamp) c.requires.kept.runs c.loop-at.invariant (omega (arith, e, t))
