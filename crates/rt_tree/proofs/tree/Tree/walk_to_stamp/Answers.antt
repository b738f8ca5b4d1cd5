use Rattle.std.proofs.Common.{◌+◌, ◌-◌, ◌≤◌, length, arith, sym, ap, ◌∙◌}
use Rattle.rt_tree.specs.Runs.{cells_of_runs}
use Rattle.rt_tree.specs.Shape.{tree_runs}
use Rattle.rt_tree.specs.Trees.{TreeValue}
use Rattle.rt_tree.proofs.Kept.{few_runs, shows}
use Rattle.rt_tree.proofs.Positions.{before, fits_here, found_is, has_within, stamp_here, stamp_later}
use Rattle.rt_tree.proofs.tree.Tree.walk_to_stamp.Goals as goal

pub run_near-found-requires-clause-few : goal.run_near-found-requires-clause-few
run_near-found-requires-clause-few c = let s = c.self.inside in few_runs s.mem s.root.index s.text.items s.runs c.self.invariant.kept

pub run_near-found-requires-clause-within : goal.run_near-found-requires-clause-within
run_near-found-requires-clause-within c =
    let s = c.self.inside in
    let h = shows s.mem s.root.index s.text.items s.runs c.self.invariant.kept s.sums.each.items c.args.self.now c.self.view_is in
    omega (arith, h.cells, c.loop-at-test.true, c.cells-all.ensures)

pub returns-then-has : goal.returns-then-has
returns-then-has c =
    let s = c.self.inside in
    let f = c.run_near-found.result in
    let all = tree_runs s.mem s.root.index in
    let kept = c.self.invariant.kept.kept in
    let same = ap (λ (x : TreeValue). before x.cells c.args.stamp) c.self.view_is in
    let long = ap (λ (x : TreeValue). length x.cells) c.self.view_is in
    let low : c.loop-at.at ≤ before (cells_of_runs s.text.items all) c.args.stamp = omega (arith, c.loop-at.invariant, same) in
    let yes_has = sym c.has.ensures ∙ c.if-has.true in
    let here = stamp_here s.text.items all f.run f.before f.spot.offset c.loop-at.at kept c.args.stamp low c.run_near-found.ensures yes_has in
    let fits = fits_here s.text.items all f.run f.before f.spot.offset c.loop-at.at kept c.args.stamp low c.run_near-found.ensures in
    let inside = has_within f.run c.args.stamp yes_has in
    found_is c.args.self.now.cells c.args.stamp (c.loop-at.at - f.spot.offset + (c.args.stamp.count - f.run.first)) (here ∙ same) (omega (arith, fits, inside, long))

pub loop-at-preserved : goal.loop-at-preserved
loop-at-preserved c =
    let s = c.self.inside in
    let f = c.run_near-found.result in
    let all = tree_runs s.mem s.root.index in
    let same = ap (λ (x : TreeValue). before x.cells c.args.stamp) c.self.view_is in
    let low : c.loop-at.at ≤ before (cells_of_runs s.text.items all) c.args.stamp = omega (arith, c.loop-at.invariant, same) in
    let later = stamp_later s.text.items all f.run f.before f.spot.offset c.loop-at.at c.self.invariant.kept.kept c.args.stamp low c.run_near-found.ensures (sym c.has.ensures ∙ c.if-has.false) in
    omega (arith, later, same)

pub run_near-found-requires-clause-held : goal.run_near-found-requires-clause-held
run_near-found-requires-clause-held c = c.self.invariant.last
