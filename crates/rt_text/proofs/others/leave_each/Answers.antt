use Rattle.std.proofs.Common.{◌<◌, ◌∙◌, arith, length}
use Rattle.std.proofs.lemmas.List.{length-set}
use Rattle.rt_plans.specs.Removals.{is_covered}
use Rattle.rt_text.specs.Widgets.{widget_without}
use Rattle.rt_plans.proofs.SelectionLaws.{done_more, rest_more}
use Rattle.rt_text.specs.Owned.{widget_value}
use Rattle.rt_text.proofs.others.leave_each.Goals as goal

pub loop-i-preserved : goal.loop-i-preserved
loop-i-preserved c =
    let xs = c.args.others.now in
    let ys = c.loop-i.others in
    let i = c.loop-i.i in
    let d = c.index-others-i.result in
    let x = c.leave.new.self in
    let known = c.loop-i.invariant in
    let lt : i < length xs = omega (arith, c.loop-i-test.true) in
    record {
      done = done_more widget_value xs ys i d lt known.len known.rest (widget_without (is_covered c.args.removed.now)) x known.done c.leave.ensures;
      rest = rest_more widget_value xs ys i d lt known.len known.rest x;
      len = length-set ys i x ∙ known.len;
    }
