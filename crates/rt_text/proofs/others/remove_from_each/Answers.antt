use Rattle.std.proofs.Common.{[], ◌∷◌, ◌<◌, ◌∙◌, arith, length}
use Rattle.std.proofs.lemmas.List.{length-set}
use Rattle.rt_plans.specs.Selections.{unselected}
use Rattle.rt_plans.proofs.SelectionLaws.{done_more, rest_more}
use Rattle.rt_text.specs.Owned.{widget_value}
use Rattle.rt_text.specs.Widgets.{reselected}
use Rattle.rt_text.proofs.others.remove_from_each.Goals as goal

pub loop-i-preserved : goal.loop-i-preserved
loop-i-preserved c =
    let xs = c.args.others.now in
    let ys = c.loop-i.others in
    let i = c.loop-i.i in
    let d = c.index-others-i.result in
    let x = c.unselect.new.self in
    let known = c.loop-i.invariant in
    let lt : i < length xs = omega (arith, c.loop-i-test.true) in
    record {
      done = done_more widget_value xs ys i d lt known.len known.rest (reselected (unselected (c.args.stamp ∷ []))) x known.done c.unselect.ensures;
      rest = rest_more widget_value xs ys i d lt known.len known.rest x;
      len = length-set ys i x ∙ known.len;
    }
