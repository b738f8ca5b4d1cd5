use Rattle.std.proofs.Common.{◌≡◌, get_or, ap, ◌<◌, ◌∙◌, arith, length}
use Rattle.std.proofs.lemmas.List.{length-set}
use Rattle.rt_rga.specs.Taken.{is_in_runs}
use Rattle.rt_text.specs.Widgets.{widget_inserted, widget_without}
use Rattle.rt_text.specs.declared.widget.Widget.{Widget}
use Rattle.rt_plans.proofs.SelectionLaws.{done_more, rest_more}
use Rattle.rt_text.specs.Owned.{widget_value}
use Rattle.rt_text.proofs.PeerLaws.{rest_same}
use Rattle.rt_text.proofs.others.follow_each.Goals as goal

pub follow-requires-clause-runs : goal.follow-requires-clause-runs
follow-requires-clause-runs c = c.requires.runs

pub follow-requires-clause-insert : goal.follow-requires-clause-insert
follow-requires-clause-insert c =
    let xs = c.args.others.now in
    let ys = c.loop-i.others in
    let i = c.loop-i.i in
    let d = c.index-others-i.result in
    let known = c.loop-i.invariant in
    let lt : i < length xs = omega (arith, c.loop-i-test.true) in
    let here = c.requires.fits i d lt in
    let same : (get_or ys i d).insert.place ≡ (get_or xs i d).insert.place = ap (λ (p : Widget). p.insert.place) (rest_same xs ys i d lt known.len known.rest) in
    omega (arith, here.0, same)

pub follow-requires-clause-current : goal.follow-requires-clause-current
follow-requires-clause-current c =
    let xs = c.args.others.now in
    let ys = c.loop-i.others in
    let i = c.loop-i.i in
    let d = c.index-others-i.result in
    let known = c.loop-i.invariant in
    let lt : i < length xs = omega (arith, c.loop-i-test.true) in
    let here = c.requires.fits i d lt in
    let same : (get_or ys i d).current.place ≡ (get_or xs i d).current.place = ap (λ (p : Widget). p.current.place) (rest_same xs ys i d lt known.len known.rest) in
    omega (arith, here.1, same)

pub loop-i-preserved : goal.loop-i-preserved
loop-i-preserved c =
    let xs = c.args.others.now in
    let ys = c.loop-i.others in
    let i = c.loop-i.i in
    let d = c.index-others-i.result in
    let x = c.follow.new.self in
    let known = c.loop-i.invariant in
    let lt : i < length xs = omega (arith, c.loop-i-test.true) in
    record {
      done = done_more widget_value xs ys i d lt known.len known.rest (λ own. widget_without (is_in_runs c.args.change.now.removed.items) (widget_inserted c.args.change.now.place c.args.change.now.inserted own)) x known.done c.follow.ensures;
      rest = rest_more widget_value xs ys i d lt known.len known.rest x;
      len = length-set ys i x ∙ known.len;
    }
