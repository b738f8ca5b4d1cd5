use Rattle.std.proofs.Common.{◌≡◌, ◌∙◌, ◌+◌, ◌-◌, ◌<◌, ap, arith, drop, get_or, length, sym}
use Rattle.rt_marks.specs.Marks.{place_left}
use Rattle.rt_plans.specs.declared.range.Range.{Range}
use Rattle.rt_plans.specs.Removals.{is_covered}
use Rattle.rt_text.proofs.StayingPlaces.{before_free, before_left, before_more, before_of, passed_all, passed_order, passing_all, passing_not}
use Rattle.rt_text.proofs.staying.place_before.Goals as goal
use Rattle.rt_text.proofs.staying.place_before.Goals.{then-range-before, else-range-before}

pub returns-clause-stays : goal.returns-clause-stays
returns-clause-stays c =
    let all : c.loop-range.before ≡ before_of c.args.removed.now c.args.place =
    passed_all c.args.removed.now c.loop-range.range-index c.loop-range.before c.args.place c.loop-range-test.false c.loop-range.invariant.at in
    ap (is_covered c.args.removed.now) all ∙ before_free 0 c.args.removed.now c.args.place c.requires.order

pub returns-clause-place : goal.returns-clause-place
returns-clause-place c =
    let all : c.loop-range.before ≡ before_of c.args.removed.now c.args.place =
    passed_all c.args.removed.now c.loop-range.range-index c.loop-range.before c.args.place c.loop-range-test.false c.loop-range.invariant.at in
    ap (place_left (is_covered c.args.removed.now)) all ∙ before_left 0 c.args.removed.now c.args.place c.requires.order

pub loop-range-preserved : goal.loop-range-preserved
loop-range-preserved c =
    let removed = c.args.removed.now in
    let place = c.args.place in
    let i = c.loop-range.range-index in
    let old = c.loop-range.before in
    let d : Range = record { from = 0; to = 0 } in
    let range : Range = get_or removed i d in
    let here : i < length removed = omega (arith, c.loop-range-test.true) in
    let inv = c.loop-range.invariant in
    elim c.if-range-before.branch [
      | then-range-before w ↦ record {
        at = ap (before_of (drop (i + 1) removed)) (w.before-is ∙ sym (passing_all range old w.if-range-before.true)) ∙ sym (before_more removed i old d here) ∙ inv.at;
        from = omega (arith, w.before-is, inv.from);
        order = passed_order removed i (old - place) d here inv.order (c.if-range-before.before - place) (omega (arith, w.before-is, inv.from));
      }
      | else-range-before w ↦ record {
        at = ap (before_of (drop (i + 1) removed)) (w.before-is ∙ sym (passing_not range old w.if-range-before.false)) ∙ sym (before_more removed i old d here) ∙ inv.at;
        from = omega (arith, w.before-is, inv.from);
        order = passed_order removed i (old - place) d here inv.order (c.if-range-before.before - place) (omega (arith, w.before-is, inv.from));
      }
    ]
