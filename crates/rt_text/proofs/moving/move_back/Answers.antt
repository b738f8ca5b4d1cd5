use Rattle.std.proofs.Common.{◌≡◌, ◌<◌, ◌+◌, ◌-◌, ◌∙◌, ap, arith, sym, drop, length, [], get_or, refl}
use Rattle.std.proofs.Math.Seq.{drop-length}
use Rattle.rt_marks.specs.Marks.{marks_left, marks_removed}
use Rattle.rt_marks.proofs.Leaving.{marks_kept}
use Rattle.rt_plans.specs.declared.range.Range.{Range}
use Rattle.rt_plans.specs.Removals.{is_covered}
use Rattle.rt_text.proofs.MovingLaws.{forward_at, marks_back}
use Rattle.rt_text.proofs.moving.move_back.Goals as goal

pub loop-i-init : goal.loop-i-init
loop-i-init c =
    let none : drop (length c.args.removed.now) c.args.removed.now ≡ [] = drop-length c.args.removed.now in
    record {
      within = omega arith;
      marks = sym (ap (λ l. marks_left (is_covered l) c.args.marks.now) none ∙ marks_kept (is_covered []) (λ p. refl) c.args.marks.now c.order.ensures.in_order);
    }

pub overflow_sub-range : goal.overflow_sub-range
overflow_sub-range c = forward_at c.args.removed.now (c.loop-i.i - 1) (record { from = 0; to = 0 }) (omega (arith, c.loop-i.invariant.within, c.loop-i-test.true)) c.requires

pub loop-i-preserved : goal.loop-i-preserved
loop-i-preserved c =
    let removed = c.args.removed.now in
    let d : Range = record { from = 0; to = 0 } in
    let j = c.loop-i.i - 1 in
    let range : Range = get_or removed j d in
    let n = range.to - range.from in
    let next : c.loop-i.i ≡ j + 1 = omega (arith, c.loop-i-test.true) in
    let here : j < length removed = omega (arith, c.loop-i.invariant.within, c.loop-i-test.true) in
    record {
      within = omega (arith, c.loop-i.invariant.within);
      marks = c.removed.ensures ∙ ap (marks_removed range.from n) (c.loop-i.invariant.marks ∙ ap (λ k. marks_left (is_covered (drop k removed)) c.args.marks.now) next) ∙ marks_back removed j d c.args.marks.now here c.requires;
    }

pub returns : goal.returns
returns c =
    let done : c.loop-i.i ≡ 0 = omega (arith, c.loop-i-test.false) in
    c.loop-i.invariant.marks ∙ ap (λ k. marks_left (is_covered (drop k c.args.removed.now)) c.args.marks.now) done
