use Rattle.std.proofs.Common.{◌≡◌, ◌<◌, ◌+◌, ◌-◌, ◌∙◌, ap, arith, sym, drop, length, [], get_or, refl}
use Rattle.std.proofs.Math.Seq.{drop-length}
use Rattle.rt_marks.specs.Marks.{place_left, place_removed}
use Rattle.rt_marks.proofs.Leaving.{place_kept}
use Rattle.rt_plans.specs.declared.range.Range.{Range}
use Rattle.rt_plans.specs.Removals.{is_covered}
use Rattle.rt_text.proofs.MovingLaws.{forward_at, place_back}
use Rattle.rt_text.proofs.staying.place_after.Goals as goal

pub loop-i-init : goal.loop-i-init
loop-i-init c =
    let none : drop (length c.args.removed.now) c.args.removed.now ≡ [] = drop-length c.args.removed.now in
    record {
      within = omega arith;
      after = sym (ap (λ l. place_left (is_covered l) c.args.place) none ∙ place_kept (is_covered []) (λ p. refl) c.args.place);
    }

pub overflow_sub-range : goal.overflow_sub-range
overflow_sub-range c = forward_at c.args.removed.now (c.loop-i.i - 1) (record { from = 0; to = 0 }) (omega (arith, c.loop-i.invariant.within, c.loop-i-test.true)) c.requires

pub loop-i-preserved : goal.loop-i-preserved
loop-i-preserved c =
    let removed = c.args.removed.now in
    let d : Range = record { from = 0; to = 0 } in
    let j = c.loop-i.i - 1 in
    let range : Range = get_or removed j d in
    let next : c.loop-i.i ≡ j + 1 = omega (arith, c.loop-i-test.true) in
    let here : j < length removed = omega (arith, c.loop-i.invariant.within, c.loop-i-test.true) in
    record {
      within = omega (arith, c.loop-i.invariant.within);
      after = c.place_removed-after.ensures
          ∙ ap (place_removed range.from (range.to - range.from)) (c.loop-i.invariant.after ∙ ap (λ k. place_left (is_covered (drop k removed)) c.args.place) next)
          ∙ place_back removed j d c.args.place here c.requires;
    }

pub returns : goal.returns
returns c =
    let done : c.loop-i.i ≡ 0 = omega (arith, c.loop-i-test.false) in
    c.loop-i.invariant.after ∙ ap (λ k. place_left (is_covered (drop k c.args.removed.now)) c.args.place) done
