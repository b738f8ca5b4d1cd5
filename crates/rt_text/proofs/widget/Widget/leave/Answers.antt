use Rattle.std.proofs.Common.{◌≡◌, ◌<◌, ◌+◌, ◌-◌, ◌∙◌, ap, arith, sym, drop, length, [], get_or, refl}
use Rattle.std.proofs.Math.Seq.{drop-length}
use Rattle.rt_plans.specs.declared.range.Range.{Range}
use Rattle.rt_plans.specs.Removals.{is_covered}
use Rattle.rt_text.specs.Owned.{widget_value}
use Rattle.rt_text.specs.Widgets.{widget_without, widget_removed}
use Rattle.rt_text.proofs.MarkLaws.{own_kept}
use Rattle.rt_text.proofs.MovingLaws.{forward_at, own_back}
use Rattle.rt_text.proofs.widget.Widget.leave.Goals as goal

pub loop-i-init : goal.loop-i-init
loop-i-init c =
    let none : drop (length c.args.removed.now) c.args.removed.now ≡ [] = drop-length c.args.removed.now in
    record {
      within = omega arith;
      own = sym (ap (λ l. widget_without (is_covered l) (widget_value c.args.self.now)) none ∙ own_kept (is_covered []) (widget_value c.args.self.now) (λ p. refl));
    }

pub overflow_sub-range : goal.overflow_sub-range
overflow_sub-range c = forward_at c.args.removed.now (c.loop-i.i - 1) (record { from = 0; to = 0 }) (omega (arith, c.loop-i.invariant.within, c.loop-i-test.true)) c.requires

pub loop-i-preserved : goal.loop-i-preserved
loop-i-preserved c =
    let removed = c.args.removed.now in
    let d : Range = record { from = 0; to = 0 } in
    let j = c.loop-i.i - 1 in
    let range : Range = get_or removed j d in
    let n = range.to - range.from in
    let next : c.loop-i.i ≡ j + 1 = omega (arith, c.loop-i-test.true) in
    let here : j < length removed = omega (arith, c.loop-i.invariant.within, c.loop-i-test.true) in
    record {
      within = omega (arith, c.loop-i.invariant.within);
      own = c.removed.ensures ∙ ap (widget_removed range.from n) (c.loop-i.invariant.own ∙ ap (λ k. widget_without (is_covered (drop k removed)) (widget_value c.args.self.now)) next) ∙ own_back removed j d (widget_value c.args.self.now) here c.requires;
    }

pub returns : goal.returns
returns c =
    let done : c.loop-i.i ≡ 0 = omega (arith, c.loop-i-test.false) in
    c.loop-i.invariant.own ∙ ap (λ k. widget_without (is_covered (drop k c.args.removed.now)) (widget_value c.args.self.now)) done
