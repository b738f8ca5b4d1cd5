use Rattle.std.proofs.Common.{◌^◌, ◌&&◌, nat_lt, None, Some, cond, ap, arith, inl, sym, subst, ◌∙◌}
use Rattle.rt_spans.specs.Blocks.{in_blocks}
use Rattle.rt_spans.specs.Ranks.{rank}
use Rattle.rt_spans.specs.Shown.{is_in_span, value_of}
use Rattle.rt_spans.specs.Spans.{AreRisingFrom, Has, value_at}
use Rattle.rt_spans.proofs.Borders.{either}
use Rattle.rt_spans.proofs.Debts.{affords_less}
use Rattle.rt_spans.proofs.Held.{same_shown, set_values}
use Rattle.rt_spans.proofs.Ranks.{beside}
use Rattle.rt_spans.proofs.Thinning.{some_entry}
use Rattle.rt_spans.proofs.map.SpanMap.repaint.Goals as goal

pub invariant_of-self : goal.invariant_of-self
invariant_of-self g c =
    let was = c.self.invariant in
    let now = c.repaint.ensures in
    record {
      rising = either c.repaint.result
          (λ t. (now.painted t).rising)
          (λ f. subst (λ bs. AreRisingFrom 0 (in_blocks bs)) (sym (now.unchanged f)) was.rising);
      grounded = λ some. either c.repaint.result
          (λ t. (now.painted t).keeps 0 (inl (omega arith)) (was.grounded (omega (arith, some_entry _ c.self.inside.blocks.items (now.borders.0 t).0))))
          (λ f. subst (λ bs. Has 0 (in_blocks bs)) (sym (now.unchanged f)) (was.grounded (omega (arith, some, now.len))));
      room = now.room;
      spares = was.spares;
      free = omega (arith, now.len, now.capacity, was.free);
      begun = λ left. now.begun (was.begun left);
      afforded = affords_less _ _ _ _ now.debt was.afforded;
    }

pub returns-clause-values : goal.returns-clause-values
returns-clause-values g c =
    λ stamp.
    let old = value_of c.args.self.now stamp in
    let inside = is_in_span c.args.span stamp in
    let now = c.repaint.ensures in
    either c.repaint.result
    (λ t. set_values c.args.span stamp c.args.value _ _ _ (λ s. (now.painted t).values s) (ap (λ m. value_of m stamp) c.self.view_is) (omega (arith, c.requires.order, c.requires.bound)) (omega (arith, c.requires.bound)) ∙ ap (λ r. cond (r && inside) (Some c.args.value) old) (sym t))
    (λ f. ap (λ bs. cond (nat_lt stamp.count (2 ^ 64)) (value_at (rank stamp.site stamp.count) (in_blocks bs)) None) (now.unchanged f) ∙ ap (λ m. value_of m stamp) c.self.view_is ∙ ap (λ r. cond (r && inside) (Some c.args.value) old) (sym f))

pub returns-clause-kept : goal.returns-clause-kept
returns-clause-kept g c =
    λ site count bound was out.
    let span = c.args.span in
    let now = c.repaint.ensures in
    let had = rw (← c.self.view_is) at was in
    either c.repaint.result
    (λ t. (now.painted t).keeps (rank site count) (beside span.site span.first span.last site count bound (omega (arith, c.requires.bound)) out) had)
    (λ f. subst (λ bs. Has (rank site count) (in_blocks bs)) (sym (now.unchanged f)) had)

pub returns-clause-unchanged : goal.returns-clause-unchanged
returns-clause-unchanged g c =
    λ f. same_shown _ _ _ (c.repaint.ensures.unchanged f) ∙ c.self.view_is
