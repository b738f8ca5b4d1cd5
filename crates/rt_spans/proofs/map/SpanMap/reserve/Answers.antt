use Rattle.std.proofs.Common.{◌∙◌, List, ◌^◌, Option, None, ap, arith, cond, inl, inr, nat_lt, refl, subst, sym, vec_len}
use Rattle.std.proofs.lemmas.Result.{err_from_is_err_and}
use Rattle.rt_spans.specs.declared.block.Block.{Block}
use Rattle.rt_spans.specs.Blocks.{in_blocks}
use Rattle.rt_spans.specs.Ranks.{rank}
use Rattle.rt_spans.specs.Spans.{value_at}
use Rattle.rt_spans.specs.Room.{Affords, debt}
use Rattle.rt_spans.specs.Shown.{IsValueBorder, SpanMapValue, value_of}
use Rattle.rt_spans.proofs.Debts.{debt_bound}
use Rattle.rt_spans.proofs.Grounding.{grounding_keeps}
use Rattle.rt_spans.proofs.Held.{same_shown}
use Rattle.rt_spans.proofs.map.SpanMap.reserve.Goals as goal

pub invariant_of-self-2 : goal.invariant_of-self-2
invariant_of-self-2 g c =
    record {
      rising = c.ground.ensures.rising;
      grounded = λ _. c.ground.ensures.grounded;
      room = c.ground.ensures.room;
      spares = c.ground.ensures.spares;
      free = omega (arith, c.ground.ensures.len, c.ground.ensures.capacity, c.in_ok-reserve.ensures.ok, c.reserve.ensures.len, c.fill.ensures.bound);
      begun = λ _. c.ground.ensures.begun;
      afforded = c.spares_for.ensures.enough _ _ _ (omega (arith, c.ground.ensures.len, c.ground.ensures.left, c.reserve.ensures.len, c.len.ensures)) (debt_bound _ c.ground.ensures.room) (omega (arith, c.ground.ensures.left, c.in_ok-fill.ensures.ok, c.max-count.ensures));
    }

pub returns-in_err-reserve : goal.returns-in_err-reserve
returns-in_err-reserve g c =
    let (y, is, gives) = err_from_is_err_and c.from_residual.result c.from_residual.ensures.1 in
    let same = same_shown c.reserve.new.self.items c.self.inside.blocks.items c.self.inside.left c.in_err-reserve.ensures.items ∙ c.self.view_is in
    rw (is, gives) (record {
      values = λ stamp. ap (λ (m : SpanMapValue g.row.V.Denot). value_of m stamp) same;
      borders = λ site count was. subst (λ (m : SpanMapValue g.row.V.Denot). IsValueBorder m site count) (sym same) was;
      ok = tt;
      kept = tt;
      err = same;
      fault = refl;
      roomy = λ h. absurd (omega (arith, rw (← c.self.view_is) at h, c.if-entries-self.false));
    })

pub invariant_of-self : goal.invariant_of-self
invariant_of-self g c =
    let items = c.in_err-reserve.ensures.items in
    let kept = c.self.invariant in
    record {
      rising = rw items kept.rising;
      grounded = rw (c.in_err-reserve.ensures.len, items) kept.grounded;
      room = rw items kept.room;
      spares = kept.spares;
      free = omega (arith, kept.free, c.in_err-reserve.ensures.len, c.in_err-reserve.ensures.capacity);
      begun = rw c.in_err-reserve.ensures.len kept.begun;
      afforded = rw items kept.afforded;
    }

pub returns-in_err-fill : goal.returns-in_err-fill
returns-in_err-fill g c =
    let (y, is, gives) = err_from_is_err_and c.from_residual-in_err-fill.result c.from_residual-in_err-fill.ensures.1 in
    let same = same_shown c.reserve.new.self.items c.self.inside.blocks.items c.self.inside.left c.in_ok-reserve.ensures.items ∙ c.self.view_is in
    rw (is, gives) (record {
      values = λ stamp. ap (λ (m : SpanMapValue g.row.V.Denot). value_of m stamp) same;
      borders = λ site count was. subst (λ (m : SpanMapValue g.row.V.Denot). IsValueBorder m site count) (sym same) was;
      ok = tt;
      kept = tt;
      err = same;
      fault = refl;
      roomy = λ h. absurd (omega (arith, rw (← c.self.view_is) at h, c.if-entries-self.false));
    })

pub invariant_of-self-in_err-fill : goal.invariant_of-self-in_err-fill
invariant_of-self-in_err-fill g c =
    let items = c.in_ok-reserve.ensures.items in
    let kept = c.self.invariant in
    let more = elim kept.afforded as (λ _. Affords (vec_len c.fill.new.spare) (debt c.self.inside.blocks.items) c.self.inside.left) [
      | inl s ↦ inl (omega (arith, s, c.in_err-fill.ensures.grows))
      | inr s ↦ inr (omega (arith, s, c.in_err-fill.ensures.grows))
    ] in
    record {
      rising = rw items kept.rising;
      grounded = rw (c.in_ok-reserve.ensures.len, items) kept.grounded;
      room = rw items kept.room;
      spares = c.in_err-fill.ensures.spares;
      free = omega (arith, c.in_ok-reserve.ensures.ok, c.in_ok-reserve.ensures.len, c.in_err-fill.ensures.bound);
      begun = rw c.in_ok-reserve.ensures.len kept.begun;
      afforded = rw items more;
    }

pub ground-requires-clause-rising : goal.ground-requires-clause-rising
ground-requires-clause-rising g c = rw c.in_ok-reserve.ensures.items c.self.invariant.rising

pub ground-requires-clause-grounded : goal.ground-requires-clause-grounded
ground-requires-clause-grounded g c = rw (c.in_ok-reserve.ensures.len, c.in_ok-reserve.ensures.items) c.self.invariant.grounded

pub ground-requires-clause-room : goal.ground-requires-clause-room
ground-requires-clause-room g c = rw c.in_ok-reserve.ensures.items c.self.invariant.room

pub ground-requires-clause-free : goal.ground-requires-clause-free
ground-requires-clause-free g c = omega (arith, c.in_ok-reserve.ensures.ok, c.in_ok-reserve.ensures.len, c.in_ok-fill.ensures.bound)

pub returns-clause-values : goal.returns-clause-values
returns-clause-values g c =
    λ stamp.
    let s = rank stamp.site stamp.count in
    let same = c.ground.ensures.values s ∙ ap (λ (items : List (Block g.row.V.Denot)). value_at s (in_blocks items)) c.in_ok-reserve.ensures.items in
    ap (λ (v : Option g.row.V.Denot). cond (nat_lt stamp.count (2 ^ 64)) v None) same ∙ ap (λ (m : SpanMapValue g.row.V.Denot). value_of m stamp) c.self.view_is

pub returns-clause-borders : goal.returns-clause-borders
returns-clause-borders g c =
    λ site count was.
    let had = rw (← c.self.view_is) at was in
    grounding_keeps (rank site count) c.reserve.new.self.items c.ground.new.blocks.items (λ some. c.ground.ensures.kept (omega (arith, some))) (rw c.in_ok-reserve.ensures.items had)
