use Rattle.std.proofs.Common.{◌≡◌, ◌∙◌, ◌==◌, ℕ, List, ap, arith, false, inl, inr, min, refl, subst, sym, true}
use Rattle.std.proofs.lemmas.Bool.Decides.{nat_tests}
use Rattle.rt_stamps.specs.declared.stamp.Span.{Span}
use Rattle.rt_stamps.specs.Spans.{is_in_span}
use Rattle.rt_ops.specs.Operations.{Operation}
use Rattle.rt_oplog.specs.Logs.{known_end}
use Rattle.rt_rga.specs.Answers.{has_gap}
use Rattle.rt_rga.proofs.Skipping.{split}
use Rattle.rt_holding.specs.declared.waits.Key.{Key}
use Rattle.rt_holding.specs.Waking.{HasComeIn, IsSpanAmong, IsToCome, stamp_of_key}
use Rattle.rt_holding.proofs.Named.{among_at}
use Rattle.rt_holding.proofs.waking.passed_among.Goals as goal

abbrev part : Key → ℕ → Span
part key last = record { site = key.site; first = key.count; last = last }

came : (log : List Operation) (key : Key) (spans : List Span) (span : Span) (last known : ℕ) → (key.site ≡ 0 → ⊥) → IsSpanAmong spans span → is_in_span span (stamp_of_key key) ≡ true
    → last ≡ min span.last known → known ≡ known_end log key.site → has_gap log (part key last) ≡ false → HasComeIn log key spans span
came log key spans span last known z i h l k g = record {
  site = other key.site z;
  among = i;
  has = h;
  whole = sym (ap (λ n. has_gap log (part key n)) (l ∙ ap (min span.last) k)) ∙ g;
}
  where
    other : (n : ℕ) → (n ≡ 0 → ⊥) → (n == 0) ≡ false
    other n z = split (n == 0) (λ e. absurd (z (grind (arith, nat_tests, e)))) (λ e. e)

pub returns-then-known-span : goal.returns-then-known-span
returns-then-known-span g c =
    let log = g.T.Taking.log c.args.site.now in
    let span = c.in-Some.field-0.now in
    let known = c.known-known.ensures.known in
    let on = c.if-known-span.true in (
      span,
      came log c.args.key c.args.spans.now span c.min.result c.known-known.result c.if-key-eq0.false (among_at c.args.spans.now c.partition_point-index.result span c.in-Some.ensures.lookup.3.0 c.in-Some.ensures.lookup.1)
          (sym c.has_stamp.ensures ∙ c.if-not-has_stamp.false) c.min.ensures known (sym c.has_gap.ensures.gap ∙ c.if-has_gap.false),
      omega (arith, on, known),
      refl,
    )

pub returns-then-is_pending : goal.returns-then-is_pending
returns-then-is_pending g c =
    let log = g.T.Taking.log c.args.site.now in
    let span = c.in-Some.field-0.now in
    let known = c.known-known.ensures.known in
    let all = c.if-known-span.false in (
      span,
      came log c.args.key c.args.spans.now span c.min.result c.known-known.result c.if-key-eq0.false (among_at c.args.spans.now c.partition_point-index.result span c.in-Some.ensures.lookup.3.0 c.in-Some.ensures.lookup.1)
          (sym c.has_stamp.ensures ∙ c.if-not-has_stamp.false) c.min.ensures known (sym c.has_gap.ensures.gap ∙ c.if-has_gap.false),
      omega (arith, all, known),
      inr (subst (λ n. IsToCome n c.args.keys.now c.args.key c.args.spans.now) known (c.is_pending.ensures c.if-is_pending.true)),
    )

pub returns-then-is_any_open : goal.returns-then-is_any_open
returns-then-is_any_open g c =
    let log = g.T.Taking.log c.args.site.now in
    let span = c.in-Some.field-0.now in
    let known = c.known-known.ensures.known in
    let all = c.if-known-span.false in (
      span,
      came log c.args.key c.args.spans.now span c.min.result c.known-known.result c.if-key-eq0.false (among_at c.args.spans.now c.partition_point-index.result span c.in-Some.ensures.lookup.3.0 c.in-Some.ensures.lookup.1)
          (sym c.has_stamp.ensures ∙ c.if-not-has_stamp.false) c.min.ensures known (sym c.has_gap.ensures.gap ∙ c.if-has_gap.false),
      omega (arith, all, known),
      inl (c.is_any_open.ensures c.if-is_any_open.true),
    )
