use Rattle.std.proofs.Common.{◌≡◌, ◌∙◌, ◌==◌, ◌||◌, ◌&&◌, Bool, true, false, ap, arith, min, refl, not}
use Rattle.std.proofs.lemmas.Bool.Decides.{nat_tests}
use Rattle.std.specs.List.{list_any}
use Rattle.rt_stamps.specs.declared.stamp.Span.{Span}
use Rattle.rt_rga.specs.Answers.{has_gap, up_to}
use Rattle.rt_rga.specs.Histories.{may_name}
use Rattle.rt_ops.specs.Operations.{Body, stamps_of_span}
use Rattle.rt_oplog.specs.Logs.{known_end}
use Rattle.rt_rga.proofs.Answering.{gap_kept, target_by, target_zero}
use Rattle.rt_rga.proofs.answer.has_bad_target.Goals as goal

pub returns-then-span-eq0 : goal.returns-then-span-eq0
returns-then-span-eq0 g c =
    c.names_other.ensures
    ∙ ap (λ (b : Body). list_any (λ s. not (may_name b s)) (stamps_of_span c.args.span)) c.edit.ensures.body
    ∙ target_zero c.args.log.now.operations c.args.op.now c.args.span c.if-span-eq0.true

by_gap : (h o t : Bool) → h ≡ true → (h || o) ≡ t → h ≡ t
by_gap h o t e f = grind (arith, e, f)

by_past : (h own past t : Bool) → h ≡ false → own ≡ true → (h || (own && past)) ≡ t → past ≡ t
by_past h own past t e o f = grind (arith, e, o, f)

by_own : (h own past t : Bool) → h ≡ false → own ≡ false → (h || (own && past)) ≡ t → own ≡ t
by_own h own past t e o f = grind (arith, e, o, f)

pub returns-then-has_gap : goal.returns-then-has_gap
returns-then-has_gap g c =
    let set = c.args.log.now.operations in
    let span = c.args.span in
    let zero : (span.site == 0) ≡ false = (let n = c.if-span-eq0.false in grind (arith, nat_tests)) in
    let low : Span = record { site = span.site; first = span.first; last = c.min.result } in
    let gap : c.has_gap.result ≡ has_gap set (up_to (known_end set span.site) span) =
    c.has_gap.ensures ∙ gap_kept set (g.S.TextStore.list c.args.store.now) c.requires.cells low
    ∙ (λ i. has_gap set (record { site = span.site; first = span.first; last = (c.min.ensures ∙ ap (min span.last) c.end_of-known.ensures) i })) in
    by_gap c.has_gap.result _ _ c.if-has_gap.true (target_by set c.args.op.now span c.has_gap.result _ _ zero gap refl refl)

pub returns-then-span-own : goal.returns-then-span-own
returns-then-span-own g c =
    let set = c.args.log.now.operations in
    let span = c.args.span in
    let zero : (span.site == 0) ≡ false = (let n = c.if-span-eq0.false in grind (arith, nat_tests)) in
    let low : Span = record { site = span.site; first = span.first; last = c.min.result } in
    let gap : c.has_gap.result ≡ has_gap set (up_to (known_end set span.site) span) =
    c.has_gap.ensures ∙ gap_kept set (g.S.TextStore.list c.args.store.now) c.requires.cells low
    ∙ (λ i. has_gap set (record { site = span.site; first = span.first; last = (c.min.ensures ∙ ap (min span.last) c.end_of-known.ensures) i })) in
    let own : (span.site == c.args.own.site) ≡ (span.site == c.args.op.now.site) = ap (λ site. span.site == site) c.requires.site in
    by_past c.has_gap.result (span.site == c.args.own.site) c.goes_past.result _ c.if-has_gap.false (let n = c.if-span-own.true in grind (arith, nat_tests, n))
    (target_by set c.args.op.now span c.has_gap.result (span.site == c.args.own.site) c.goes_past.result zero gap own c.goes_past.ensures)

pub returns-else-span-own : goal.returns-else-span-own
returns-else-span-own g c =
    let set = c.args.log.now.operations in
    let span = c.args.span in
    let zero : (span.site == 0) ≡ false = (let n = c.if-span-eq0.false in grind (arith, nat_tests)) in
    let low : Span = record { site = span.site; first = span.first; last = c.min.result } in
    let gap : c.has_gap.result ≡ has_gap set (up_to (known_end set span.site) span) =
    c.has_gap.ensures ∙ gap_kept set (g.S.TextStore.list c.args.store.now) c.requires.cells low
    ∙ (λ i. has_gap set (record { site = span.site; first = span.first; last = (c.min.ensures ∙ ap (min span.last) c.end_of-known.ensures) i })) in
    let own : (span.site == c.args.own.site) ≡ (span.site == c.args.op.now.site) = ap (λ site. span.site == site) c.requires.site in
    by_own c.has_gap.result (span.site == c.args.own.site) _ _ c.if-has_gap.false (let n = c.if-span-own.false in grind (arith, nat_tests, n))
    (target_by set c.args.op.now span c.has_gap.result (span.site == c.args.own.site) _ zero gap own refl)
