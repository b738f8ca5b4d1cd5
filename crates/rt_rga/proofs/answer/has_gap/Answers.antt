use Rattle.std.proofs.Common.{◌∙◌, ap, not}
use Rattle.rt_rga.specs.Kept.{is_kept_character}
use Rattle.rt_rga.proofs.Onward.{none_left, none_to}
use Rattle.rt_rga.proofs.answer.has_gap.Goals as goal

pub returns-then-to-span : goal.returns-then-to-span
returns-then-to-span g c =
    let e = c.in-Some.ensures in
    none_left (λ s. not (is_kept_character (g.S.TextStore.list c.args.store.now) s)) c.args.span.site c.loop-count.count c.in-Some.to c.args.span.last
    e.within.0 c.if-to-span.true (λ n le. ap not (e.all n le))
    ∙ c.loop-count.invariant

pub loop-count-preserved : goal.loop-count-preserved
loop-count-preserved g c =
    let e = c.in-Some.ensures in
    none_to (λ s. not (is_kept_character (g.S.TextStore.list c.args.store.now) s)) c.args.span.site c.loop-count.count c.in-Some.to c.args.span.last
    e.within.0 e.within.1 (λ n le. ap not (e.all n le))
    ∙ c.loop-count.invariant
