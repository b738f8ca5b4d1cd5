use Rattle.std.proofs.Common.{◌∙◌, ◌+◌, ◌-◌, ◌||◌, [], ◌∷◌, ap, arith, sym}
use Rattle.rt_ops.specs.Operations.{stamps_from}
use Rattle.rt_revert.specs.Named.{has_position, is_one_at}
use Rattle.rt_revert.proofs.Positions.{held_last, held_step}
use Rattle.rt_revert.proofs.SpansCovered.{from_more, from_none}
use Rattle.rt_revert.proofs.named.push_positions.Goals as goal

pub loop-count-preserved : goal.loop-count-preserved
loop-count-preserved g c at =
    let cells = g.S.TextStore.list c.args.store.now in
    let span = c.args.span in
    let count = c.loop-count.count in
    let old = c.loop-count.positions.items in
    let rest = stamps_from span.site (count + 1) (span.last + 1 - (count + 1)) in
    held_step old c.push_position.new.positions.items (record { count = count; site = span.site } ∷ []) rest cells at (c.in_ok-push_position.ensures.ok at)
    ∙ ap (λ l. has_position old at || is_one_at l cells at) (sym (from_more span.site count span.last (omega arith)))
    ∙ c.loop-count.invariant at

pub returns-clause-ok : goal.returns-clause-ok
returns-clause-ok g c at =
    let cells = g.S.TextStore.list c.args.store.now in
    let span = c.args.span in
    let count = c.loop-count.count in
    let positions = c.loop-count.positions.items in
    held_last positions cells at
    ∙ ap (λ l. has_position positions at || is_one_at l cells at) (sym (from_none span.site count span.last (omega arith)))
    ∙ c.loop-count.invariant at
