use Rattle.std.proofs.Common.{◌∙◌, ◌+◌, ◌-◌, ◌||◌, [], ◌∷◌, ◌++◌, ap, drop, length, sym}
use Rattle.rt_stamps.specs.declared.stamp.TheConstants.{FINAL}
use Rattle.rt_ops.specs.Operations.{stamps_in}
use Rattle.rt_revert.specs.Named.{has_position, is_one_at}
use Rattle.rt_revert.proofs.Positions.{final_position, held_last, held_one, held_step, stands_more}
use Rattle.rt_revert.proofs.Rest.{none_left}
use Rattle.rt_revert.proofs.SpansCovered.{spans_more}
use Rattle.rt_revert.proofs.named.positions_of.Goals as goal

pub loop-span-init : goal.loop-span-init
loop-span-init g c at =
    let cells = g.S.TextStore.list c.args.store.now in
    let spans = c.args.spans.now in
    ap (λ l. has_position l at || is_one_at (stamps_in spans) cells at) (c.in_ok-push.ensures.items ∙ ap (λ l. l ++ (c.cells.result - 1) ∷ []) c.new-positions.ensures.items ∙ ap (λ n. (n - 1) ∷ []) c.cells.ensures)
    ∙ ap (λ b. b || is_one_at (stamps_in spans) cells at)
    (held_one cells (length cells - 1) FINAL at c.requires.distinct (final_position cells c.requires.distinct (g.met.S.TextStore.ends c.args.store.now)))
    ∙ sym (stands_more (FINAL ∷ []) (stamps_in spans) cells at)

pub loop-span-preserved : goal.loop-span-preserved
loop-span-preserved g c at =
    let cells = g.S.TextStore.list c.args.store.now in
    let spans = c.args.spans.now in
    let i = c.loop-span.span-index in
    let old = c.loop-span.positions.items in
    held_step old c.push_positions.new.positions.items _ (stamps_in (drop (i + 1) spans)) cells at (c.in_ok-push_positions.ensures.ok at)
    ∙ ap (λ l. has_position old at || is_one_at l cells at) (sym (spans_more spans i _ c.loop-span-test.true))
    ∙ c.loop-span.invariant at

pub returns-clause-ok : goal.returns-clause-ok
returns-clause-ok g c at =
    let cells = g.S.TextStore.list c.args.store.now in
    let positions = c.loop-span.positions.items in
    held_last positions cells at
    ∙ ap (λ l. has_position positions at || is_one_at (stamps_in l) cells at) (sym (none_left c.args.spans.now c.loop-span.span-index c.loop-span-test.false))
    ∙ c.loop-span.invariant at
