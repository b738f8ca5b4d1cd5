use Rattle.std.proofs.Common.{◌≡◌, ◌+◌, ◌-◌, not}
use Rattle.std.specs.List.{list_any}
use Rattle.rt_ops.specs.Operations.{stamps_from, stamps_of_span}
use Rattle.rt_rga.specs.Kept.{is_kept_character}
use Rattle.rt_rga.proofs.answer.has_gap.Given as goal

abbrev pub invariant-loop-count : goal.invariant-loop-count
invariant-loop-count g l =
    list_any (λ stamp. not (is_kept_character (g.S.TextStore.list l.store) stamp)) (stamps_from l.span.site l.count (l.span.last + 1 - l.count))
    ≡ list_any (λ stamp. not (is_kept_character (g.S.TextStore.list l.store) stamp)) (stamps_of_span l.span)

abbrev pub decreases-loop-count : goal.decreases-loop-count
decreases-loop-count g l = l.span.last + 1 - l.count
