use Rattle.std.proofs.Common.{◌≡◌, ◌+◌, ◌-◌, ◌||◌, ℕ}
use Rattle.rt_ops.specs.Operations.{stamps_from, stamps_of_span}
use Rattle.rt_revert.specs.Named.{has_position, is_one_at}
use Rattle.rt_revert.proofs.named.push_positions.Given as goal

abbrev pub invariant-loop-count : goal.invariant-loop-count
invariant-loop-count g l =
    let cells = g.S.TextStore.list l.store in
    (at : ℕ) → (has_position l.positions.items at || is_one_at (stamps_from l.span.site l.count (l.span.last + 1 - l.count)) cells at)
    ≡ (has_position l.initial.positions.items at || is_one_at (stamps_of_span l.span) cells at)
