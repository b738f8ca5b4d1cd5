use Rattle.std.proofs.Common.{◌≡◌, ◌∷◌, ◌||◌, ℕ, drop}
use Rattle.rt_stamps.specs.declared.stamp.TheConstants.{FINAL}
use Rattle.rt_ops.specs.Operations.{stamps_in}
use Rattle.rt_revert.specs.Named.{has_position, is_one_at}
use Rattle.rt_revert.proofs.named.positions_of.Given as goal

abbrev pub invariant-loop-span : goal.invariant-loop-span
invariant-loop-span g l =
    let cells = g.S.TextStore.list l.store in
    (at : ℕ) → (has_position l.positions.items at || is_one_at (stamps_in (drop l.span-index l.spans)) cells at) ≡ is_one_at (FINAL ∷ stamps_in l.spans) cells at
