-- What a block ends as, once a `&mut` into it has ended. No public clause cites this module.
use Rattle.std.specs.Prelude.{ℕ, slice_set}
use Rattle.std.specs.Borrow.{Lends, Fml, RattleType, MutBor}
use Rattle.rt_nodes.specs.Rows.{Row, row}
use Rattle.rt_nodes.specs.contracts.block.Block.{the_row}

-- the entry at i is the last one written through r, and nothing else has changed
abbrev pub lends_item : (E : RattleType) → MutBor (Row E.Denot) → ℕ → MutBor E.Denot → Fml
lends_item E b i r = Lends (the_row E) E b r (λ w. row (slice_set b.now.items i w) b.now.capacity)
