-- Stamps of characters that came back under other stamps.
use Rattle.std.specs.Prelude.{◌≡◌, ℕ, zero, suc, ◌+◌, ◌-◌, ◌<◌, ◌≤◌, Bool, Some, is_some, if◌then◌else◌}
use Rattle.std.specs.Option.{option_map_or}
use Rattle.rt_stamps.specs.declared.stamp.Span.{Span}
use Rattle.rt_stamps.specs.declared.stamp.Stamp.{Stamp}
use Rattle.rt_stamps.specs.declared.limits.TheConstants.{GREATEST_COUNT}
pub use Rattle.rt_stamps.specs.Stamps.{is_same, replaced}
pub use Rattle.rt_spans.specs.Shown.{SpanMapValue, is_in_span, value_of}
use Rattle.rt_undo.specs.declared.renames.Move.{Move}

-- the characters of a span have stamps of consecutive counts from another one on, those of all others keep theirs
abbrev pub renamed : Span → Stamp → Stamp → Stamp
renamed former newer s = if is_in_span former s then record { count = newer.count + (s.count - former.first); site = newer.site } else s

-- the character of a stamp came back
abbrev pub is_moved : SpanMapValue Move → Stamp → Bool
is_moved moves s = is_some (value_of moves s)

-- where a move leads a stamp
abbrev pub target : Move → Stamp → Stamp
target m s = record { count = m.to.count + (s.count - m.first); site = m.to.site }

-- a stamp after so many moves, or as many as there are
unfoldable pub follow : ℕ → SpanMapValue Move → Stamp → Stamp
follow zero moves s = s
follow (suc n) moves s = option_map_or (λ m. follow n moves (target m s)) (value_of moves s) s

-- the stamp that a character has now: each move leads to a greater count, so there are never more than that
unfoldable pub now_of : SpanMapValue Move → Stamp → Stamp
now_of moves s = follow GREATEST_COUNT moves s

-- a move leads to a greater count
pub record LeadsOn (m : Move) (s : Stamp) : Type 0 where
  pub begun : m.first ≤ s.count
  pub later : s.count < (target m s).count
  pub bounded : (target m s).count ≤ GREATEST_COUNT

abbrev pub AllLeadOn : SpanMapValue Move → Type 0
AllLeadOn moves = (s : Stamp) (m : Move) → value_of moves s ≡ Some m → LeadsOn m s
