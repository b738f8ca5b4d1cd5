-- Removal of characters (Tk text manual): which places it takes, how many operations it is, and what is left.
use Rattle.std.specs.Prelude.{ℕ, zero, suc, ◌+◌, ◌-◌, ◌≤◌, ◌<◌, ◌&&◌, ◌||◌, not, nat_lt, nat_le, Bool, true, false, List, [], ◌∷◌, length, filter, slice_get, option_map, unwrap_or, ⊤, if◌then◌else◌}
use Rattle.std.specs.List.{list_any}
use Rattle.rt_stamps.specs.declared.limits.TheConstants.{MOST_SPANS}
use Rattle.rt_stamps.specs.declared.stamp.Stamp.{Stamp}
use Rattle.rt_stamps.specs.Places.{is_newline}
use Rattle.rt_stamps.specs.Stamps.{is_same}
use Rattle.rt_store.specs.declared.cell.Cell.{Cell}
use Rattle.rt_plans.specs.NamedSpans.{parts_for}
use Rattle.rt_plans.specs.declared.range.Range.{Range}
-- what is left of a text without the characters at some places is `left_at`
pub use Rattle.rt_changes.specs.Replays.{left_at}

-- a place is in a range
abbrev pub is_in : Range → ℕ → Bool
is_in range place = nat_le range.from place && nat_lt place range.to

-- a place is in one of the ranges
abbrev pub is_covered : List Range → ℕ → Bool
is_covered ranges place = list_any (λ range. is_in range place) ranges

-- so many places from one on are all in ranges
abbrev pub are_covered : List Range → ℕ → ℕ → Bool
are_covered ranges place zero = true
are_covered ranges place (suc k) = is_covered ranges place && are_covered ranges (place + 1) k

-- a newline stands at a place
abbrev pub is_newline_at : List ℕ → ℕ → Bool
is_newline_at text place = unwrap_or (option_map is_newline (slice_get text place)) false

-- A removal takes the places in the ranges, but never the last newline's. Where all places after a newline are in
-- ranges, down to the text's end, that newline goes too: no empty line is left for the lines that went.
abbrev pub is_removed : List ℕ → List Range → ℕ → Bool
is_removed text ranges place =
    nat_lt (place + 1) (length text)
    && (is_covered ranges place || (is_newline_at text place && are_covered ranges (place + 1) (length text - (place + 1))))

-- the cells, with the visible ones at some places gone; the first visible one stands at this place
abbrev pub gone_at : {T : Type 0} → (ℕ → Bool) → ℕ → List (Cell T) → List (Cell T)
gone_at removed place [] = []
gone_at removed place (cell ∷ cells) =
    if cell.gone then cell ∷ gone_at removed place cells
    else record cell { gone = removed place } ∷ gone_at removed (place + 1) cells

-- the visible cells at some places, in the text's order
abbrev pub cells_at : {T : Type 0} → (ℕ → Bool) → ℕ → List (Cell T) → List (Cell T)
cells_at chosen place [] = []
cells_at chosen place (cell ∷ cells) =
    if cell.gone then cells_at chosen place cells
    else if chosen place then cell ∷ cells_at chosen (place + 1) cells
    else cells_at chosen (place + 1) cells

-- the stamps of the visible cells at some places, in the text's order
abbrev pub stamps_at : {T : Type 0} → (ℕ → Bool) → ℕ → List (Cell T) → List Stamp
stamps_at removed place [] = []
stamps_at removed place (cell ∷ cells) =
    if cell.gone then stamps_at removed place cells
    else if removed place then cell.stamp ∷ stamps_at removed (place + 1) cells
    else stamps_at removed (place + 1) cells

-- Spans are the longest runs of consecutive counts of one site. Each has a last stamp: one whose next isn't among them.
abbrev pub span_count : List Stamp → ℕ
span_count stamps = length (filter (λ stamp. not (list_any (λ other. is_same other (record { count = stamp.count + 1; site = stamp.site })) stamps)) stamps)

-- an operation has at most MOST_SPANS spans
abbrev pub operations_for : ℕ → ℕ
operations_for spans = parts_for MOST_SPANS spans

-- ranges in the text's order, from a place on: none is empty, and each begins where the one before it has ended or later
abbrev pub RangesFollow : ℕ → List Range → Type 0
RangesFollow place [] = ⊤
RangesFollow place (range ∷ ranges) = (place ≤ range.from) × (range.from < range.to) × RangesFollow range.to ranges
