-- What a widget still shows beside new characters, by the places of the newlines that limit it.
use Rattle.std.specs.Prelude.{ℕ, ◌&&◌, not, nat_le, nat_lt, Bool, false, List, [], ◌∷◌, flat_map, Option, None, Some, option_and_then, option_map}
use Rattle.std.specs.List.{list_any}
use Rattle.std.specs.Str.{chars}
use Rattle.rt_marks.specs.Marks.{place_left}
use Rattle.rt_stamps.specs.declared.stamp.Stamp.{Stamp}
use Rattle.rt_stamps.specs.Places.{is_newline}
use Rattle.rt_store.specs.declared.cell.Cell.{Cell}
use Rattle.rt_plans.specs.Insertions.{Piece}
use Rattle.rt_lines.specs.Limits.{place_of}

-- LIMITS

-- the place of a limit's newline in what is left of the text
abbrev pub limit_left : {T : Type 0} → (ℕ → Bool) → List (Cell T) → Option Stamp → Option ℕ
limit_left removed cells limit = option_map (place_left removed) (option_and_then (place_of cells) limit)

-- NEW CHARACTERS

-- the characters of pieces
abbrev pub pieces_text : List Piece → List ℕ
pieces_text pieces = flat_map (λ piece. chars piece.text) pieces

-- whether the last of some characters is a newline, behind others of which that is known
abbrev pub ends_behind : Bool → List ℕ → Bool
ends_behind before [] = before
ends_behind before (c ∷ text) = ends_behind (is_newline c) text

abbrev pub ends_with_newline : List ℕ → Bool
ends_with_newline text = ends_behind false text

-- a newline stands at a place or behind it, and before it
abbrev pub stands_behind : ℕ → Option ℕ → Bool
stands_behind at None = false
stands_behind at (Some place) = nat_le at place

abbrev pub is_ahead : ℕ → Option ℕ → Bool
is_ahead at None = false
is_ahead at (Some place) = nat_lt place at

-- Both sides of the end of new characters at a place are shown, but where these end with a newline and that of the limit at the start
-- stands behind them, and where they have a newline and that of the limit at the end stands before them.
abbrev pub are_sides_shown : Option ℕ → Option ℕ → ℕ → List ℕ → Bool
are_sides_shown start end at new = not (stands_behind at start && ends_with_newline new) && not (is_ahead at end && list_any is_newline new)
