-- Limits that stand in their order among the cells of a text.
use Rattle.std.specs.Prelude.{◌≡◌, ℕ, ◌-◌, ◌<◌, ◌⊎◌, List, [], ◌∷◌, length, map, IfSome, Some, option_map, option_and_then, unwrap_or}
use Rattle.rt_stamps.specs.declared.stamp.Stamp.{Stamp}
use Rattle.rt_store.specs.declared.cell.Cell.{Cell}
use Rattle.rt_store.specs.Cells.{cell_of, position_of}
use Rattle.rt_lines.specs.declared.limits.Limits.{Limits}

-- a stamp is that of a newline, which may be gone
abbrev pub IsNewline : {T : Type 0} → List (Cell T) → Stamp → Type 0
IsNewline cells stamp = option_map (λ cell. cell.ch) (cell_of cells stamp) ≡ Some 10

-- the position of the newline that ends the view, which is the final one without a limit
abbrev pub end_position : {T : Type 0} → List (Cell T) → Limits → ℕ
end_position cells limits = unwrap_or (option_and_then (position_of cells) limits.end) (length cells - 1)

-- the limit at the start is a newline at a position before that of the end
pub record IsStart {T : Type 0} (cells : List (Cell T)) (limits : Limits) (stamp : Stamp) (position : ℕ) : Type 0 where
  pub limit : limits.start ≡ Some stamp
  pub found : position_of cells stamp ≡ Some position
  pub newline : IsNewline cells stamp
  pub before : position < end_position cells limits

-- Each limit is none or a newline, which may be gone, and that at the start stands before the newline that ends the view.
pub record LimitsAreInOrder {T : Type 0} (cells : List (Cell T)) (limits : Limits) : Type 0 where
  pub start : IfSome limits.start (IsNewline cells)
  pub end : IfSome limits.end (IsNewline cells)
  pub before : IfSome (option_and_then (position_of cells) limits.start) (λ position. position < end_position cells limits)

-- CELLS AMONG MORE

-- elements stand, in their order, among those of another list
abbrev pub StandAmong : {X : Type 0} → List X → List X → Type 0
StandAmong [] ys = Unit {0}
StandAmong (x ∷ xs) [] = ⊥
StandAmong (x ∷ xs) (y ∷ ys) = ((x ≡ y) × StandAmong xs ys) ⊎ StandAmong (x ∷ xs) ys

-- what of a cell never changes: its stamp and its character
abbrev pub letter_of : {T : Type 0} → Cell T → Stamp × ℕ
letter_of cell = (cell.stamp, cell.ch)

abbrev pub letters_of : {T : Type 0} → List (Cell T) → List (Stamp × ℕ)
letters_of cells = map letter_of cells
