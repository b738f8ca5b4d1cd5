-- Counts that cells have: none is newer than a given one.
use Rattle.std.specs.Prelude.{◌≡◌, ℕ, ◌+◌, ◌≤◌, List, All, Some}
use Rattle.rt_stamps.specs.declared.stamp.Stamp.{Stamp}
use Rattle.rt_store.specs.declared.cell.Cell.{Cell}
use Rattle.rt_store.specs.Shown.{TaggedCell}
use Rattle.rt_tags.specs.States.{Write, write_of}

-- A stamp that is less than each of the next count by a site. The final newline has count 1, as the first character of a
-- site may have, and site 0.
abbrev pub IsBelowNext : ℕ → Stamp → Type 0
IsBelowNext count stamp = (stamp.count ≤ count + 1) × (stamp.count ≡ count + 1 → stamp.site ≡ 0)

abbrev pub AreBelowNext : {T : Type 0} → ℕ → List (Cell T) → Type 0
AreBelowNext count cells = All (λ cell. IsBelowNext count cell.stamp) cells

-- no write of a tag on a character has a greater count
abbrev pub IsWritten : ℕ → List Write → Type 0
IsWritten count state = (name : List ℕ) (w : Write) → write_of name state ≡ Some w → w.writer.count ≤ count

abbrev pub AreWritten : ℕ → List TaggedCell → Type 0
AreWritten count cells = All (λ cell. IsWritten count cell.state) cells
