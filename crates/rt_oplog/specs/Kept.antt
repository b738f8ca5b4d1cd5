-- A log as it is kept: the operations in rows, and their places by rising stamp.
use Rattle.std.specs.Prelude.{◌≡◌, ℕ, suc, Bool, List, [], ◌∷◌, ◌++◌, if◌then◌else◌}
use Rattle.std.specs.List.{AllByRecursion, insert}
use Rattle.rt_stamps.specs.declared.stamp.Stamp.{Stamp}
use Rattle.rt_stamps.specs.Stamps.{is_before}
use Rattle.rt_rows.specs.declared.rows.RowPlace.{RowPlace}
use Rattle.rt_rows.specs.Places.{HasPlace, StandsAt, op_at}
use Rattle.rt_ops.specs.Operations.{Operation, stamp_of}
use Rattle.rt_oplog.specs.declared.ends.Ends.{Ends}
use Rattle.rt_oplog.specs.Logs.{IsLog, known_end}
use Rattle.rt_oplog.specs.Ends.{end_in}

-- the operations of these places, the last one first
abbrev pub newest_first : List (List Operation) → List RowPlace → List Operation
newest_first rows [] = []
newest_first rows (place ∷ order) = newest_first rows order ++ op_at rows place ∷ []

-- whether the operation of a place is before a stamp
abbrev pub is_earlier : List (List Operation) → Stamp → RowPlace → Bool
is_earlier rows stamp place = is_before (stamp_of (op_at rows place)) stamp

-- how many elements at the front pass a test
abbrev pub leading : {A : Type 0} → (A → Bool) → List A → ℕ
leading p [] = 0
leading p (x ∷ xs) = if p x then suc (leading p xs) else 0

pub record IsLogInRows (rows : List (List Operation)) (order : List RowPlace) (ends : Ends) : Type 0 where
  pub within : AllByRecursion (HasPlace rows) order
  pub log : IsLog (newest_first rows order)
  pub known : (site : ℕ) → end_in ends site ≡ known_end (newest_first rows order) site

-- An operation stands at a place, which comes behind all others: the newest.
pub record IsPutBehind (op : Operation) (rows : List (List Operation)) (old new : List RowPlace) : Type 0 where
  pub place : RowPlace
  pub there : StandsAt rows op place
  pub named : new ≡ old ++ place ∷ []

-- An operation stands at a place, which comes behind those whose operations are before its stamp.
pub record IsPutInOrder (op : Operation) (rows : List (List Operation)) (old new : List RowPlace) : Type 0 where
  pub place : RowPlace
  pub there : StandsAt rows op place
  pub named : new ≡ insert old (leading (is_earlier rows (stamp_of op)) old) place
