-- Held operations in order of arrival: the least stamp among those that may be tried is sought, and the first of equal ones.
-- A list by rising stamp, in which equal stamps keep their order, comes to the same.
use Rattle.std.specs.Prelude.{◌≡◌, ℕ, List, [], ◌∷◌, ◌++◌, length, Option, Some, None, if◌then◌else◌}
use Rattle.rt_stamps.specs.Stamps.{is_before}
use Rattle.rt_ops.specs.Operations.{Operation, stamp_of}
use Rattle.rt_oplog.specs.Logs.{holds}
use Rattle.rt_holding.specs.Holding.{is_left, next_of, put_held, without_op}

-- of an operation and one that came after it: the lesser stamp, and the first where they are equal
abbrev pub earlier : Operation → Option Operation → Option Operation
earlier op None = Some op
earlier op (Some q) = if is_before (stamp_of q) (stamp_of op) then Some q else Some op

-- the next one to be tried of those in order of arrival
abbrev pub next_arrived : ℕ → List Operation → List Operation → List Operation → Option Operation
next_arrived limit wanting log [] = None
next_arrived limit wanting log (op ∷ arrived) =
    if is_left limit wanting log op then next_arrived limit wanting log arrived
    else earlier op (next_arrived limit wanting log arrived)

-- an operation that came before all those of a list by rising stamp
abbrev pub put_first : Operation → List Operation → List Operation
put_first op [] = op ∷ []
put_first op (q ∷ held) = if is_before (stamp_of q) (stamp_of op) then q ∷ put_first op held else op ∷ (q ∷ held)

abbrev pub by_stamp : List Operation → List Operation
by_stamp [] = []
by_stamp (op ∷ arrived) = put_first op (by_stamp arrived)

-- Whatever is done to the list in order of arrival is done to the list by rising stamp: one is sought, taken out, put last.
pub record ComesToTheSame (arrived : List Operation) : Type 0 where
  pub next : (limit : ℕ) (wanting log : List Operation) → next_of limit wanting log (by_stamp arrived) ≡ next_arrived limit wanting log arrived
  pub without : (op : Operation) → by_stamp (without_op op arrived) ≡ without_op op (by_stamp arrived)
  pub last : (op : Operation) → by_stamp (arrived ++ op ∷ []) ≡ put_held op (by_stamp arrived)
  pub holds : (op : Operation) → holds (by_stamp arrived) op ≡ holds arrived op
  pub length : length (by_stamp arrived) ≡ length arrived
