-- Histories: sets of operations that have, with each, all those that it was made upon. A set is the list of its operations
-- by falling stamp, the newest first.
use Rattle.std.specs.Prelude.{◌≡◌, ℕ, Bool, true, false, ◌||◌, max, List, [], ◌∷◌}
use Rattle.std.specs.List.{AllByRecursion, list_any, list_all}
use Rattle.rt_stamps.specs.declared.stamp.Stamp.{Stamp}
use Rattle.rt_stamps.specs.declared.stamp.TheConstants.{FINAL, ROOT}
use Rattle.rt_stamps.specs.Stamps.{is_before, is_same}
use Rattle.rt_ops.specs.Operations.{Operation, Body, Insert, Delete, Tag, stamp_of, last_count, named, has_bad_stamp}
use Rattle.rt_oplog.specs.Logs.{known_end}
use Rattle.rt_ops.specs.Rules.{keeps_rules}
use Rattle.rt_store.specs.Spans.{next_stamp}
use Rattle.rt_rga.specs.Reading.{Character, has_stamp, with_characters}

-- CHARACTERS OF OPERATIONS

-- the characters of a text, from a stamp on: the first goes after `left`, each other one after the one before it
abbrev pub characters_from : Stamp → Stamp → List ℕ → List Character
characters_from left stamp [] = []
characters_from left stamp (ch ∷ text) = record { stamp = stamp; left = left; ch = ch } ∷ characters_from stamp (next_stamp stamp) text

abbrev pub inserted_by : Stamp → Body → List Character
inserted_by stamp (Insert after tags text) = characters_from after stamp text
inserted_by stamp (Delete spans) = []
inserted_by stamp (Tag on name spans) = []

-- the characters that an operation inserts
abbrev pub inserted : Operation → List Character
inserted op = inserted_by (stamp_of op) op.body

-- an operation of the set inserts the character of a stamp
abbrev pub has_character : List Operation → Stamp → Bool
has_character set stamp = list_any (λ op. has_stamp (inserted op) stamp) set

-- the newline that ends each text, a child of the root
abbrev pub final_character : Character
final_character = record { stamp = FINAL; left = ROOT; ch = 10 }

-- all characters, by rising stamp
abbrev pub characters : List Operation → List Character
characters [] = final_character ∷ []
characters (op ∷ older) = with_characters (inserted op) (characters older)

-- the greatest last count of all operations, 0 if there are none
abbrev pub greatest_last_count : List Operation → ℕ
greatest_last_count [] = 0
greatest_last_count (op ∷ older) = max (last_count op) (greatest_last_count older)

-- HISTORIES

-- what is no inserted character and may be named all the same: the root by an Insert, the final newline by a Tag
abbrev pub may_name : Body → Stamp → Bool
may_name (Insert after tags text) stamp = is_same stamp ROOT
may_name (Delete spans) stamp = false
may_name (Tag on name spans) stamp = is_same stamp FINAL

-- a named stamp is that of a character of the set, or one that may be named all the same
abbrev pub is_known : List Operation → Body → Stamp → Bool
is_known set body stamp = has_character set stamp || may_name body stamp

-- An operation goes on from the last one of its site, and names what is known.
pub record Continues (older : List Operation) (op : Operation) : Type 0 where
  pub sound : has_bad_stamp op ≡ false
  pub rules : keeps_rules op.body ≡ true
  pub prev : op.prev ≡ known_end older op.site
  pub known : list_all (is_known older op.body) (named op.body) ≡ true

-- Each operation continues those of lesser stamps.
abbrev pub IsHistory : List Operation → Type 0
IsHistory [] = Unit {0}
IsHistory (op ∷ older) = AllByRecursion (λ q. is_before (stamp_of q) (stamp_of op) ≡ true) older × Continues older op × IsHistory older
