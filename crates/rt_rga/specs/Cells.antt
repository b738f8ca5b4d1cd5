-- The cells of a set of operations.
use Rattle.std.specs.Prelude.{Bool, false, List, [], ◌∷◌, ◌++◌, map, if◌then◌else◌}
use Rattle.std.specs.List.{list_any}
use Rattle.rt_stamps.specs.declared.stamp.Stamp.{Stamp}
use Rattle.rt_stamps.specs.declared.stamp.TheConstants.{ROOT}
use Rattle.rt_ops.specs.Operations.{Operation, Body, Insert, Delete, Tag, stamp_of}
use Rattle.rt_tags.specs.States.{Write}
use Rattle.rt_tags.specs.Writers.{listed_by, state_after}
use Rattle.rt_rga.specs.Reading.{Character, has_stamp, reading}
use Rattle.rt_store.specs.Spans.{is_in_spans}
use Rattle.rt_store.specs.Shown.{TaggedCell}
use Rattle.rt_rga.specs.Histories.{characters_from, characters}

-- an operation takes a character away
abbrev pub deletes : Body → Stamp → Bool
deletes (Insert after tags text) character = false
deletes (Delete spans) character = is_in_spans spans character
deletes (Tag on name spans) character = false

-- a character is gone if an operation of the set takes it away
abbrev pub is_gone : List Operation → Stamp → Bool
is_gone set character = list_any (λ op. deletes op.body character) set

-- What an operation of a stamp writes on a character: an Insert its tags on each that it inserts, under the stamp of a
-- given writer; and a Tag its tag, under its own.
abbrev pub writes_under : Stamp → Stamp → Body → Stamp → List Write
writes_under writer stamp (Insert after tags text) character = if has_stamp (characters_from after stamp text) character then listed_by writer tags else []
writes_under writer stamp (Delete spans) character = []
writes_under writer stamp (Tag on name spans) character = if is_in_spans spans character then record { name = name; writer = stamp; on = on } ∷ [] else []

-- An Insert's tags are under the root's stamp, which is less than each Tag's, so that characters with equal lists have equal
-- states.
abbrev pub writes_by : Stamp → Body → Stamp → List Write
writes_by stamp body character = writes_under ROOT stamp body character

-- what the operations of a set write on a character, the oldest first
abbrev pub writes_on : List Operation → Stamp → List Write
writes_on [] character = []
writes_on (op ∷ older) character = writes_on older character ++ writes_by (stamp_of op) op.body character

-- what an operation writes on a character, with an Insert's tags under its own stamp
abbrev pub stamped_writes_by : Stamp → Body → Stamp → List Write
stamped_writes_by stamp body character = writes_under stamp stamp body character

abbrev pub stamped_writes_on : List Operation → Stamp → List Write
stamped_writes_on [] character = []
stamped_writes_on (op ∷ older) character = stamped_writes_on older character ++ stamped_writes_by (stamp_of op) op.body character

-- a character as a cell: whether it is gone, and the greatest write of each tag
abbrev pub cell_in : List Operation → Character → TaggedCell
cell_in set c = record { stamp = c.stamp; ch = c.ch; gone = is_gone set c.stamp; state = state_after [] (writes_on set c.stamp) }

-- the characters in their reading
abbrev pub cells_of : List Operation → List TaggedCell
cells_of set = map (cell_in set) (reading (characters set))
