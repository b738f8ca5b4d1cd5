-- Orders of operations: which were made upon which, and which come in time.
use Rattle.std.specs.Prelude.{◌≡◌, Bool, true, ◌&&◌, ◌||◌, ◌==◌, List, [], ◌∷◌}
use Rattle.std.specs.List.{list_any}
use Rattle.rt_ops.specs.Operations.{Operation, last_count, named}
use Rattle.rt_oplog.specs.Logs.{HasOp}
use Rattle.rt_rga.specs.Reading.{has_stamp}
use Rattle.rt_rga.specs.Histories.{inserted}

-- An operation was made upon the previous one of its site, where its own previous count is, and upon the Inserts of the
-- characters that it names.
abbrev pub is_made_upon : Operation → Operation → Bool
is_made_upon base op = ((base.site == op.site) && (last_count base == op.prev)) || list_any (has_stamp (inserted base)) (named op.body)

-- those of a set that an operation was made upon are all among some others
abbrev pub HasBasesIn : List Operation → Operation → List Operation → Type 0
HasBasesIn set op others = (base : Operation) → HasOp set base → is_made_upon base op ≡ true → HasOp others base

-- Each operation of a list comes after those of the set that it was made upon: they stand before it in the list, or are
-- among those that were there at first. A repeat comes later than the first of its kind.
abbrev pub ComeInTime : List Operation → List Operation → List Operation → Type 0
ComeInTime set first [] = Unit {0}
ComeInTime set first (op ∷ ops) = HasBasesIn set op first × ComeInTime set (op ∷ first) ops

-- a set has every operation of another
abbrev pub AreIn : List Operation → List Operation → Type 0
AreIn set more = (op : Operation) → HasOp set op → HasOp more op
