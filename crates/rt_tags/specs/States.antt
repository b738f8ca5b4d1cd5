-- States of characters: for each tag that was written on a character, the write with the greatest stamp. A name is seen as the
-- list of its bytes.
use Rattle.std.specs.Prelude.{◌≡◌, ℕ, ◌<◌, ◌≤◌, List, [], ◌∷◌, ◌++◌, Bool, false, not, length, map, filter, Option, Some, None, slice_index_or, if◌then◌else◌}
use Rattle.std.specs.List.{AllByRecursion}
use Rattle.std.specs.Ordering.{is_lt, is_gt}
use Rattle.std.specs.Str.{bytes_eq}
use Rattle.std.specs.declared.cmp.Ordering.TheVariants.{Less}
use Rattle.rt_stamps.specs.declared.stamp.Stamp.{Stamp}
use Rattle.rt_stamps.specs.Names.{name_order}
use Rattle.rt_stamps.specs.Stamps.{is_before}
use Rattle.rt_tags.specs.declared.states.TagEntry.{TagEntry}
use Rattle.rt_tags.specs.Tags.{is_listed, with_name}

-- a tag is put on a character or taken off: which one, under which stamp, and whether it is on
pub record Write : Type 0 where
  pub name : List ℕ
  pub writer : Stamp
  pub on : Bool

-- the write of a tag
abbrev pub write_of : List ℕ → List Write → Option Write
write_of name [] = None
write_of name (w ∷ state) = if bytes_eq name w.name then Some w else write_of name state

-- the write says on
abbrev pub says_on : Option Write → Bool
says_on None = false
says_on (Some w) = w.on

-- a tag is on
abbrev pub is_on : List ℕ → List Write → Bool
is_on name state = says_on (write_of name state)

-- the tags that are on
abbrev pub names_on : List Write → List (List ℕ)
names_on state = map (λ w. w.name) (filter (λ w. w.on) state)

-- a write isn't less than another
abbrev pub is_kept : Option Write → Write → Bool
is_kept None w = false
is_kept (Some v) w = not (is_before v.writer w.writer)

-- the state has a write of the same tag that isn't less
abbrev pub is_settled : Write → List Write → Bool
is_settled w state = is_kept (write_of w.name state) w

-- the writes of tags whose names come before a name, and of those whose names come after it
abbrev pub writes_below : List ℕ → List Write → List Write
writes_below name state = filter (λ w. is_lt (name_order w.name name)) state

abbrev pub writes_above : List ℕ → List Write → List Write
writes_above name state = filter (λ w. is_gt (name_order w.name name)) state

-- the state after one more write: for each tag the greatest write stays
abbrev pub written : Write → List Write → List Write
written w state = if is_settled w state then state else writes_below w.name state ++ w ∷ writes_above w.name state

-- one write of each tag, by the bytes of their names
abbrev pub IsByName : List Write → Type 0
IsByName [] = Unit {0}
IsByName (w ∷ state) = AllByRecursion (λ v. name_order w.name v.name ≡ Less) state × IsByName state

-- THE TABLE

-- the names that have a number and the states that have an id: the number and the id are their places
pub record TagStates : Type 0 where
  pub names : List (List ℕ)
  pub states : List (List Write)

-- a tag and a state that a table gave out
abbrev pub IsTag : TagStates → ℕ → Type 0
IsTag table tag = tag < length table.names

abbrev pub IsState : TagStates → ℕ → Type 0
IsState table state = state < length table.states

-- the name of a tag that was given out
abbrev pub name_at : TagStates → ℕ → List ℕ
name_at table tag = slice_index_or table.names tag []

-- what a state that was given out stands for
abbrev pub state_at : TagStates → ℕ → List Write
state_at table state = slice_index_or table.states state []

-- each name has one number
abbrev pub HaveOneNumber : TagStates → Type 0
HaveOneNumber table = (a b : ℕ) → IsTag table a → IsTag table b → name_at table a ≡ name_at table b → a ≡ b

-- a name without a number is on in no state
abbrev pub AreNumbered : TagStates → Type 0
AreNumbered table = (name : List ℕ) (state : ℕ) → is_listed name table.names ≡ false → is_on name (state_at table state) ≡ false

-- a write of a tag that was given out
abbrev pub write_at : TagStates → ℕ → Stamp → Bool → Write
write_at table tag writer on = record { name = name_at table tag; writer = writer; on = on }

-- writes of tags that were given out
abbrev pub writes_at : TagStates → List TagEntry → List Write
writes_at table entries = map (λ e. write_at table e.tag e.writer e.on) entries

-- a new name has the next number
abbrev pub numbered : List ℕ → TagStates → TagStates
numbered name table = record table { names = with_name name table.names }

-- new names have the next numbers, one after the other
abbrev pub all_numbered : List (List ℕ) → TagStates → TagStates
all_numbered [] table = table
all_numbered (name ∷ names) table = all_numbered names (numbered name table)

-- the tags and states that were given out keep their meaning, and a tag that was given out later is on in none of these states
pub record KeepsIds (old new : TagStates) : Type 0 where
  pub tags : (tag : ℕ) → IsTag old tag → IsTag new tag × (name_at new tag ≡ name_at old tag)
  pub states : (state : ℕ) → IsState old state → IsState new state × (state_at new state ≡ state_at old state)
  pub later : (tag state : ℕ) → length old.names ≤ tag → IsTag new tag → IsState old state → is_on (name_at new tag) (state_at new state) ≡ false
