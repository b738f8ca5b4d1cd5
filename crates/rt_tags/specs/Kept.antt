-- How a table keeps names and states.
use Rattle.std.specs.Prelude.{◌≡◌, ℕ, ◌<◌, ◌≤◌, ◌^◌, List, [], ◌∷◌, ◌+◌, Bool, true, map, filter, length, slice_index_or}
use Rattle.std.specs.List.{All}
use Rattle.rt_stamps.specs.declared.stamp.Stamp.{Stamp}
use Rattle.rt_tags.specs.declared.states.TagEntry.{TagEntry}
use Rattle.rt_tags.specs.declared.nodes.Node.{Node}
use Rattle.rt_tags.specs.States.{Write, IsByName}
use Rattle.rt_tags.specs.SharedStates.{AreBelow, AreShared, Tree, entries_of, trees_of}
use Rattle.rt_tags.specs.Writers.{state_after}
use Rattle.rt_tags.specs.Tags.{HaveNoRepeats}

-- an entry with the name of its tag
abbrev pub write_seen : List (List ℕ) → TagEntry → Write
write_seen names e = record { name = slice_index_or names e.tag []; writer = e.writer; on = e.on }

abbrev pub all_seen : List (List ℕ) → List TagEntry → List Write
all_seen names entries = map (write_seen names) entries

-- the tags that are on
abbrev pub tags_on : List TagEntry → List ℕ
tags_on entries = map (λ e. e.tag) (filter (λ e. e.on) entries)

-- tags that are put on under one writer
abbrev pub all_on : Stamp → List ℕ → List TagEntry
all_on writer tags = map (λ tag. record { tag = tag; writer = writer; on = true }) tags

-- each entry's tag has a name
abbrev pub HaveNames : ℕ → List TagEntry → Type 0
HaveNames n entries = All (λ e. e.tag < n) entries

-- what a state stands for
abbrev pub state_of : List (List ℕ) → Tree → List Write
state_of names tree = state_after [] (all_seen names (entries_of tree))

abbrev pub states_seen : List (List ℕ) → List Node → List (List Write)
states_seen names nodes = map (state_of names) (trees_of nodes)

-- A table as it is kept: numbers of tags have 32 bits, and each tag of a state has a name.
pub record IsStateTable (names : List (List ℕ)) (nodes : List Node) : Type 0 where
  pub names_differ : HaveNoRepeats names
  pub few : length names ≤ 2 ^ 32
  pub shared : AreShared nodes
  pub named : AreBelow (length names) nodes

-- entries by the bytes of their tags' names, one of each tag
pub record IsSorted (names : List (List ℕ)) (entries : List TagEntry) : Type 0 where
  pub named : HaveNames (length names) entries
  pub by_name : IsByName (all_seen names entries)

-- The state that entries leave on others begins with an entry, and goes on as the state that the rest of them leaves on the
-- rest of those.
pub record IsFirst (names : List (List ℕ)) (old new : List TagEntry) (e : TagEntry) (more_old more_new : List TagEntry) : Type 0 where
  pub named : e.tag < length names
  pub first : state_after (all_seen names old) (all_seen names new) ≡ write_seen names e ∷ state_after (all_seen names more_old) (all_seen names more_new)
  pub old_sorted : IsSorted names more_old
  pub new_sorted : IsSorted names more_new
  pub less : length more_old + length more_new < length old + length new

-- The names of a tag table as it is kept: each once, and the first so many are listed.
pub record IsListing (names : List (List ℕ)) (listed : ℕ) : Type 0 where
  pub differ : HaveNoRepeats names
  pub within : listed ≤ length names

-- and a mark for each of the names
pub record IsMarkedListing (names : List (List ℕ)) (listed : ℕ) (marks : List Bool) : Type 0 where
  pub listing : IsListing names listed
  pub as_many : length marks ≡ length names
