-- What is kept for each node of the tags on the characters below it.
use Rattle.std.specs.Prelude.{◌≡◌, ℕ, zero, suc, ◌+◌, ◌^◌, ◌<◌, ◌≤◌, List, [], ◌∷◌, ◌++◌, length, slice_index_or, take, drop, Bool, not, Option, None, if◌then◌else◌}
use Rattle.std.specs.List.{AllByRecursion}
use Rattle.rt_tags.specs.Borders.{AreToggles, first, is_tagged, last, one_or_none}
use Rattle.rt_tags.specs.States.{IsState, TagStates}
use Rattle.rt_tree.specs.declared.node.Entry.{Entry}
use Rattle.rt_tree.specs.declared.node.Entry.TheVariants.{Down, Here}
use Rattle.rt_tree.specs.declared.node.Run.{Run}
use Rattle.rt_tree.specs.declared.summary.Summary.{Summary}
use Rattle.rt_tree.specs.declared.summed.Summaries.{Summaries}
use Rattle.rt_nodes.specs.Nodes.{entries}
use Rattle.rt_tree.specs.Changes.{above}
use Rattle.rt_tree.specs.Shape.{Memory, all_below, below, left_of, level_of, right_of, runs}

-- the states of runs that are visible
abbrev pub shown_states : List Run → List ℕ
shown_states [] = []
shown_states (r ∷ rs) = if r.gone then shown_states rs else r.state ∷ shown_states rs

-- the first and the last of states, and how many borders each tag has between characters of these states
pub record IsSummary (table : TagStates) (states : List ℕ) (s : Summary) : Type 0 where
  pub first : s.first ≡ first states
  pub last : s.last ≡ last states
  pub counts : AreToggles table states s.counts

abbrev pub no_summary : Summary
no_summary = record { first = None; last = None; counts = record { counts = []; capacity = 0 } }

-- what is kept for a node
abbrev pub summary_of : List Summary → ℕ → Summary
summary_of sums id = slice_index_or sums id no_summary

-- each node's summary is that of the runs below it, whatever stands around these
abbrev pub AreSummed : TagStates → Memory → List Summary → Type 0
AreSummed table m sums = (id : ℕ) → id < length m.heads → IsSummary table (shown_states (runs m (level_of m id) id)) (summary_of sums id)

-- how many tags there is memory for in a node's summary
abbrev pub room_at : List Summary → ℕ → ℕ
room_at sums id = (summary_of sums id).counts.capacity

-- there is memory for counts of so many tags wherever some are kept
pub record HaveMemory (s : Summaries) : Type 0 where
  pub each : (id : ℕ) → id < length s.each.items → s.tags ≤ room_at s.each.items id
  pub minus : s.tags ≤ s.minus.capacity
  pub plus : s.tags ≤ s.plus.capacity
  pub spare : s.tags ≤ s.spare.counts.capacity

-- a summary tells what another told, whatever memory they have
pub record TellsAs (old new : Summary) : Type 0 where
  pub first : new.first ≡ old.first
  pub last : new.last ≡ old.last
  pub counts : new.counts.counts ≡ old.counts.counts

-- a summary without its memory
abbrev pub without_room : Summary → Summary
without_room s = record { first = s.first; last = s.last; counts = record { counts = s.counts.counts; capacity = 0 } }

-- of an entry's node the first and the last state are told
abbrev pub HasEnds : Memory → ℕ → List Summary → Entry → Type 0
HasEnds m k sums (Here r) = Unit {0}
HasEnds m k sums (Down c t) =
    (c.index < length sums) × ((summary_of sums c.index).first ≡ first (shown_states (below m k (Down c t))))
    × ((summary_of sums c.index).last ≡ last (shown_states (below m k (Down c t))))

-- of an entry's node there is a summary, which is that of the runs below it
abbrev pub HasSummary : TagStates → Memory → ℕ → List Summary → Entry → Type 0
HasSummary table m k sums (Here r) = Unit {0}
HasSummary table m k sums (Down c t) = (c.index < length sums) × IsSummary table (shown_states (below m k (Down c t))) (summary_of sums c.index)

-- a summary is that of a stretch in which a state, or none, has such neighbours, if any
pub record WasAround (table : TagStates) (s : Summary) (before after old : Option ℕ) : Type 0 where
  pub left : List ℕ
  pub right : List ℕ
  pub ends : last left ≡ before
  pub begins : first right ≡ after
  pub short : length left + length right + 4 < 2 ^ 32
  pub is : IsSummary table (left ++ (one_or_none old ++ right)) s

-- the runs below the node so many levels above a leaf that stand before the leaf's, and those that stand behind
abbrev pub left_in : Memory → ℕ → ℕ → List Run
left_in m zero leaf = []
left_in m (suc j) leaf = all_below m (suc j) (left_of (above m j leaf) (entries m (above m (suc j) leaf))) ++ left_in m j leaf

abbrev pub right_in : Memory → ℕ → ℕ → List Run
right_in m zero leaf = []
right_in m (suc j) leaf = right_in m j leaf ++ all_below m (suc j) (right_of (above m j leaf) (entries m (above m (suc j) leaf)))

-- the states that show before an entry of a leaf, below the node so many levels above, and behind it
abbrev pub shown_before : Memory → ℕ → ℕ → ℕ → List ℕ
shown_before m j leaf i = shown_states (left_in m j leaf ++ all_below m 0 (take i (entries m leaf)))

abbrev pub shown_behind : Memory → ℕ → ℕ → ℕ → List ℕ
shown_behind m j leaf i = shown_states (all_below m 0 (drop (suc i) (entries m leaf)) ++ right_in m j leaf)

-- What stands beside an entry of a leaf, below each node above, are states that were given out, and not too many.
pub record AreBeside (table : TagStates) (m : Memory) (height leaf i : ℕ) : Type 0 where
  pub before : (j : ℕ) → j ≤ height → AllByRecursion (IsState table) (shown_before m j leaf i)
  pub behind : (j : ℕ) → j ≤ height → AllByRecursion (IsState table) (shown_behind m j leaf i)
  pub short : (j : ℕ) → j ≤ height → length (shown_before m j leaf i) + length (shown_behind m j leaf i) + 4 < 2 ^ 32

-- An entry of a leaf shows another state now than summaries tell, which have another, or none, in its place; other nodes' summaries are
-- right.
pub record AreSummedBut (table : TagStates) (m : Memory) (sums : List Summary) (height leaf i : ℕ) (old : Option ℕ) : Type 0 where
  pub path : (j : ℕ) → j ≤ height → IsSummary table (shown_before m j leaf i ++ (one_or_none old ++ shown_behind m j leaf i)) (summary_of sums (above m j leaf))
  pub others : (id : ℕ) → id < length m.heads → ((j : ℕ) → j ≤ height → id ≡ above m j leaf → ⊥)
      → IsSummary table (shown_states (runs m (level_of m id) id)) (summary_of sums id)

-- a tag is on in a state, or it isn't, as is asked
abbrev pub tagged_as : TagStates → ℕ → Bool → ℕ → Bool
tagged_as table tag on state = if on then is_tagged table tag state else not (is_tagged table tag state)

-- The summaries of nodes are right by a table that gave out the states of the runs below the root; there are some for spare nodes too, and
-- memory for counts of all tags that the table gave out.
pub record AreTold (table : TagStates) (m : Memory) (s : Summaries) (rs : List Run) : Type 0 where
  pub each : AreSummed table m s.each.items
  pub many : length m.heads + m.room ≤ length s.each.items
  pub memory : HaveMemory s
  pub tags : length table.names ≤ s.tags
  pub given : AllByRecursion (λ r. IsState table r.state) rs
