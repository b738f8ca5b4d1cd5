-- How far a search for a tag goes, and what it costs. No public clause cites this module.
use Rattle.std.specs.Prelude.{◌≡◌, ℕ, ◌*◌, ◌==◌, nat_lt, Bool, if◌then◌else◌, List, [], Option, slice_index_or}
use Rattle.rt_nodes.specs.Nodes.{entries}
use Rattle.rt_tags.specs.Toggles.{count_of}
use Rattle.rt_tree.specs.declared.node.Entry.{Entry}
use Rattle.rt_tree.specs.declared.node.Entry.TheVariants.{Down}
use Rattle.rt_tree.specs.declared.node.Run.{Run}
use Rattle.rt_tree.specs.declared.reach.Reach.{Reach}
use Rattle.rt_tree.specs.declared.summary.Summary.{Summary}
use Rattle.rt_tree.specs.Reaches.{reached}
use Rattle.rt_tree.specs.Shape.{Memory, below, level_of}
use Rattle.rt_tree.specs.Sums.{counts_of, totals_of}

-- a tag's number of borders and a first state are those that are kept
pub record Tells (tag number : ℕ) (state : Option ℕ) (s : Summary) : Type 0 where
  pub borders : number ≡ count_of tag s.counts
  pub first : state ≡ s.first

-- how many visible characters of runs stand before the first that passes, so many on or further, or how many there are; and whether there
-- is one
pub record IsReached (test : ℕ → Bool) (from : ℕ) (rs : List Run) (r : Reach) : Type 0 where
  pub place : r.place ≡ reached test from rs
  pub found : r.found ≡ nat_lt (reached test from rs) (counts_of rs).visible

-- an entry of a node, and its runs
abbrev pub entry_at : Memory → ℕ → ℕ → Entry
entry_at m id i = slice_index_or (entries m id) i (Down (record { index = 0 }) (totals_of []))

abbrev pub runs_at : Memory → ℕ → ℕ → List Run
runs_at m id i = below m (level_of m id) (entry_at m id i)

-- Looks below a node so many levels above the leaves: a search from its first character on goes into one node a level, one from a later
-- character on into two, and each has sixteen entries at most.
abbrev pub most_below : ℕ → ℕ → ℕ
most_below from level = if from == 0 then 16 * level else 32 * level
