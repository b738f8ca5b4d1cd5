-- Where a run is known to stand. No public clause cites this module.
use Rattle.std.specs.Prelude.{◌≡◌, ℕ, ◌+◌, ◌<◌, length, slice_get, Some}
use Rattle.rt_nodes.specs.Nodes.{entries}
use Rattle.rt_tree.specs.declared.node.Counts.{Counts}
use Rattle.rt_tree.specs.declared.node.Entry.TheVariants.{Here}
use Rattle.rt_tree.specs.declared.node.CountedBy.TheVariants.{Cells}
use Rattle.rt_tree.specs.declared.node.Run.{Run}
use Rattle.rt_tree.specs.declared.put.Known.{Known}
use Rattle.rt_tree.specs.declared.put.Known.TheVariants.{At, Behind, Nothing}
use Rattle.rt_tree.specs.declared.walk.Found.{Found}
use Rattle.rt_tree.specs.declared.walk.Spot.{Spot}
use Rattle.rt_tree.specs.Shape.{Memory, level_of, runs_before}
use Rattle.rt_tree.specs.Sums.{counts_of}
use Rattle.rt_tree.specs.Walks.{IsSpot}

-- a run is an entry of a leaf, and the runs before it count so many
pub record IsHeld (m : Memory) (root leaf entry : ℕ) (run : Run) (front : Counts) : Type 0 where
  pub is : leaf < length m.heads
  pub low : level_of m leaf ≡ 0
  pub here : slice_get (entries m leaf) entry ≡ Some (Here run)
  pub before : front ≡ counts_of (runs_before m root leaf entry)

-- a spot is that of the last cell of a run, and the run ends at a position
pub record IsEndAt (m : Memory) (root at : ℕ) (spot : Spot) : Type 0 where
  pub run : Run
  pub place : ℕ
  pub is : IsSpot m root Cells place spot.leaf.index spot.entry spot.offset run
  pub last : spot.offset + 1 ≡ run.len
  pub next : place + 1 ≡ at

-- what is known of the cell at a position is so: a run ends before it at a spot, or it is at a spot itself
abbrev pub HoldsAt : Memory → ℕ → ℕ → Known → Type 0
HoldsAt m root at Nothing = Unit {0}
HoldsAt m root at (Behind spot) = IsEndAt m root at spot
HoldsAt m root at (At spot) = (run : Run) × IsSpot m root Cells at spot.leaf.index spot.entry spot.offset run

-- a spot that was found is its run's
abbrev pub Holds : Memory → ℕ → Found → Type 0
Holds m root found = IsHeld m root found.spot.leaf.index found.spot.entry found.run found.before
