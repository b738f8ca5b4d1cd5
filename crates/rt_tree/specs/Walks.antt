-- Where a walk ends.
use Rattle.std.specs.Prelude.{◌≡◌, ℕ, ◌+◌, ◌-◌, ◌<◌, false, true, if◌then◌else◌, List, ◌∷◌, ◌++◌, length, slice_get, Some}
use Rattle.rt_nodes.specs.Nodes.{entries}
use Rattle.rt_stamps.specs.declared.stamp.Stamp.{Stamp}
use Rattle.rt_tree.specs.declared.node.Counts.{Counts}
use Rattle.rt_tree.specs.declared.node.Entry.TheVariants.{Here}
use Rattle.rt_tree.specs.declared.node.CountedBy.{CountedBy}
use Rattle.rt_tree.specs.declared.node.CountedBy.TheVariants.{Cells}
use Rattle.rt_tree.specs.declared.node.Run.{Run}
use Rattle.rt_tree.specs.Runs.{has_cell}
use Rattle.rt_tree.specs.Shape.{Memory, level_of, runs_before}
use Rattle.rt_tree.specs.Sums.{amount, counts_of, counts_of_run}

-- A place, counted in cells, visible characters or newlines, is so much into the run at an entry of a leaf.
pub record IsSpot (m : Memory) (root : ℕ) (by : CountedBy) (place leaf entry offset : ℕ) (run : Run) : Type 0 where
  pub is : leaf < length m.heads
  pub low : level_of m leaf ≡ 0
  pub here : slice_get (entries m leaf) entry ≡ Some (Here run)
  pub at : amount by (counts_of (runs_before m root leaf entry)) + offset ≡ place
  pub inside : offset < amount by (counts_of_run run)

-- A run stands among others so that a place is so much into it; the runs before it count so many.
pub record StandsAt (by : CountedBy) (all : List Run) (run : Run) (front : Counts) (offset place : ℕ) : Type 0 where
  pub left : List Run
  pub right : List Run
  pub here : all ≡ left ++ run ∷ right
  pub before : front ≡ counts_of left
  pub at : amount by front + offset ≡ place
  pub inside : offset < amount by (counts_of_run run)

-- A run stands among others, and those before it count so many.
pub record IsBehind (all : List Run) (run : Run) (front : Counts) : Type 0 where
  pub left : List Run
  pub right : List Run
  pub here : all ≡ left ++ run ∷ right
  pub before : front ≡ counts_of left

-- So many visible cells stand before the cell of a stamp, in the first run of a leaf that has the stamp.
pub record IsPlaceIn (m : Memory) (root leaf : ℕ) (stamp : Stamp) (place : ℕ) : Type 0 where
  pub entry : ℕ
  pub run : Run
  pub here : slice_get (entries m leaf) entry ≡ Some (Here run)
  pub there : has_cell run stamp ≡ true
  pub first : (i : ℕ) (other : Run) → i < entry → slice_get (entries m leaf) i ≡ Some (Here other) → has_cell other stamp ≡ false
  pub front : Counts
  pub before : front ≡ counts_of (runs_before m root leaf entry)
  pub is : place ≡ front.visible + (if run.gone then 0 else (stamp.count - run.first))

-- A run has been put in before the one that has the cell at a position.
pub record IsPutAt (old new : List Run) (at : ℕ) (run : Run) : Type 0 where
  pub next : Run
  pub front : Counts
  pub offset : ℕ
  pub was : StandsAt Cells old next front offset at
  pub is : new ≡ was.left ++ run ∷ next ∷ was.right

-- A run stands in place of the one that has the cell at a position.
pub record IsReplacedAt (old new : List Run) (at : ℕ) (run : Run) : Type 0 where
  pub before : Run
  pub front : Counts
  pub offset : ℕ
  pub was : StandsAt Cells old before front offset at
  pub is : new ≡ was.left ++ run ∷ was.right
