-- In which leaf a run stands, and what the map of leaves then has for its stamps. No public clause cites this module.
use Rattle.std.specs.Prelude.{◌≡◌, ℕ, ◌+◌, ◌^◌, ◌<◌, ◌≤◌, ◌⊎◌, true, List, ◌∷◌, ◌++◌, slice_get, length, Some, if◌then◌else◌}
use Rattle.std.specs.List.{AllByRecursion}
use Rattle.rt_nodes.specs.declared.memory.NodeId.{NodeId}
use Rattle.rt_nodes.specs.Nodes.{entries}
use Rattle.rt_spans.specs.Shown.{IsValueBorder, KeepsBordersBut, SpanMapValue, value_of}
use Rattle.rt_stamps.specs.declared.stamp.Span.{Span}
use Rattle.rt_stamps.specs.declared.stamp.Stamp.{Stamp}
use Rattle.rt_store.specs.Cells.{is_in_span}
use Rattle.rt_tree.specs.declared.node.Entry.TheVariants.{Here}
use Rattle.rt_tree.specs.declared.node.Run.{Run}
use Rattle.rt_tree.specs.Homes.{IsSpanOf}
use Rattle.rt_tree.specs.Runs.{has_cell}
use Rattle.rt_tree.specs.Shape.{Memory, level_of, tree_runs}
use Rattle.rt_tree.specs.Stretches.{back_of, front_of}

-- a run is an entry of a leaf
pub record Stands (m : Memory) (leaf : ℕ) (run : Run) : Type 0 where
  pub is : leaf < length m.heads
  pub low : level_of m leaf ≡ 0
  pub entry : ℕ
  pub here : slice_get (entries m leaf) entry ≡ Some (Here run)

-- each run stands where it stood, or in a new node
abbrev pub Stay : Memory → Memory → Type 0
Stay old new = (leaf : ℕ) (run : Run) → Stands new leaf run → (length old.heads ≤ leaf) ⊎ Stands old leaf run

-- so does each but one, which stands in a leaf
abbrev pub StayBut : Memory → Memory → ℕ → Run → Type 0
StayBut old new at own = (leaf : ℕ) (run : Run) → Stands new leaf run → (length old.heads ≤ leaf) ⊎ (Stands old leaf run ⊎ ((leaf ≡ at) × (run ≡ own)))

-- spans that were set in the map begin where the stamps of a run do, and end where they do
pub record IsBordered (leaves : SpanMapValue NodeId) (run : Run) : Type 0 where
  pub begins : IsValueBorder leaves run.site run.first
  pub ends : IsValueBorder leaves run.site (run.first + run.len)
  pub bound : run.first + run.len < 2 ^ 64

-- the stamps of a run that stands in a leaf have it in the map
abbrev pub HasLeaf : SpanMapValue NodeId → ℕ → Run → Type 0
HasLeaf leaves leaf run = (stamp : Stamp) → has_cell run stamp ≡ true → value_of leaves stamp ≡ Some (record { index = leaf })

-- the stamps of all runs that stand in leaves before a node have their leaf in the map
abbrev pub HaveLeavesBelow : ℕ → Memory → SpanMapValue NodeId → Type 0
HaveLeavesBelow node m leaves = (leaf : ℕ) (run : Run) → Stands m leaf run → leaf < node → HasLeaf leaves leaf run

-- each run's stamps have the leaf in which it stands, in spans of its own
pub record AreHoused (m : Memory) (root : ℕ) (leaves : SpanMapValue NodeId) : Type 0 where
  pub bordered : AllByRecursion (IsBordered leaves) (tree_runs m root)
  pub there : (leaf : ℕ) (run : Run) → Stands m leaf run → HasLeaf leaves leaf run

-- the map has a leaf for the stamps of a run now, and is as it was for all others
pub record IsEntered (old new : SpanMapValue NodeId) (run : Run) (leaf : NodeId) : Type 0 where
  pub span : Span
  pub is : IsSpanOf run span
  pub values : (stamp : Stamp) → value_of new stamp ≡ (if is_in_span span stamp then Some leaf else value_of old stamp)
  pub begins : IsValueBorder new span.site span.first
  pub ends : IsValueBorder new span.site (span.last + 1)
  pub kept : KeepsBordersBut span old new

-- A run was cut in two: its first cells stand in a leaf as a run of their own, the others in the leaf where it stood or in a new node.
pub record IsParted (old new : Memory) (root next : ℕ) (front : Run) (leaf : ℕ) : Type 0 where
  pub left : List Run
  pub right : List Run
  pub run : Run
  pub count : ℕ
  pub some : 0 < count
  pub less : count < run.len
  pub was : tree_runs old root ≡ left ++ run ∷ right
  pub is : tree_runs new next ≡ left ++ front ∷ back_of count run ∷ right
  pub front_is : front ≡ front_of count run
  pub at : ℕ
  pub stood : Stands old at run
  pub there : Stands new leaf front
  pub stay : (b : ℕ) (r : Run) → Stands new b r
      → (length old.heads ≤ b) ⊎ (Stands old b r ⊎ (((b ≡ leaf) × (r ≡ front)) ⊎ ((b ≡ at) × (r ≡ back_of count run))))

-- two runs have the same stamps
pub record HaveSameStamps (a b : Run) : Type 0 where
  pub first : b.first ≡ a.first
  pub len : b.len ≡ a.len
  pub site : b.site ≡ a.site

-- a run with the same stamps stood in a leaf
pub record StoodAlike (m : Memory) (leaf : ℕ) (run : Run) : Type 0 where
  pub was : Run
  pub stood : Stands m leaf was
  pub same : HaveSameStamps was run

-- where a run stands, one with the same stamps stood
abbrev pub StampsStay : Memory → Memory → Type 0
StampsStay old new = (leaf : ℕ) (run : Run) → Stands new leaf run → StoodAlike old leaf run
