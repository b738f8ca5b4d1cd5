-- The leaves in which runs are looked for. No public clause cites this module.
use Rattle.std.specs.Prelude.{◌≡◌, ◌≢◌, ℕ, ◌+◌, ◌^◌, ◌<◌, ◌≤◌, ◌⊎◌, ◌&&◌, nat_lt, Bool, true, List, ◌∷◌, ◌++◌, length, filter, None, if◌then◌else◌, map}
use Rattle.rt_nodes.specs.declared.memory.NodeId.{NodeId}
use Rattle.rt_spans.specs.Shown.{SpanMapValue, value_of}
use Rattle.rt_stamps.specs.declared.stamp.Span.{Span}
use Rattle.rt_stamps.specs.declared.stamp.Stamp.{Stamp}
use Rattle.rt_store.specs.Cells.{is_in_span}
use Rattle.rt_tree.specs.declared.homes.Home.{Home}
use Rattle.rt_tree.specs.declared.homes.Sought.{Sought}
use Rattle.rt_tree.specs.declared.homes.Sought.TheVariants.{At, Nowhere, Unknown}
use Rattle.rt_tree.specs.declared.node.Counts.{Counts}
use Rattle.rt_tree.specs.declared.run_with.SoughtRun.{SoughtRun}
use Rattle.rt_tree.specs.declared.run_with.SoughtRun.TheVariants as runs
use Rattle.rt_tree.specs.declared.update.CellUpdate.{CellUpdate}
use Rattle.rt_tree.specs.declared.node.Run.{Run}
use Rattle.rt_tree.specs.Runs.{first_stamp, has_cell}
use Rattle.rt_tree.specs.Stretches.{updated_run}
use Rattle.rt_tree.specs.Walks.{IsBehind}

-- how many runs have a stamp
abbrev pub holders : Stamp → List Run → ℕ
holders stamp rs = length (filter (λ r. has_cell r stamp) rs)

-- no stamp is in two runs
abbrev pub AreOnceEach : List Run → Type 0
AreOnceEach rs = (stamp : Stamp) → holders stamp rs ≤ 1

-- each stamp that has a leaf is in a run: one that is in none has no leaf
abbrev pub HaveRuns : SpanMapValue NodeId → List Run → Type 0
HaveRuns leaves rs = (stamp : Stamp) → holders stamp rs ≡ 0 → value_of leaves stamp ≡ None

-- no stamp is in two runs; each that is in one has a leaf, and no other one has
pub record AreHome (leaves : SpanMapValue NodeId) (rs : List Run) : Type 0 where
  pub once : AreOnceEach rs
  pub known : (stamp : Stamp) → value_of leaves stamp ≡ None → holders stamp rs ≡ 0
  pub runs : HaveRuns leaves rs

-- no run has a stamp of another one
abbrev pub IsNew : Run → List Run → Type 0
IsNew run rs = (stamp : Stamp) → has_cell run stamp ≡ true → holders stamp rs ≡ 0

-- no cell has so great a count, or no stamp of a run has a leaf
abbrev pub IsUnknown : SpanMapValue NodeId → ℕ → Run → Type 0
IsUnknown leaves newest run = (newest < run.first) ⊎ ((stamp : Stamp) → has_cell run stamp ≡ true → value_of leaves stamp ≡ None)

-- each stamp that has a leaf still has one
abbrev pub KeepsAll : SpanMapValue NodeId → SpanMapValue NodeId → Type 0
KeepsAll old new = (stamp : Stamp) → value_of new stamp ≡ None → value_of old stamp ≡ None

-- a stamp that is in none of the runs has the leaf that it had, if it had one, and else none
abbrev pub KeepsOthers : SpanMapValue NodeId → SpanMapValue NodeId → List Run → Type 0
KeepsOthers old new rs = (stamp : Stamp) → holders stamp rs ≡ 0 → value_of new stamp ≡ value_of old stamp

-- each stamp of a run has a leaf
abbrev pub HasLeaves : SpanMapValue NodeId → Run → Type 0
HasLeaves leaves run = (stamp : Stamp) → has_cell run stamp ≡ true → value_of leaves stamp ≢ None

-- a run has a stamp, and it is sure that no other run has it
pub record IsHomeOf (rs : List Run) (is_sure : Bool) (stamp : Stamp) (found : Home) : Type 0 where
  pub sure : is_sure ≡ true
  pub home : IsBehind rs found.run found.before
  pub with_stamp : has_cell found.run stamp ≡ true

-- what is said of a stamp is so: that no run has it, since it has no leaf, or which one has it, or nothing
abbrev pub IsSaid : List Run → Bool → SpanMapValue NodeId → Stamp → Sought → Type 0
IsSaid rs sure leaves stamp Nowhere = (sure ≡ true) × (value_of leaves stamp ≡ None)
IsSaid rs sure leaves stamp (At home) = IsHomeOf rs sure stamp home
IsSaid rs sure leaves stamp Unknown = Unit {0}

-- a run stands among others and has a stamp, and it is sure that no other run has it
pub record HasStamp (rs : List Run) (is_sure : Bool) (stamp : Stamp) (run : Run) : Type 0 where
  pub sure : is_sure ≡ true
  pub front : Counts
  pub stands : IsBehind rs run front
  pub with_stamp : has_cell run stamp ≡ true

-- what is said of the run of a stamp is so, as `IsSaid` has it
abbrev pub IsRunSaid : List Run → Bool → SpanMapValue NodeId → Stamp → SoughtRun → Type 0
IsRunSaid rs sure leaves stamp runs.Nowhere = (sure ≡ true) × (value_of leaves stamp ≡ None)
IsRunSaid rs sure leaves stamp (runs.Is run) = HasStamp rs sure stamp run
IsRunSaid rs sure leaves stamp runs.Unknown = Unit {0}

-- the stamps of a run are those of a span
pub record IsSpanOf (run : Run) (span : Span) : Type 0 where
  pub site : span.site ≡ run.site
  pub first : span.first ≡ run.first
  pub last : span.last + 1 ≡ run.first + run.len
  pub some : span.first ≤ span.last
  pub bound : span.last + 1 < 2 ^ 64

-- the first stamps of a run have no leaf
abbrev pub AreUnknown : SpanMapValue NodeId → Run → ℕ → Type 0
AreUnknown leaves run len = (stamp : Stamp) → has_cell (record run { len = len }) stamp ≡ true → value_of leaves stamp ≡ None

-- a run stands among others
pub record IsAmong (all : List Run) (run : Run) : Type 0 where
  pub left : List Run
  pub right : List Run
  pub here : all ≡ left ++ run ∷ right

-- a run is updated if its first stamp is in a span and comes before a count
abbrev pub run_to : Span → ℕ → CellUpdate → Run → Run
run_to span count update r = if is_in_span span (first_stamp r) && nat_lt r.first count then updated_run update r else r

-- where runs were updated up to a count of a span, they are updated up to a later one now
pub record UpdatesOn (span : Span) (update : CellUpdate) (count next : ℕ) (old new : List Run) : Type 0 where
  pub later : count < next
  pub updates : (rs : List Run) → old ≡ map (run_to span count update) rs → new ≡ map (run_to span next update) rs
