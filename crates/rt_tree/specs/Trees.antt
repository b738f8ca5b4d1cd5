-- What a tree shows, and how it is kept.
use Rattle.std.specs.Prelude.{◌≡◌, ℕ, zero, suc, ◌+◌, ◌*◌, ◌≤◌, Bool, false, true, List, [], ◌∷◌, length, map, flat_map}
use Rattle.std.specs.List.{All, AllByRecursion, Contains}
use Rattle.rt_stamps.specs.declared.limits.TheConstants.{MOST_CELLS}
use Rattle.rt_stamps.specs.declared.stamp.TheConstants.{FINAL}
use Rattle.rt_store.specs.declared.cell.Cell.{Cell}
use Rattle.rt_store.specs.Cells.{Room}
use Rattle.rt_store.specs.Tagged.{AreStates}
use Rattle.rt_tags.specs.States.{TagStates}
use Rattle.rt_tree.specs.declared.node.Run.{Run}
use Rattle.rt_tree.specs.declared.summary.Summary.{Summary}
use Rattle.rt_tree.specs.declared.summed.Summaries.{Summaries}
use Rattle.rt_tree.specs.Runs.{IsRun, cells_of_runs}
use Rattle.rt_tree.specs.Shape.{IsTree, Memory, level_of, runs, tree_runs}
use Rattle.rt_tree.specs.Sharing.{AreApart}
use Rattle.rt_tree.specs.Summaries.{HaveMemory, IsSummary, shown_states, summary_of, without_room}
use Rattle.rt_tree.specs.Sums.{counts_of}

-- what is kept for a node: the states of the visible runs below it, and their summary
pub record NodeStretch : Type 0 where
  pub states : List ℕ
  pub summary : Summary

-- the cells in order, the number of each in the order in which they came, how many runs they are kept in, how many levels
-- of nodes there are, what there is room for, what is kept for each node, and whether look-ups by stamps go by the map of
-- leaves
pub record TreeValue : Type 0 where
  pub cells : List (Cell ℕ)
  pub came : List ℕ
  pub runs : ℕ
  pub height : ℕ
  pub room : Room
  pub stretches : List NodeStretch
  pub sure : Bool

-- so many numbers from one on
abbrev pub numbers_from : ℕ → ℕ → List ℕ
numbers_from n zero = []
numbers_from n (suc k) = n ∷ numbers_from (n + 1) k

-- the numbers of the cells of runs in the order in which they came, as their characters stand in the text
abbrev pub came_of : List Run → List ℕ
came_of rs = flat_map (λ r. numbers_from r.at r.len) rs

abbrev pub node_stretch : Memory → List Summary → ℕ → NodeStretch
node_stretch m sums id = record { states = shown_states (runs m (level_of m id) id); summary = without_room (summary_of sums id) }

-- what is kept for the first so many nodes
abbrev pub node_stretches : Memory → List Summary → ℕ → List NodeStretch
node_stretches m sums zero = []
node_stretches m sums (suc n) = node_stretch m sums n ∷ node_stretches m sums n

abbrev pub tree_value : Memory → ℕ → List ℕ → List Summary → Room → Bool → TreeValue
tree_value m root text sums room sure = record {
  cells = cells_of_runs text (tree_runs m root);
  came = came_of (tree_runs m root);
  runs = length (tree_runs m root);
  height = level_of m root + 1;
  room = room;
  stretches = node_stretches m sums (length m.heads);
  sure = sure;
}

-- what is kept for nodes is right by a table of states
abbrev pub AreRight : TagStates → List NodeStretch → Type 0
AreRight table stretches = All (λ x. IsSummary table x.states x.summary) stretches

-- the cells' states were given out by a table, and what is kept for nodes is right by it
pub record AgreesWithTable (table : TagStates) (s : TreeValue) : Type 0 where
  pub given : AreStates table s.cells
  pub right : AreRight table s.stretches

-- the states of stretches are states of cells
abbrev pub HasOwn : TreeValue → Type 0
HasOwn s = AllByRecursion (λ x. AllByRecursion (Contains (map (λ c. c.state) s.cells)) x.states) s.stretches

-- there are summaries of spare nodes too, and memory for counts of so many tags
pub record HaveSummaries (m : Memory) (s : Summaries) (most : ℕ) : Type 0 where
  pub many : length m.heads + m.room ≤ length s.each.items
  pub memory : HaveMemory s
  pub tags : most ≤ s.tags

-- the nodes are a tree, whose runs stand in the text and share it, have no more cells than a text may have, and share no stamp if they
-- have more than one cell
pub record IsTreeOfText (m : Memory) (root : ℕ) (text : List ℕ) (runs : ℕ) : Type 0 where
  pub tree : IsTree m root
  pub kept : AllByRecursion (IsRun text) (tree_runs m root)
  pub apart : AreApart (tree_runs m root)
  pub counted : runs ≡ length (tree_runs m root)
  pub few : (counts_of (tree_runs m root)).cells ≤ MOST_CELLS
  pub all : length text ≡ (counts_of (tree_runs m root)).cells

-- There are nodes enough, spare ones too, for a tree of so many runs: each node but the root has eight entries or more.
abbrev pub HasNodes : Memory → ℕ → Type 0
HasNodes m runs = runs ≤ 7 * (length m.heads + m.room)

-- there is room for so many new cells and cuts: in the nodes, each cell perhaps a run, in the text and below the greatest number of cells
pub record IsRoomy (m : Memory) (root : ℕ) (text : List ℕ) (capacity : ℕ) (room : Room) : Type 0 where
  pub nodes : HasNodes m (length (tree_runs m root) + room.cells + room.cuts)
  pub holds : length text + room.cells ≤ capacity
  pub few : length text + room.cells ≤ MOST_CELLS

-- the run of the final newline, as it is at first
abbrev pub final_run : Run
final_run = record { first = FINAL.count; state = 0; at = 0; len = 1; site = FINAL.site; gone = false; newline = true }
