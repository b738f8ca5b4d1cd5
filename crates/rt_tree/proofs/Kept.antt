-- What is known of a tree that is kept.
use Rattle.std.proofs.Common.{◌≡◌, ℕ, ◌+◌, ◌<◌, ◌≤◌, Bool, true, false, if◌then◌else◌, List, [], ◌∷◌, length, drop, get_or, slice_get, Some, sym, ◌∙◌, arith, subst}
use Rattle.std.specs.List.{AllByRecursion}
use Rattle.std.proofs.lemmas.List.{get_or-drop, get_or-take}
use Rattle.rt_nodes.specs.Nodes.{entries}
use Rattle.rt_store.specs.Cells.{Room, text_of, visible_of}
use Rattle.rt_stamps.specs.Places.{newlines}
use Rattle.rt_tree.specs.declared.node.Counts.{Counts}
use Rattle.rt_tree.specs.declared.node.Run.{Run}
use Rattle.rt_tree.specs.declared.summary.Summary.{Summary}
use Rattle.rt_tree.specs.Runs.{IsRun, run_characters, run_cells}
use Rattle.rt_tree.specs.Shape.{Memory, sum_of, tree_runs}
use Rattle.rt_tree.specs.Sums.{AreFew, counts_of}
use Rattle.rt_tree.specs.Trees.{IsTreeOfText, TreeValue, tree_value}
use Rattle.rt_tree.proofs.CellLaws.{counted, characters_length, get-from}
use Rattle.rt_tree.proofs.Down.{sum-node}
use Rattle.rt_tree.proofs.Going.{get-at}

-- none of the three numbers is above that of the cells
pub record Below (counts : Counts) : Type 0 where
  pub visible : counts.visible ≤ counts.cells
  pub newlines : counts.newlines ≤ counts.cells

pub one_below : (len : ℕ) (gone newline : Bool) → 0 < len → ((if gone then 0 else len) ≤ len) × ((if gone then 0 else (if newline then 1 else 0)) ≤ len)
one_below len true newline lt = (omega arith, omega arith)
one_below len false true lt = (omega arith, omega arith)
one_below len false false lt = (omega arith, omega arith)

pub below_cells : (text : List ℕ) (rs : List Run) → AllByRecursion (IsRun text) rs → Below (counts_of rs)
below_cells text [] all = record { visible = omega arith; newlines = omega arith }
below_cells text (r ∷ rs) all =
    let one = one_below r.len r.gone r.newline all.0.some in
    let more = below_cells text rs all.1 in
    record { visible = omega (arith, one.0, more.visible); newlines = omega (arith, one.1, more.newlines) }

module _ (m : Memory) (root : ℕ) (text : List ℕ) (n : ℕ) (kept : IsTreeOfText m root text n) where
  pub few_runs : AreFew (counts_of (tree_runs m root))
  few_runs = let b = below_cells text (tree_runs m root) kept.kept in record { cells = omega (arith, kept.few); visible = omega (arith, kept.few, b.visible); newlines = omega (arith, kept.few, b.newlines) }

  -- the root's entries add up to the runs of the tree
  pub sum_root : sum_of (entries m root) ≡ counts_of (tree_runs m root)
  sum_root = sum-node m root kept.tree root kept.tree.shape.root_is

  -- the runs count what the cells that are shown do
  pub record Shows (now : TreeValue) : Type 0 where
    pub cells : length now.cells ≡ (counts_of (tree_runs m root)).cells
    pub visible : length (visible_of now.cells) ≡ (counts_of (tree_runs m root)).visible
    pub newlines : newlines (text_of now.cells) ≡ (counts_of (tree_runs m root)).newlines

  pub shows : (sums : List Summary) {room : Room} {sure : Bool} (now : TreeValue) → tree_value m root text sums room sure ≡ now → Shows now
  shows sums now is =
      let c = counted text (tree_runs m root) kept.kept in
      subst Shows is (record { cells = c.cells; visible = c.visible; newlines = c.newlines })

-- the cell so many places into a run
pub cell_found : (text : List ℕ) (r : Run) (offset ch : ℕ) → IsRun text r → offset < r.len → ch ≡ get_or text (r.at + offset) ch → slice_get (run_cells text r) offset ≡ Some (record { stamp = record { count = r.first + offset; site = r.site }; ch = ch; gone = r.gone; state = r.state })
cell_found text r offset ch is lt at =
    let long = characters_length text r is in
    get-from r.gone r.first r.site r.state (run_characters text r) offset ch
    (get-at (run_characters text r) offset ch (omega (arith, long))
    (at ∙ sym (get_or-drop r.at text offset ch) ∙ sym (get_or-take r.len (drop r.at text) offset ch lt)))
