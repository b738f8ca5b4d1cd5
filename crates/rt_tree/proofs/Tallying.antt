-- Counts of cells that are put in among others.
use Rattle.std.proofs.Common.{◌≡◌, ℕ, ◌+◌, ◌≤◌, List, ◌++◌, length, take, drop, sym, ap, ◌∙◌, arith, length-append, not, subst}
use Rattle.std.specs.List.{AllByRecursion}
use Rattle.std.proofs.lemmas.List.{length-map, take-append-drop}
use Rattle.std.proofs.lemmas.List.Sums.{count_by-le-length, length-filter}
use Rattle.rt_stamps.specs.Places.{is_newline, newlines}
use Rattle.rt_store.specs.declared.cell.Cell.{Cell}
use Rattle.rt_store.specs.Cells.{put_at, text_of, visible_of}
use Rattle.rt_store.proofs.Steps.{newlines_count}
use Rattle.rt_nodes.specs.Nodes.{entries}
use Rattle.rt_stamps.specs.declared.limits.TheConstants.{MOST_CELLS}
use Rattle.rt_tree.specs.declared.node.Counts.{Counts}
use Rattle.rt_tree.specs.Runs.{IsRun, cells_of_runs}
use Rattle.rt_tree.specs.Shape.{IsTree, Memory, sum_of, tree_runs}
use Rattle.rt_tree.specs.Sums.{AreFew, counts_of}
use Rattle.rt_tree.specs.Tallies.{IsCountOf}
use Rattle.rt_tree.specs.Trees.{IsTreeOfText}
use Rattle.rt_tree.proofs.CellLaws.{counted, text-append, visible-append}
use Rattle.rt_tree.proofs.Down.{sum-node}
use Rattle.rt_tree.proofs.Kept.{below_cells, sum_root}
use Rattle.rt_tree.proofs.Texts.{newlines-append}

visible_more : (a b : List (Cell ℕ)) → length (visible_of (a ++ b)) ≡ length (visible_of a) + length (visible_of b)
visible_more a b = ap length (visible-append a b) ∙ length-append (visible_of a) (visible_of b)

newlines_more : (a b : List (Cell ℕ)) → newlines (text_of (a ++ b)) ≡ newlines (text_of a) + newlines (text_of b)
newlines_more a b = ap newlines (text-append a b) ∙ newlines-append (text_of a) (text_of b)

-- none of the three numbers is above that of the cells
pub visible_few : (cells : List (Cell ℕ)) → length (visible_of cells) ≤ length cells
visible_few cells = let n = length-filter (λ (c : Cell ℕ). not c.gone) cells in let m = count_by-le-length (λ (c : Cell ℕ). not c.gone) cells in omega (arith, n, m)

pub newlines_few : (cells : List (Cell ℕ)) → newlines (text_of cells) ≤ length cells
newlines_few cells =
    let n = newlines_count (text_of cells) in
    let m = count_by-le-length is_newline (text_of cells) in
    let l = length-map (visible_of cells) (λ (c : Cell ℕ). c.ch) in
    let v = visible_few cells in
    omega (arith, n, m, l, v)

pub counts_more : (counts sum : Counts) (at : ℕ) (new old : List (Cell ℕ)) → IsCountOf counts old → sum.cells ≡ counts.cells + length new → sum.visible ≡ counts.visible + length (visible_of new) → sum.newlines ≡ counts.newlines + newlines (text_of new) → IsCountOf sum (put_at at new old)
counts_more counts sum at new old is c v n =
    let front = take at old in let back = drop at old in
    let both = take-append-drop at old in
    let l = length-append front (new ++ back) in let m = length-append new back in let o = length-append front back in let p = ap length both in
    let vl = visible_more front (new ++ back) in let vm = visible_more new back in let vo = visible_more front back in let vp = ap (λ (x : List (Cell ℕ)). length (visible_of x)) both in
    let nl = newlines_more front (new ++ back) in let nm = newlines_more new back in let no = newlines_more front back in let np = ap (λ (x : List (Cell ℕ)). newlines (text_of x)) both in
    record {
      cells = omega (arith, l, m, o, p, c, is.cells);
      visible = omega (arith, vl, vm, vo, vp, v, is.visible);
      newlines = omega (arith, nl, nm, no, np, n, is.newlines);
    }

-- a root's entries add up to the cells
pub counts_are : (m : Memory) (root : ℕ) (text : List ℕ) (n : ℕ) (kept : IsTreeOfText m root text n) (counts : Counts) → counts ≡ sum_of (entries m root) → IsCountOf counts (cells_of_runs text (tree_runs m root))
counts_are m root text n kept counts is =
    let same = is ∙ sum_root m root text n kept in
    let c = counted text (tree_runs m root) kept.kept in
    let cells = ap (λ (x : Counts). x.cells) same in let visible = ap (λ (x : Counts). x.visible) same in let lines = ap (λ (x : Counts). x.newlines) same in
    record { cells = omega (arith, cells, c.cells); visible = omega (arith, visible, c.visible); newlines = omega (arith, lines, c.newlines) }

pub few_entries : (m : Memory) (root : ℕ) (text : List ℕ) → IsTree m root → AllByRecursion (IsRun text) (tree_runs m root) → (counts_of (tree_runs m root)).cells ≤ MOST_CELLS → AreFew (sum_of (entries m root))
few_entries m root text tree kept few =
    let b = below_cells text (tree_runs m root) kept in
    subst AreFew (sym (sum-node m root tree root tree.shape.root_is)) (record { cells = omega (arith, few); visible = omega (arith, few, b.visible); newlines = omega (arith, few, b.newlines) })
