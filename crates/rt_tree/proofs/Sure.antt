-- Where the map of leaves stays sure.
use Rattle.std.proofs.Common.{◌≡◌, ℕ, ◌+◌, ◌-◌, ◌<◌, ◌^◌, false, List, [], ◌∷◌, ◌++◌, map, refl, sym, ap, ◌∙◌, arith, subst}
use Rattle.std.specs.List.{AllByRecursion}
use Rattle.rt_nodes.specs.declared.memory.NodeId.{NodeId}
use Rattle.rt_spans.specs.Shown.{SpanMapValue}
use Rattle.rt_stamps.specs.declared.stamp.Span.{Span}
use Rattle.rt_stamps.specs.declared.stamp.Stamp.{Stamp}
use Rattle.rt_store.proofs.Distinct.{split}
use Rattle.rt_store.specs.declared.cell.Cell.{Cell}
use Rattle.rt_stamps.specs.Stamps.{is_same}
use Rattle.rt_store.specs.Cells.{AreDistinct, is_in_span, put_at}
use Rattle.rt_tree.specs.declared.update.CellUpdate.{CellUpdate}
use Rattle.rt_tree.specs.declared.update.CellUpdate.TheVariants.{Gone, State}
use Rattle.rt_tree.specs.declared.node.Run.{Run}
use Rattle.rt_tree.specs.Additions.{IsFrontOf}
use Rattle.rt_tree.specs.Homes.{AreOnceEach, IsNew, KeepsOthers, holders}
use Rattle.rt_tree.specs.Runs.{IsRun, cells_of_runs, run_characters, has_cell}
use Rattle.rt_tree.specs.Shape.{IsTree, Memory, tree_runs}
use Rattle.rt_tree.specs.Sharing.{AreBelowGreatest, AreOnce, NoneIsNewer, cell_updated_in, occurrences}
use Rattle.rt_tree.specs.Standing.{AreHoused, IsBordered, IsEntered, IsParted, Stands}
use Rattle.rt_tree.specs.Stretches.{updated_cell}
use Rattle.rt_tree.proofs.Apart.{bit}
use Rattle.rt_tree.proofs.CellLaws.{characters_length}
use Rattle.rt_tree.proofs.Frame.{each-back}
use Rattle.rt_tree.proofs.Housing.{all_occurs, holders-mid, is_bit}
use Rattle.rt_tree.proofs.Leaves.{none_has, stands_in, value_kept}
use Rattle.rt_tree.proofs.Newest.{row_upto, upto_take}
use Rattle.rt_tree.proofs.Shared.{occurs-cons, occurs-parts, occurs-put, occurs_once, occurs_run}

-- LEAVES FOR STAMPS OF RUNS ALONE

-- once a run was told that is among others, stamps that are in none of these have what they had
pub entered_others : (old new : SpanMapValue NodeId) (run : Run) (leaf : NodeId) → IsEntered old new run leaf → (rs left right : List Run) → rs ≡ left ++ run ∷ right → KeepsOthers old new rs
entered_others old new run leaf told rs left right is stamp none =
    value_kept old new run leaf told stamp (split (has_cell run stamp)
    (λ t. let m = ap (holders stamp) is ∙ holders-mid stamp left run right in let b = is_bit (has_cell run stamp) t in absurd (omega (arith, m, b, none)))
    (λ f. f))

-- the first cells of a run that was cut in two have counts below the greatest, if the run had
pub front_bound : (leaves : SpanMapValue NodeId) (m n : Memory) (root next : ℕ) (front : Run) (leaf : ℕ) → IsParted m n root next front leaf → AreHoused m root leaves → (0 < front.len) × (front.first + front.len < 2 ^ 64)
front_bound leaves m n root next front leaf cut housed =
    let own = (each-back (IsBordered leaves) cut.left (cut.run ∷ cut.right) (subst (AllByRecursion (IsBordered leaves)) cut.was housed.bordered)).0 in
    let first = ap (λ (x : Run). x.first) cut.front_is in
    let len = ap (λ (x : Run). x.len) cut.front_is in
    let bound = own.bound in
    let some = cut.some in let less = cut.less in
    (omega (arith, len, some), omega (arith, first, len, less, bound))

pub held_none : (run : Run) (stamp : Stamp) → has_cell run stamp ≡ false → holders stamp (run ∷ []) ≡ 0
held_none run stamp out = rw out refl

-- a run that stands in a leaf has no stamp that no run has
pub stands_without : (m : Memory) (root : ℕ) → IsTree m root → (stamp : Stamp) → holders stamp (tree_runs m root) ≡ 0 → (leaf : ℕ) (run : Run) → Stands m leaf run → has_cell run stamp ≡ false
stands_without m root t stamp none leaf run at = stands_in m root t (λ (r : Run). has_cell r stamp ≡ false) (none_has stamp (tree_runs m root) none) leaf run at

-- NEW CELLS

module _ (text : List ℕ) (run : Run) (cells : List (Cell ℕ)) (front : IsFrontOf text cells run) where
  -- where no two cells have one stamp, no run has a stamp of a new one's
  pub front_new : (rs : List Run) → AllByRecursion (IsRun text) rs → AreOnce (cells_of_runs text rs) cells → IsNew run rs
  front_new rs kept once stamp there =
      let a = occurs_run text run stamp front.run there in
      let i = ap (occurrences stamp) front.same in
      let q = occurs-parts stamp run.len cells in
      let h = once stamp in
      let s = all_occurs text rs stamp kept in
      omega (arith, a, i, q, h, s)

  pub front_below : AreBelowGreatest cells → run.first + run.len < 2 ^ 64
  front_below below =
      let n : ℕ = 2 ^ 64 - 2 in
      let long = characters_length text run front.run in
      let some = front.run.some in
      let own = subst (NoneIsNewer n) (sym front.same) (upto_take n run.len cells below) in
      let low = row_upto n run.gone run.first run.site run.state (run_characters text run) (omega (arith, long, some)) own in
      omega (arith, low, long)

-- STAMPS OF CELLS THAT DIFFER

pub distinct_each : (text : List ℕ) (rs : List Run) → AllByRecursion (IsRun text) rs → AreDistinct (cells_of_runs text rs) → AreOnceEach rs
distinct_each text rs kept distinct stamp =
    let o = occurs_once stamp (cells_of_runs text rs) distinct in
    let s = all_occurs text rs stamp kept in
    omega (arith, o, s)

-- before cells were put in, and among them
module _ (text : List ℕ) (old new : List Run) (at : ℕ) (cells : List (Cell ℕ)) (was : AllByRecursion (IsRun text) old) (kept : AllByRecursion (IsRun text) new) (is : cells_of_runs text new ≡ put_at at cells (cells_of_runs text old)) (once : AreOnceEach new) where
  pub once_together : AreOnce (cells_of_runs text old) cells
  once_together stamp =
      let p = sym (all_occurs text new stamp kept) ∙ ap (occurrences stamp) is ∙ occurs-put stamp at cells (cells_of_runs text old) in
      let o = once stamp in
      omega (arith, p, o)

  pub once_before : AreOnceEach old
  once_before stamp =
      let t = once_together stamp in
      let s = all_occurs text old stamp was in
      omega (arith, t, s)

-- MARKS

same_stamp : (update : CellUpdate) (c : Cell ℕ) → (updated_cell update c).stamp ≡ c.stamp
same_stamp Gone c = refl
same_stamp (State state) c = refl

kept_stamp : (span : Span) (update : CellUpdate) (c : Cell ℕ) → (cell_updated_in span update c).stamp ≡ c.stamp
kept_stamp span update c = split (is_in_span span c.stamp) (λ e. rw e (same_stamp update c)) (λ e. rw e refl)

occurs_updated : (span : Span) (update : CellUpdate) (stamp : Stamp) (cs : List (Cell ℕ)) → occurrences stamp (map (cell_updated_in span update) cs) ≡ occurrences stamp cs
occurs_updated span update stamp [] = refl
occurs_updated span update stamp (c ∷ cs) =
    let a = occurs-cons stamp (cell_updated_in span update c) (map (cell_updated_in span update) cs) in
    let b = occurs-cons stamp c cs in
    let h = ap (λ s. bit (is_same s stamp)) (kept_stamp span update c) in
    let i = occurs_updated span update stamp cs in
    omega (arith, a, b, h, i)

-- where no stamp is in two runs once cells were updated, none was before
pub updated_before : (span : Span) (update : CellUpdate) (text : List ℕ) (old new : List Run) → AllByRecursion (IsRun text) old → AllByRecursion (IsRun text) new → cells_of_runs text new ≡ map (cell_updated_in span update) (cells_of_runs text old) → AreOnceEach new → AreOnceEach old
updated_before span update text old new was kept is once stamp =
    let same = sym (all_occurs text new stamp kept) ∙ ap (occurrences stamp) is ∙ occurs_updated span update stamp (cells_of_runs text old) ∙ all_occurs text old stamp was in
    let o = once stamp in
    omega (arith, same, o)
