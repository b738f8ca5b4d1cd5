-- Where a stamp is, by the leaf that the map has for it.
use Rattle.std.proofs.Common.{◌≡◌, ℕ, zero, suc, ◌+◌, ◌-◌, ◌<◌, false, true≢false, List, [], ◌∷◌, length, drop, slice_get, Option, Some, None, refl, sym, ap, ◌∙◌, arith, subst}
use Rattle.std.specs.Prelude.{IfSome, option_map}
use Rattle.std.specs.List.{AllByRecursion}
use Rattle.rt_nodes.specs.declared.memory.NodeId.{NodeId}
use Rattle.rt_nodes.specs.Nodes.{entries}
use Rattle.rt_spans.specs.Shown.{SpanMapValue, value_of}
use Rattle.rt_stamps.specs.declared.stamp.Stamp.{Stamp}
use Rattle.rt_store.specs.Cells.{position_of, visible_before}
use Rattle.rt_store.proofs.Distinct.{split}
use Rattle.rt_tree.specs.declared.node.Entry.{Entry}
use Rattle.rt_tree.specs.declared.node.Entry.TheVariants.{Down, Here}
use Rattle.rt_tree.specs.declared.node.Run.{Run}
use Rattle.rt_tree.specs.Homes.{AreHome, holders}
use Rattle.rt_tree.specs.Runs.{IsRun, cells_of_runs, has_cell}
use Rattle.rt_tree.specs.Shape.{Fits, IsShape, IsTree, Memory, all_below, below, level_of, runs, tree_runs}
use Rattle.rt_tree.specs.Standing.{AreHoused, Stands}
use Rattle.rt_tree.specs.Walks.{IsPlaceIn}
use Rattle.rt_tree.proofs.Apart.{bit}
use Rattle.rt_tree.proofs.Exact.{each-all}
use Rattle.rt_tree.proofs.Frame.{each-append}
use Rattle.rt_tree.proofs.Housing.{holders-cons, is_here, no_holder, there_at}
use Rattle.rt_tree.proofs.Positions.{visible_there}
use Rattle.rt_tree.proofs.Stands.{parted}

-- EACH RUN STANDS IN A LEAF

next_get : (xs es : List Entry) (k : ℕ) (e : Entry) → drop k xs ≡ e ∷ es → slice_get xs k ≡ Some e
next_get [] es zero e at = cc
next_get [] es (suc k) e at = cc
next_get (x ∷ xs) es zero e at = let h : x ≡ e = cc in ap Some h
next_get (x ∷ xs) es (suc k) e at = next_get xs es k e at

next_drop : (xs es : List Entry) (k : ℕ) (e : Entry) → drop k xs ≡ e ∷ es → drop (suc k) xs ≡ es
next_drop [] es zero e at = cc
next_drop [] es (suc k) e at = cc
next_drop (x ∷ xs) es zero e at = cc
next_drop (x ∷ xs) es (suc k) e at = next_drop xs es k e at

module _ (m : Memory) (height root : ℕ) (t : IsShape m height root) where
  -- a run stands in some leaf
  abbrev Somewhere : Run → Type 0
  Somewhere run = (leaf : ℕ) × Stands m leaf run

  in_leaf : (id : ℕ) → id < length m.heads → level_of m id ≡ 0 → (k : ℕ) (es : List Entry) → drop k (entries m id) ≡ es → AllByRecursion (Fits m id 0) es → AllByRecursion Somewhere (all_below m 0 es)
  in_leaf id is low k [] at fits = tt
  in_leaf id is low k (Here r ∷ es) at fits =
      ((id, record { is = is; low = low; entry = k; here = next_get (entries m id) es k (Here r) at }), in_leaf id is low (suc k) es (next_drop (entries m id) es k (Here r) at) fits.1)
  in_leaf id is low k (Down c ts ∷ es) at fits = absurd fits.0

  each_below : (k id : ℕ) → ((c : ℕ) → c < length m.heads → level_of m c ≡ k → AllByRecursion Somewhere (runs m k c)) → (es : List Entry) → AllByRecursion (Fits m id (suc k)) es → AllByRecursion Somewhere (all_below m (suc k) es)
  each_below k id lower [] fits = tt
  each_below k id lower (Here r ∷ es) fits = absurd fits.0
  each_below k id lower (Down c ts ∷ es) fits = each-append Somewhere (below m (suc k) (Down c ts)) (all_below m (suc k) es) (lower c.index fits.0.is fits.0.level) (each_below k id lower es fits.1)

  below_node : (k id : ℕ) → id < length m.heads → level_of m id ≡ k → AllByRecursion Somewhere (runs m k id)
  below_node zero id is level = in_leaf id is level 0 (entries m id) refl (subst (λ k. AllByRecursion (Fits m id k) (entries m id)) level (t.fits id is))
  below_node (suc k) id is level = each_below k id (λ c low at. below_node k c low at) (entries m id) (subst (λ k. AllByRecursion (Fits m id k) (entries m id)) level (t.fits id is))

-- WHERE A STAMP IS

no_holders : (stamp : Stamp) (rs : List Run) → AllByRecursion (λ (r : Run). has_cell r stamp ≡ false) rs → holders stamp rs ≡ 0
no_holders stamp [] none = refl
no_holders stamp (r ∷ rs) none = let c = holders-cons stamp r rs in let b : bit (has_cell r stamp) ≡ 0 = ap bit none.0 in let z = no_holders stamp rs none.1 in omega (arith, c, b, z)

-- if no run of the leaf that the map has for a stamp has it, none has
pub not_there : (m : Memory) (root : ℕ) → IsTree m root → (leaves : SpanMapValue NodeId) → AreHoused m root leaves → (stamp : Stamp) (leaf : NodeId) → value_of leaves stamp ≡ Some leaf
    → ((i : ℕ) (run : Run) → leaf.index < length m.heads → level_of m leaf.index ≡ 0 → slice_get (entries m leaf.index) i ≡ Some (Here run) → has_cell run stamp ≡ false) → holders stamp (tree_runs m root) ≡ 0
not_there m root t leaves h stamp leaf at none =
    no_holders stamp (tree_runs m root) (each-all (Somewhere m (level_of m root) root t.shape) (λ (r : Run). has_cell r stamp ≡ false)
    (λ r somewhere. split (has_cell r stamp)
    (λ there.
    let same : Some leaf ≡ Some (record { index = somewhere.0 }) = sym at ∙ h.there somewhere.0 r somewhere.1 stamp there in
    let leaf_is : leaf ≡ record { index = somewhere.0 } = cc in
    let here = subst (λ (n : NodeId). Stands m n.index r) (sym leaf_is) somewhere.1 in
    absurd (true≢false (sym there ∙ none here.entry r here.is here.low here.here)))
    (λ off. off))
    (tree_runs m root) (below_node m (level_of m root) root t.shape (level_of m root) root t.shape.root_is refl))

-- what was found by the leaf is the place of the stamp's cell, if there is one
module _ (m : Memory) (root leaf : ℕ) (t : IsTree m root) (text : List ℕ) (leaves : SpanMapValue NodeId) (stamp : Stamp) (kept : AllByRecursion (IsRun text) (tree_runs m root)) (home : AreHome leaves (tree_runs m root)) where
  abbrev all : List Run
  all = tree_runs m root

  pub nothing_climbed : holders stamp all ≡ 0 → ◌≡◌ {A = Option ℕ} None (option_map (visible_before (cells_of_runs text all)) (position_of (cells_of_runs text all) stamp))
  nothing_climbed none = ap (option_map (visible_before (cells_of_runs text all))) (no_holder text all stamp kept none)

  pub climbed : leaf < length m.heads → level_of m leaf ≡ 0 → (found : Option ℕ) → IfSome found (IsPlaceIn m root leaf stamp) → (found ≡ None → holders stamp all ≡ 0)
      → found ≡ option_map (visible_before (cells_of_runs text all)) (position_of (cells_of_runs text all) stamp)
  climbed is low (Some place) some none =
      let r = some.run in
      let offset = stamp.count - r.first in
      let stands = parted m root t leaf some.entry r some.front is low some.here some.before in
      let here = is_here text all leaves stamp kept home r some.front stands some.there in
      let shown = visible_there text all r some.front offset (some.front.cells + offset) kept (there_at all r some.front stamp stands some.there) in
      ap Some some.is ∙ ap Some shown ∙ ap (option_map (visible_before (cells_of_runs text all))) here
  climbed is low None some none = nothing_climbed (none refl)
