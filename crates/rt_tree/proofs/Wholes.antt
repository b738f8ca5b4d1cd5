-- A tree, and its nodes without totals.
use Rattle.std.proofs.Common.{◌≡◌, ℕ, zero, suc, inl, inr, List, [], ◌∷◌, ◌++◌, refl, sym, ap, ◌∙◌, arith, subst}
use Rattle.std.specs.List.{AllByRecursion}
use Rattle.std.proofs.lemmas.Bool.{cases_eq}
use Rattle.rt_nodes.specs.Nodes.{entries}
use Rattle.rt_tree.specs.declared.node.Entry.{Entry}
use Rattle.rt_tree.specs.declared.node.Entry.TheVariants.{Down, Here}
use Rattle.rt_tree.specs.Changes.{AreExact, IsLocal, IsRight, adds_up, bare, blank, entry_totals, links, strip}
use Rattle.rt_tree.specs.Shape.{AreFilled, Fits, IsExact, IsShape, IsTree, Memory, ahead, all_below, behind, below, child_count, left_of, level_of, parent_of, right_of, runs, tree_runs}
use Rattle.rt_tree.specs.Sums.{totals_of}
use Rattle.rt_tree.proofs.Adding.{totals-append, join_last}
use Rattle.rt_tree.proofs.Around.{test_other, test_same}
use Rattle.rt_tree.proofs.Bares.{bare-entries}
use Rattle.rt_tree.proofs.Exact.{each-all, each-both, exact-right}
use Rattle.rt_tree.proofs.Raise.{length-rows}

module _ (m : Memory) where
  pub flat-bare : (k : ℕ) → ((e : Entry) → below (bare m) k (strip e) ≡ below m k e) → (es : List Entry) → all_below (bare m) k (links es) ≡ all_below m k es
  flat-bare k same [] = refl
  flat-bare k same (e ∷ es) = ap (λ x. x ++ all_below (bare m) k (links es)) (same e) ∙ ap (λ x. below m k e ++ x) (flat-bare k same es)

  pub below-bare : (k : ℕ) (e : Entry) → below (bare m) k (strip e) ≡ below m k e
  below-bare zero (Here r) = refl
  below-bare (suc k) (Here r) = refl
  below-bare zero (Down c t) = refl
  below-bare (suc k) (Down c t) = ap (all_below (bare m) k) (bare-entries m c.index) ∙ flat-bare k (below-bare k) (entries m c.index)

  -- the runs of a node
  pub runs-bare : (k id : ℕ) → runs (bare m) k id ≡ runs m k id
  runs-bare k id = ap (all_below (bare m) k) (bare-entries m id) ∙ flat-bare k (below-bare k) (entries m id)

  pub count-bare : (id : ℕ) (es : List Entry) → child_count id (links es) ≡ child_count id es
  count-bare id [] = refl
  count-bare id (Here r ∷ es) = count-bare id es
  count-bare id (Down c t ∷ es) = omega (arith, count-bare id es)

  pub left-bare : (id : ℕ) (es : List Entry) → left_of id (links es) ≡ links (left_of id es)
  left-bare id [] = refl
  left-bare id (Here r ∷ es) = ap (λ l. Here r ∷ l) (left-bare id es)
  left-bare id (Down c t ∷ es) = elim (cases_eq c.index id) [
    | inl e ↦ test_same c.index id [] (Down c blank ∷ left_of id (links es)) e ∙ sym (ap links (test_same c.index id [] (Down c t ∷ left_of id es) e))
    | inr ne ↦ test_other c.index id [] (Down c blank ∷ left_of id (links es)) ne ∙ ap (λ l. Down c blank ∷ l) (left-bare id es) ∙ sym (ap links (test_other c.index id [] (Down c t ∷ left_of id es) ne))
  ]

  pub right-bare : (id : ℕ) (es : List Entry) → right_of id (links es) ≡ links (right_of id es)
  right-bare id [] = refl
  right-bare id (Here r ∷ es) = right-bare id es
  right-bare id (Down c t ∷ es) = elim (cases_eq c.index id) [
    | inl e ↦ test_same c.index id (links es) (right_of id (links es)) e ∙ sym (ap links (test_same c.index id es (right_of id es) e))
    | inr ne ↦ test_other c.index id (links es) (right_of id (links es)) ne ∙ right-bare id es ∙ sym (ap links (test_other c.index id es (right_of id es) ne))
  ]

  -- the runs behind a node, and those before it
  pub behind-bare : (depth id : ℕ) → behind (bare m) depth id ≡ behind m depth id
  behind-bare zero id = refl
  behind-bare (suc depth) id =
      let p = parent_of m id in let k = level_of m p in
      ap (λ b. all_below (bare m) k (right_of id (entries (bare m) p)) ++ b) (behind-bare depth p)
      ∙ ap (λ l. l ++ behind m depth p) (ap (λ es. all_below (bare m) k (right_of id es)) (bare-entries m p) ∙ ap (all_below (bare m) k) (right-bare id (entries m p)) ∙ flat-bare k (below-bare k) (right_of id (entries m p)))

  pub ahead-bare : (depth id : ℕ) → ahead (bare m) depth id ≡ ahead m depth id
  ahead-bare zero id = refl
  ahead-bare (suc depth) id =
      let p = parent_of m id in let k = level_of m p in
      ap (λ a. a ++ all_below (bare m) k (left_of id (entries (bare m) p))) (ahead-bare depth p)
      ∙ ap (λ l. ahead m depth p ++ l) (ap (λ es. all_below (bare m) k (left_of id es)) (bare-entries m p) ∙ ap (all_below (bare m) k) (left-bare id (entries m p)) ∙ flat-bare k (below-bare k) (left_of id (entries m p)))

  fits-bare : (id k : ℕ) (e : Entry) → Fits m id k e → Fits (bare m) id k (strip e)
  fits-bare id zero (Here r) f = f
  fits-bare id (suc k) (Here r) f = f
  fits-bare id zero (Down c t) f = f
  fits-bare id (suc k) (Down c t) f = record { is = f.is; level = f.level; parent = f.parent }

  bare-fits : (id k : ℕ) (e : Entry) → Fits (bare m) id k (strip e) → Fits m id k e
  bare-fits id zero (Here r) f = f
  bare-fits id (suc k) (Here r) f = f
  bare-fits id zero (Down c t) f = f
  bare-fits id (suc k) (Down c t) f = record { is = f.is; level = f.level; parent = f.parent }

  all-bare : (id k : ℕ) (es : List Entry) → AllByRecursion (Fits m id k) es → AllByRecursion (Fits (bare m) id k) (links es)
  all-bare id k [] all = tt
  all-bare id k (e ∷ es) all = (fits-bare id k e all.0, all-bare id k es all.1)

  bare-all : (id k : ℕ) (es : List Entry) → AllByRecursion (Fits (bare m) id k) (links es) → AllByRecursion (Fits m id k) es
  bare-all id k [] all = tt
  bare-all id k (e ∷ es) all = (bare-fits id k e all.0, bare-all id k es all.1)

  pub bare-shape : (height root : ℕ) → IsShape m height root → IsShape (bare m) height root
  bare-shape height root t = record {
    same = t.same ∙ sym (length-rows m);
    root_is = t.root_is;
    top = t.top;
    low = t.low;
    fits = λ id is. subst (AllByRecursion (Fits (bare m) id (level_of m id))) (sym (bare-entries m id)) (all-bare id (level_of m id) (entries m id) (t.fits id is));
    known = λ id is ne. let k = t.known id is ne in record { is = k.is; up = k.up; once = ap (child_count id) (bare-entries m (parent_of m id)) ∙ count-bare id (entries m (parent_of m id)) ∙ k.once };
  }

  pub shape-bare : (height root : ℕ) → IsShape (bare m) height root → IsShape m height root
  shape-bare height root t = record {
    same = t.same ∙ length-rows m;
    root_is = t.root_is;
    top = t.top;
    low = t.low;
    fits = λ id is. bare-all id (level_of m id) (entries m id) (subst (AllByRecursion (Fits (bare m) id (level_of m id))) (bare-entries m id) (t.fits id is));
    known = λ id is ne. let k = t.known id is ne in record { is = k.is; up = k.up; once = sym (ap (child_count id) (bare-entries m (parent_of m id)) ∙ count-bare id (entries m (parent_of m id))) ∙ k.once };
  }

  -- exact entries add up to their runs
  pub adds-exact : (k : ℕ) (es : List Entry) → AllByRecursion (IsExact m k) es → adds_up es ≡ totals_of (all_below m k es)
  adds-exact k [] all = refl
  adds-exact k (e ∷ es) all = join_last (entry_totals e) (totals_of (below m k e)) (adds_up es) (totals_of (all_below m k es)) (mine k e all.0) (adds-exact k es all.1) ∙ sym (totals-append (below m k e) (all_below m k es)) where
    mine : (k : ℕ) (e : Entry) → IsExact m k e → entry_totals e ≡ totals_of (below m k e)
    mine zero (Here r) h = refl
    mine (suc k) (Here r) h = refl
    mine zero (Down c t) h = h
    mine (suc k) (Down c t) h = h

module _ (m : Memory) (root : ℕ) (t : IsTree m root) where
  local : (id k : ℕ) (e : Entry) → Fits m id k e → IsExact m k e → IsLocal m e
  local id zero (Here r) f h = refl
  local id (suc k) (Here r) f h = refl
  local id zero (Down c x) f h = absurd f
  local id (suc k) (Down c x) f h =
      let all = subst (λ n. AllByRecursion (IsExact m n) (entries m c.index)) f.level (t.totals c.index f.is) in
      h ∙ sym (adds-exact m k (entries m c.index) all)

  -- totals that are those of the runs are what entries add up to
  pub tree-exact : AreExact m
  tree-exact id is = each-both (Fits m id (level_of m id)) (IsExact m (level_of m id)) (IsLocal m) (λ e f h. local id (level_of m id) e f h) (entries m id) (t.shape.fits id is) (t.totals id is)

  pub tree-shape : IsShape (bare m) (level_of m root) root
  tree-shape = bare-shape m (level_of m root) root t.shape

module _ (m : Memory) (height root : ℕ) (t : IsShape (bare m) height root) (exact : AreExact m) (filled : AreFilled m root) where
  exact-of : (k : ℕ) (e : Entry) → IsRight (bare m) k e → IsExact m k e
  exact-of zero (Here r) h = tt
  exact-of (suc k) (Here r) h = tt
  exact-of zero (Down c x) h = h
  exact-of (suc k) (Down c x) h = h ∙ ap totals_of (below-bare m (suc k) (Down c x))

  -- nodes in a tree's shape with local totals and entries enough are a tree
  pub whole : IsTree m root
  whole = record {
    shape = subst (λ h. IsShape m h root) (sym t.top) (shape-bare m height root t);
    filled = filled;
    totals = λ id is. each-all (IsRight (bare m) (level_of m id)) (IsExact m (level_of m id)) (λ e h. exact-of (level_of m id) e h) (entries m id) (exact-right m height root t height (λ i is' le. exact i is') (level_of m id) id is refl (t.low id is));
  }

  pub whole_runs : tree_runs m root ≡ runs (bare m) height root
  whole_runs = sym (runs-bare m (level_of m root) root) ∙ ap (λ h. runs (bare m) h root) t.top
