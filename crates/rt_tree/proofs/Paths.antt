-- The nodes above a leaf whose runs change.
use Rattle.std.proofs.Common.{◌≡◌, ℕ, zero, suc, ◌+◌, ◌<◌, ◌≤◌, List, [], ◌∷◌, ◌++◌, length, refl, sym, ap, ◌∙◌, arith, subst, append-nil, append_assoc, take, drop, Option}
use Rattle.std.specs.List.{AllByRecursion}
use Rattle.std.proofs.lemmas.List.{take_at}
use Rattle.std.proofs.lemmas.List.Concat.{flat_map-append}
use Rattle.rt_nodes.specs.Nodes.{entries}
use Rattle.rt_tree.specs.declared.node.Entry.{Entry}
use Rattle.rt_tree.specs.declared.node.Entry.TheVariants.{Down}
use Rattle.rt_tree.specs.declared.node.Run.{Run}
use Rattle.rt_tree.specs.Changes.{above}
use Rattle.rt_tree.specs.Shape.{Fits, IsShape, Memory, all_below, below, child_count, left_of, level_of, right_of, runs}
use Rattle.rt_tags.specs.Borders.{one_or_none}
use Rattle.rt_tags.specs.States.{TagStates}
use Rattle.rt_tree.specs.declared.summary.Summary.{Summary}
use Rattle.rt_tree.specs.Summaries.{AreSummed, AreSummedBut, IsSummary, left_in, right_in, shown_before, shown_behind, shown_states, summary_of}
use Rattle.rt_tree.proofs.Above.{above-is}
use Rattle.rt_tree.proofs.Around.{below_top, node, regroup}
use Rattle.rt_tree.proofs.Exact.{each-both}
use Rattle.rt_tree.proofs.Reaching.{shown-append}
use Rattle.rt_tree.proofs.Frame.{after, apart, each-back, each-front, flat-same, flat-zero, frame, new-at, no, same-at, side-one}

pub apart_five : (l f m k r : List Run) → l ++ ((f ++ (m ++ k)) ++ r) ≡ (l ++ f) ++ (m ++ (k ++ r))
apart_five l f m k r = simp append_assoc

pub drop_past : (a : List Entry) (e : Entry) (b : List Entry) → drop (suc (length a)) (a ++ e ∷ b) ≡ b
drop_past [] e b = refl
drop_past (x ∷ a) e b = drop_past a e b

module _ (s : Memory) (height root : ℕ) (t : IsShape s height root) (x : ℕ) (xis : x < length s.heads) (low : level_of s x ≡ 0) where
  pub at : (j : ℕ) → j ≤ height → (above s j x < length s.heads) × (level_of s (above s j x) ≡ j)
  at j le = let a = above-is s height root t j x xis (omega (arith, low, le)) in (a.0, a.1 ∙ (let e : level_of s x + j ≡ j = omega (arith, low) in e))

  -- a node above the leaf has the leaf's runs among its own
  pub path : (j : ℕ) → j ≤ height → runs s j (above s j x) ≡ left_in s j x ++ (runs s 0 x ++ right_in s j x)
  path zero le = sym (append-nil (runs s 0 x))
  path (suc j) le =
      let id = above s j x in
      let p = above s (suc j) x in
      let is = at j (omega (arith, le)) in
      let kn = t.known id is.0 (below_top s height root t id is.0 (omega (arith, is.1, le))) in
      let ap' = apart id (entries s p) kn.once in
      let left = left_of id (entries s p) in
      let right = right_of id (entries s p) in
      ap (all_below s (suc j)) ap'.cut
      ∙ flat_map-append (below s (suc j)) left (Down (node id) ap'.totals ∷ right)
      ∙ ap (λ rs. all_below s (suc j) left ++ (rs ++ all_below s (suc j) right)) (path j (omega (arith, le)))
      ∙ regroup (all_below s (suc j) left) (left_in s j x) (runs s 0 x) (right_in s j x) (all_below s (suc j) right)

  module _ (ls : List Entry) where
    abbrev new : Memory
    new = after s height root t x xis ls

    sides : (j : ℕ) → suc j ≤ height → (all_below new (suc j) (left_of (above s j x) (entries new (above s (suc j) x))) ≡ all_below s (suc j) (left_of (above s j x) (entries s (above s (suc j) x))))
        × (all_below new (suc j) (right_of (above s j x) (entries new (above s (suc j) x))) ≡ all_below s (suc j) (right_of (above s j x) (entries s (above s (suc j) x))))
    sides j le =
        let id = above s j x in
        let p = above s (suc j) x in
        let is = at j (omega (arith, le)) in
        let up = at (suc j) le in
        let kn = t.known id is.0 (below_top s height root t id is.0 (omega (arith, is.1, le))) in
        let ne = λ (e : p ≡ x). no (omega (arith, ap (level_of s) e, up.1, low)) in
        let ap' = apart id (entries s p) kn.once in
        let left = left_of id (entries s p) in
        let right = right_of id (entries s p) in
        let F : Entry → Type 0 = Fits s p (suc j) in
        let fits : AllByRecursion F (left ++ Down (node id) ap'.totals ∷ right) = subst (AllByRecursion F) ap'.cut (subst (λ k. AllByRecursion (Fits s p k) (entries s p)) up.1 (t.fits p up.0)) in
        let q : suc j ≡ suc (level_of s x + j) = omega (arith, low) in
        let one = λ (l : Entry) (f : F l) (z : child_count id (l ∷ []) ≡ 0). side-one s height root t x xis ls j id p (suc j) q refl l f z in (
          (ap (λ es. all_below new (suc j) (left_of id es)) (same-at s height root t x xis ls p ne)
              ∙ flat-same (below new (suc j)) (below s (suc j)) left (each-both F (λ l. child_count id (l ∷ []) ≡ 0) (λ l. below new (suc j) l ≡ below s (suc j) l) one left (each-front F left (Down (node id) ap'.totals ∷ right) fits) ap'.left)),
          (ap (λ es. all_below new (suc j) (right_of id es)) (same-at s height root t x xis ls p ne)
              ∙ flat-same (below new (suc j)) (below s (suc j)) right (each-both F (λ l. child_count id (l ∷ []) ≡ 0) (λ l. below new (suc j) l ≡ below s (suc j) l) one right (each-back F left (Down (node id) ap'.totals ∷ right) fits).1 ap'.right)),
        )

    -- what stands beside the leaf is as it was
    pub left_same : (j : ℕ) → j ≤ height → left_in new j x ≡ left_in s j x
    left_same zero le = refl
    left_same (suc j) le = (λ i. (sides j le).0 i ++ left_same j (omega (arith, le)) i)

    pub right_same : (j : ℕ) → j ≤ height → right_in new j x ≡ right_in s j x
    right_same zero le = refl
    right_same (suc j) le = (λ i. right_same j (omega (arith, le)) i ++ (sides j le).1 i)

    -- SUMMARIES, ONCE THE LEAF HAS CHANGED

    module _ (table : TagStates) (sums : List Summary) (are : AreSummed table s sums) (a mid b : List Entry) (e : Entry) (old : Option ℕ) (had : entries s x ≡ a ++ (mid ++ b)) (has : ls ≡ a ++ e ∷ b) (mid_is : shown_states (all_below s 0 mid) ≡ one_or_none old) where
      here : entries new x ≡ a ++ e ∷ b
      here = new-at s height root t x xis ls ∙ has

      front : all_below new 0 (take (length a) (entries new x)) ≡ all_below s 0 a
      front = ap (λ es. all_below new 0 (take (length a) es)) here ∙ ap (all_below new 0) (take_at a (e ∷ b) (length a) refl) ∙ flat-zero s height root t x xis ls a

      back : all_below new 0 (drop (suc (length a)) (entries new x)) ≡ all_below s 0 b
      back = ap (λ es. all_below new 0 (drop (suc (length a)) es)) here ∙ ap (all_below new 0) (drop_past a e b) ∙ flat-zero s height root t x xis ls b

      was : runs s 0 x ≡ all_below s 0 a ++ (all_below s 0 mid ++ all_below s 0 b)
      was = ap (all_below s 0) had ∙ flat_map-append (below s 0) a (mid ++ b) ∙ ap (λ l. all_below s 0 a ++ l) (flat_map-append (below s 0) mid b)

      on_path : (j : ℕ) → j ≤ height → shown_states (runs s (level_of s (above s j x)) (above s j x)) ≡ shown_before new j x (length a) ++ (one_or_none old ++ shown_behind new j x (length a))
      on_path j le =
          let l = left_in s j x in
          let r = right_in s j x in
          let f = all_below s 0 a in
          let m = all_below s 0 mid in
          let k = all_below s 0 b in
          ap (λ n. shown_states (runs s n (above s j x))) (at j le).1
          ∙ ap shown_states (path j le ∙ ap (λ rs. l ++ (rs ++ r)) was ∙ apart_five l f m k r)
          ∙ shown-append (l ++ f) (m ++ (k ++ r))
          ∙ ap (λ z. shown_states (l ++ f) ++ z) (shown-append m (k ++ r) ∙ ap (λ z. z ++ shown_states (k ++ r)) mid_is)
          ∙ (λ i. shown_states (sym (left_same j le) i ++ sym front i) ++ (one_or_none old ++ shown_states (sym back i ++ sym (right_same j le) i)))

      -- the nodes above have what they had, with the old state in place of the new one
      pub leaf_changed : AreSummedBut table new sums height x (length a) old
      leaf_changed = record {
        path = λ j le. subst (λ l. IsSummary table l (summary_of sums (above s j x))) (on_path j le) (are (above s j x) (at j le).0);
        others = λ id is off.
            let k = level_of s id in
            let top : k ≤ height = t.low id is in
            let apart_from : (i : ℕ) → level_of s x + i ≡ k → id ≡ above s i x → ⊥ = λ i e same. off i (omega (arith, e, low, top)) same in
            subst (λ rs. IsSummary table (shown_states rs) (summary_of sums id)) (sym (frame s height root t x xis ls k id is refl apart_from)) (are id is);
      }
