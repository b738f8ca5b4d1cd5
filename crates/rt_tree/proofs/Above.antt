-- The nodes above a leaf.
use Rattle.std.proofs.Common.{◌≡◌, ℕ, zero, suc, ◌+◌, ◌/◌, ◌<◌, ◌≤◌, ◌⊎◌, inl, inr, length, refl, sym, ap, ◌∙◌, arith, subst, length-take, length-drop}
use Rattle.rt_nodes.specs.Nodes.{entries}
use Rattle.rt_tree.specs.Changes.{bare, AreHalves, above}
use Rattle.rt_tree.specs.Shape.{level_of, parent_of, Memory, IsShape}
use Rattle.rt_tree.proofs.Around.{below_top, at_top}

module _ (s : Memory) (height root : ℕ) (t : IsShape s height root) where
  pub above-is : (i x : ℕ) → x < length s.heads → level_of s x + i ≤ height → (above s i x < length s.heads) × (level_of s (above s i x) ≡ level_of s x + i)
  above-is zero x is le = (is, omega arith)
  above-is (suc i) x is le =
      let h = above-is i x is (omega arith) in
      let k = t.known (above s i x) h.0 (below_top s height root t (above s i x) h.0 (omega (arith, h.1))) in
      (k.is, omega (arith, k.up, h.1))

  pub above_top : (x : ℕ) → x < length s.heads → level_of s x ≡ 0 → above s height x ≡ root
  above_top x is leaf = let h = above-is height x is (omega (arith, leaf)) in at_top s height root t (above s height x) h.0 (omega (arith, h.1, leaf))

module _ (m m' : Memory) (height root n q k x : ℕ) (t : IsShape (bare m) height root) (hv : AreHalves m m' n q) (xis : x < length m.heads) (leaf : level_of (bare m) x ≡ 0) (low : k ≤ height) (at : n ≡ above (bare m) k x) where
  nlevel : level_of (bare m) n ≡ k
  nlevel = let h = above-is (bare m) height root t k x xis (omega (arith, leaf)) in ap (level_of (bare m)) at ∙ (omega (arith, h.1, leaf))

  pub same_below : (i : ℕ) → i < k → above (bare m') i x ≡ above (bare m) i x
  same_below zero lt = refl
  same_below (suc i) lt =
      let h = above-is (bare m) height root t i x xis (omega (arith, leaf)) in
      let u = above-is (bare m) height root t (suc i) x xis (omega (arith, leaf)) in
      let ih = same_below i (omega arith) in
      ap (parent_of (bare m')) ih ∙ elim (hv.parents (above (bare m) i x) (omega (arith, h.0, hv.new))) [
        | inl e ↦ e
        | inr w ↦ absurd (let l = ap (level_of (bare m)) w.0 in omega (arith, l, nlevel, u.1, leaf))
      ]

  pub above_split : (above (bare m') k x ≡ n) ⊎ (above (bare m') k x ≡ q)
  above_split = at_level k refl where
    at_level : (j : ℕ) → j ≡ k → (above (bare m') j x ≡ n) ⊎ (above (bare m') j x ≡ q)
    at_level zero e = inl (ap (λ i. above (bare m) i x) e ∙ sym at)
    at_level (suc j) e =
        let h = above-is (bare m) height root t j x xis (omega (arith, leaf)) in
        let ih = same_below j (omega arith) in
        elim (hv.parents (above (bare m) j x) (omega (arith, h.0, hv.new))) [
          | inl w ↦ inl (ap (parent_of (bare m')) ih ∙ w ∙ ap (λ i. above (bare m) i x) e ∙ sym at)
          | inr w ↦ inr (ap (parent_of (bare m')) ih ∙ w.1)
        ]

  -- the node above the leaf has room now
  pub roomy_split : length (entries m n) ≡ 16 → length (entries m' (above (bare m') k x)) < 16
  roomy_split full =
      let a = ap length hv.first ∙ length-take (length (entries m n) / 2) (entries m n) in
      let b = ap length hv.second ∙ length-drop (length (entries m n) / 2) (entries m n) in
      elim above_split [
        | inl w ↦ subst (λ c. length (entries m' c) < 16) (sym w) (omega (arith, a, full))
        | inr w ↦ subst (λ c. length (entries m' c) < 16) (sym w) (omega (arith, b, full))
      ]
