-- Nodes with entries enough.
use Rattle.std.proofs.Common.{◌≡◌, ℕ, ◌/◌, ◌<◌, ◌≤◌, ◌==◌, inl, inr, if◌then◌else◌, List, [], length, sym, ap, ◌∙◌, arith, subst, length-take, length-drop, get_or-set_same, get_or-set_other}
use Rattle.std.proofs.lemmas.Bool.{cases_eq}
use Rattle.std.proofs.lemmas.List.{length-map}
use Rattle.rt_nodes.specs.Nodes.{entries, with_entries}
use Rattle.rt_tree.specs.declared.node.Entry.{Entry}
use Rattle.rt_tree.specs.Changes.{AreHalves, IsGrown, bare, strip}
use Rattle.rt_tree.specs.Shape.{AreFilled, IsFilled, Memory, level_of}
use Rattle.rt_tree.proofs.Around.{test_other, test_same}
use Rattle.rt_tree.proofs.Bares.{bare-entries}

-- how many entries a root has at least
abbrev least_root : ℕ → ℕ
least_root level = if level == 0 then 0 else 2

filled_other : (m : Memory) (root id : ℕ) → (id ≡ root → ⊥) → 8 ≤ length (entries m id) → IsFilled m root id
filled_other m root id ne le = subst (λ n. n ≤ length (entries m id)) (sym (test_other id root (least_root (level_of m id)) 8 ne)) le

pub other_filled : (m : Memory) (root id : ℕ) → (id ≡ root → ⊥) → IsFilled m root id → 8 ≤ length (entries m id)
other_filled m root id ne le = subst (λ n. n ≤ length (entries m id)) (test_other id root (least_root (level_of m id)) 8 ne) le

le_trans : (a b c : ℕ) → a ≤ b → b ≤ c → a ≤ c
le_trans a b c h k = omega (arith, h, k)

abbrev least_of_node : ℕ → ℕ → ℕ → ℕ
least_of_node root id level = if id == root then least_root level else 8

-- no fewer entries than before
filled_more : (m m' : Memory) (root id : ℕ) → level_of m' id ≡ level_of m id → length (entries m id) ≤ length (entries m' id) → IsFilled m root id → IsFilled m' root id
filled_more m m' root id level more is =
    subst (λ n. n ≤ length (entries m' id)) (sym (ap (least_of_node root id) level))
    (le_trans (least_of_node root id (level_of m id)) (length (entries m id)) (length (entries m' id)) is more)

module _ (m m' : Memory) (root n q : ℕ) (hv : AreHalves m m' n q) (nis : n < length m.heads) (ris : root < length m.heads) (nroot : n ≡ root → ⊥) (full : length (entries m n) ≡ 16) where
  -- a full node is cut
  pub filled_split : AreFilled m root → AreFilled m' root
  filled_split filled id is =
      let a = ap length hv.first ∙ length-take (length (entries m n) / 2) (entries m n) in
      let b = ap length hv.second ∙ length-drop (length (entries m n) / 2) (entries m n) in
      elim (cases_eq id q) [
        | inl e ↦ filled_other m' root id (λ w. omega (arith, w, e, hv.new, ris)) (subst (λ x. 8 ≤ length (entries m' x)) (sym e) (omega (arith, b, full)))
        | inr nq ↦
            let lt : id < q = omega (arith, hv.longer, is) in
            elim (cases_eq id n) [
              | inl e ↦ filled_other m' root id (λ w. nroot (sym e ∙ w)) (subst (λ x. 8 ≤ length (entries m' x)) (sym e) (omega (arith, a, full)))
              | inr nn ↦ filled_more m m' root id (hv.levels id lt) (hv.others id lt nn) (filled id (omega (arith, hv.new)))
            ]
      ]

filled_with : (m m' : Memory) (root : ℕ) → ((id : ℕ) → level_of m' id ≡ level_of m id) → length m'.heads ≡ length m.heads → ((id : ℕ) → length (entries m id) ≤ length (entries m' id)) → AreFilled m root → AreFilled m' root
filled_with m m' root level same more filled id is = filled_more m m' root id (level id) (more id) (filled id (omega (arith, same, is)))

pub links_long : (n : Memory) (c : ℕ) → length (entries (bare n) c) ≡ length (entries n c)
links_long n c = ap length (bare-entries n c) ∙ length-map (entries n c) strip

-- a node with other entries, which aren't fewer
pub filled_leaf : (m m1 m2 : Memory) (root x : ℕ) (es : List Entry) → m1 ≡ with_entries m x es → bare m2 ≡ bare m1 → x < length m.rows → length (entries m x) ≤ length es → AreFilled m root → AreFilled m2 root
filled_leaf m m1 m2 root x es is same xis more filled =
    filled_with m m2 root
    (λ id. ap (λ (b : Memory). level_of b id) same ∙ ap (λ (b : Memory). level_of b id) is)
    (ap (λ (b : Memory). length b.heads) same ∙ ap (λ (b : Memory). length b.heads) is)
    (λ id.
    let a : length (entries m2 id) ≡ length (entries m1 id) = sym (links_long m2 id) ∙ ap (λ (b : Memory). length (entries b id)) same ∙ links_long m1 id in
    elim (cases_eq id x) [
      | inl e ↦
          let b = ap (λ (n : Memory). length (entries n id)) is ∙ ap (λ y. length (entries (with_entries m x es) y)) e ∙ ap length (get_or-set_same m.rows x es [] xis) in
          let w = ap (λ y. length (entries m y)) e in
          omega (arith, a, b, w, more)
      | inr ne ↦ let b = ap (λ (n : Memory). length (entries n id)) is ∙ ap length (get_or-set_other m.rows x id es [] ne) in omega (arith, a, b)
    ])
    filled

-- a full root gets one above it, and is cut
pub filled_root : (m m1 m2 : Memory) (height root top q : ℕ) → IsGrown m m1 height root top → AreHalves m1 m2 root q → root < length m.heads → length (entries m root) ≡ 16 → length (entries m2 top) ≡ 2 → AreFilled m root → AreFilled m2 top
filled_root m m1 m2 height root top q g hv ris full two filled id is =
    let rt : root < top = omega (arith, ris, g.new) in
    let same = ap length (g.others root rt) in
    let a = ap length hv.first ∙ length-take (length (entries m1 root) / 2) (entries m1 root) in
    let b = ap length hv.second ∙ length-drop (length (entries m1 root) / 2) (entries m1 root) in
    elim (cases_eq id top) [
      | inl e ↦
          let z = test_same id top (least_root (level_of m2 id)) 8 e in
          let l = root_least (level_of m2 id) in
          let w = ap (λ x. length (entries m2 x)) e in
          subst (λ n. n ≤ length (entries m2 id)) (sym z) (le_trans (least_root (level_of m2 id)) 2 (length (entries m2 id)) l (omega (arith, w, two)))
      | inr nt ↦ filled_other m2 top id nt (elim (cases_eq id q) [
        | inl e ↦ subst (λ x. 8 ≤ length (entries m2 x)) (sym e) (omega (arith, b, same, full))
        | inr nq ↦ elim (cases_eq id root) [
          | inl e ↦ subst (λ x. 8 ≤ length (entries m2 x)) (sym e) (omega (arith, a, same, full))
          | inr nr ↦
              let lt : id < q = omega (arith, hv.longer, is) in
              let low : id < top = omega (arith, lt, hv.new, g.longer, nt) in
              let w = ap length (g.others id low) in
              let h = hv.others id lt nr in
              let o = other_filled m root id nr (filled id (omega (arith, low, g.new))) in
              omega (arith, w, h, o)
        ]
      ])
    ] where
      root_least : (level : ℕ) → least_root level ≤ 2
      root_least level = elim (cases_eq level 0) [
        | inl e ↦ subst (λ n. n ≤ 2) (sym (test_same {X = ℕ} level 0 0 2 e)) (omega arith)
        | inr ne ↦ subst (λ n. n ≤ 2) (sym (test_other {X = ℕ} level 0 0 2 ne)) (omega arith)
      ]
