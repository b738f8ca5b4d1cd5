-- Nodes that there are, by the runs below them.
use Rattle.std.proofs.Common.{◌≡◌, ℕ, zero, suc, ◌+◌, ◌-◌, ◌*◌, ◌<◌, ◌≤◌, ◌==◌, if◌then◌else◌, inl, inr, List, [], ◌∷◌, ◌++◌, length, flat_map, refl, sym, ap, ◌∙◌, arith, subst, length-append}
use Rattle.std.specs.List.{AllByRecursion}
use Rattle.std.proofs.lemmas.Bool.{cases_eq}
use Rattle.rt_nodes.specs.Nodes.{entries}
use Rattle.rt_tree.specs.declared.node.Entry.{Entry}
use Rattle.rt_tree.specs.declared.node.Entry.TheVariants.{Down, Here}
use Rattle.rt_tree.specs.Shape.{AreFilled, Fits, IsShape, IsTree, Memory, all_below, around, child_count, level_of, parent_of, runs, tree_runs}
use Rattle.rt_tree.specs.Changes.{bare}
use Rattle.rt_tree.specs.Trees.{HasNodes}
use Rattle.rt_tree.proofs.Fills.{links_long, other_filled}
use Rattle.rt_tree.proofs.Around.{at_top, below_top, test_other, test_same}

-- how often a number stands in a list
abbrev times : ℕ → List ℕ → ℕ
times n [] = 0
times n (x ∷ xs) = (if x == n then 1 else 0) + times n xs

times-append : (n : ℕ) (a b : List ℕ) → times n (a ++ b) ≡ times n a + times n b
times-append n [] b = omega arith
times-append n (x ∷ a) b = let h = times-append n a b in omega (arith, h)

-- a list without one of its elements
record Without (n : ℕ) (xs : List ℕ) : Type 0 where
  rest : List ℕ
  shorter : length xs ≡ suc (length rest)
  others : (c : ℕ) → (c ≡ n → ⊥) → times c rest ≡ times c xs

without : (n : ℕ) (xs : List ℕ) → 0 < times n xs → Without n xs
without n [] some = absurd (omega arith)
without n (x ∷ xs) some = elim (cases_eq x n) [
  | inl e ↦ record { rest = xs; shorter = refl; others = λ c ne. let t = test_other {X = ℕ} x c 1 0 (λ w. ne (sym w ∙ e)) in omega (arith, t) }
  | inr ne ↦
      let t = test_other {X = ℕ} x n 1 0 ne in
      let w = without n xs (omega (arith, some, t)) in
      record { rest = x ∷ w.rest; shorter = ap suc w.shorter; others = λ c nc. let h = w.others c nc in omega (arith, h) }
]

-- a list in which the first numbers all stand is as long
pigeons : (n : ℕ) (xs : List ℕ) → ((c : ℕ) → c < n → 0 < times c xs) → n ≤ length xs
pigeons zero xs all = omega arith
pigeons (suc n) xs all =
    let w = without n xs (all n (omega arith)) in
    let h = pigeons n w.rest (λ c lt. let o = w.others c (λ e. omega (arith, e, lt)) in let a = all c (omega (arith, lt)) in omega (arith, o, a)) in
    omega (arith, h, w.shorter)

-- the nodes below an entry of a node at a level, its own the first
abbrev nodes_below : Memory → ℕ → Entry → List ℕ
nodes_below m k (Here r) = []
nodes_below m zero (Down c t) = []
nodes_below m (suc k) (Down c t) = c.index ∷ flat_map (nodes_below m k) (entries m c.index)

abbrev nodes_of : Memory → ℕ → ℕ → List ℕ
nodes_of m k id = id ∷ flat_map (nodes_below m k) (entries m id)

-- a node's nodes stand below its parent
in_parent : (m : Memory) (k id c : ℕ) (es : List Entry) → 0 < child_count id es → times c (nodes_of m k id) ≤ times c (flat_map (nodes_below m (suc k)) es)
in_parent m k id c [] some = absurd (omega arith)
in_parent m k id c (Here r ∷ es) some = in_parent m k id c es some
in_parent m k id c (Down d t ∷ es) some =
    let a = times-append c (nodes_of m k d.index) (flat_map (nodes_below m (suc k)) es) in
    elim (cases_eq d.index id) [
      | inl e ↦ let same = ap (λ i. times c (nodes_of m k i)) e in omega (arith, a, same)
      | inr ne ↦ let o = test_other {X = ℕ} d.index id 1 0 ne in let h = in_parent m k id c es (omega (arith, some, o)) in omega (arith, a, h)
    ]

module _ (m : Memory) (height root : ℕ) (t : IsShape m height root) where
  in_root : (depth k id c : ℕ) → id < length m.heads → level_of m id ≡ k → depth + k ≡ height → times c (nodes_of m k id) ≤ times c (nodes_of m height root)
  in_root zero k id c is at deep =
      let q : k ≡ height = omega arith in
      let e = at_top m height root t id is (at ∙ q) in
      let a = ap (λ i. times c (nodes_of m k i)) e in
      let b = ap (λ l. times c (nodes_of m l root)) q in
      omega (arith, a, b)
  in_root (suc depth) k id c is at deep =
      let kn = t.known id is (below_top m height root t id is (omega arith)) in
      let ih = in_root depth (suc k) (parent_of m id) c kn.is (kn.up ∙ ap suc at) (omega arith) in
      let h = in_parent m k id c (around m id) (omega (arith, kn.once)) in
      omega (arith, ih, h)

  -- each node stands below the root
  many : length m.heads ≤ length (nodes_of m height root)
  many = pigeons (length m.heads) (nodes_of m height root) (λ c lt.
      let l = t.low c lt in
      let h = in_root (height - level_of m c) (level_of m c) c c lt refl (omega (arith, l)) in
      let s = test_same {X = ℕ} c c 1 0 refl in
      omega (arith, h, s))

  module _ (full : ℕ) (one : (c : ℕ) → c < length m.heads → (c ≡ root → ⊥) → 8 + 8 * (if c == full then 1 else 0) ≤ length (entries m c)) where
    -- the nodes below entries, by the runs there
    weigh : (k id : ℕ) (es : List Entry) → k ≤ height → AllByRecursion (Fits m id k) es → 7 * length (flat_map (nodes_below m k) es) + 8 * times full (flat_map (nodes_below m k) es) + length es ≤ length (all_below m k es)
    weigh k id [] low all = omega arith
    weigh zero id (Here r ∷ es) low all = let h = weigh zero id es low all.1 in omega (arith, h)
    weigh (suc k) id (Here r ∷ es) low all = absurd all.0
    weigh zero id (Down c x ∷ es) low all = absurd all.0
    weigh (suc k) id (Down c x ∷ es) low all =
        let h = weigh (suc k) id es low all.1 in
        let kid = all.0 in
        let fits = subst (λ l. AllByRecursion (Fits m c.index l) (entries m c.index)) kid.level (t.fits c.index kid.is) in
        let down = weigh k c.index (entries m c.index) (omega (arith, low)) fits in
        let o = one c.index kid.is (λ e. let w : level_of m c.index ≡ level_of m root = ap (level_of m) e in omega (arith, w, kid.level, t.top, low)) in
        let mine = flat_map (nodes_below m k) (entries m c.index) in
        let rest = flat_map (nodes_below m (suc k)) es in
        let a = length-append (nodes_of m k c.index) rest in
        let b = times-append full (nodes_of m k c.index) rest in
        let r = length-append (runs m k c.index) (all_below m (suc k) es) in
        omega (arith, h, down, o, a, b, r)

    weigh_root : 7 * length m.heads + 8 * times full (flat_map (nodes_below m height) (entries m root)) + length (entries m root) ≤ length (runs m height root) + 7
    weigh_root =
        let fits = subst (λ l. AllByRecursion (Fits m root l) (entries m root)) t.top (t.fits root t.root_is) in
        let w = weigh height root (entries m root) (omega arith) fits in
        omega (arith, w, many)

  module _ (filled : (id : ℕ) → id < length m.heads → (id ≡ root → ⊥) → 8 ≤ length (entries m id)) where
    -- whether a node is full or not
    pub few : 7 * length m.heads ≤ length (runs m height root) + 7
    few = let w = weigh_root (length m.heads) (λ c is nr. let o = test_other {X = ℕ} c (length m.heads) 1 0 (λ e. omega (arith, is, e)) in let f = filled c is nr in omega (arith, o, f)) in omega (arith, w)

  module _ (filled : (id : ℕ) → id < length m.heads → (id ≡ root → ⊥) → 8 ≤ length (entries m id)) (full : ℕ) (at_full : length (entries m full) ≡ 16) where
    one_of : (c : ℕ) → c < length m.heads → (c ≡ root → ⊥) → 8 + 8 * (if c == full then 1 else 0) ≤ length (entries m c)
    one_of c is nr = elim (cases_eq c full) [
      | inl e ↦ let s = test_same {X = ℕ} c full 1 0 e in let w = ap (λ i. length (entries m i)) e in omega (arith, s, w, at_full)
      | inr ne ↦ let s = test_other {X = ℕ} c full 1 0 ne in let f = filled c is nr in omega (arith, s, f)
    ]

    -- with a full root
    pub full_root : full ≡ root → 7 * length m.heads + 9 ≤ length (runs m height root)
    full_root e = let l = ap (λ i. length (entries m i)) e in let w = weigh_root full one_of in omega (arith, w, at_full, l)

    -- with a full node below the root
    pub full_node : full < length m.heads → (full ≡ root → ⊥) → 7 * length m.heads + 1 ≤ length (runs m height root)
    full_node is nr =
        let l = t.low full is in
        let h = in_root (height - level_of m full) (level_of m full) full full is refl (omega (arith, l)) in
        let s = test_same {X = ℕ} full full 1 0 refl in
        let o = test_other {X = ℕ} root full 1 0 (λ e. nr (sym e)) in
        let w = weigh_root full one_of in
        omega (arith, w, h, s, o)

module _ (m : Memory) (height root full : ℕ) (t : IsShape (bare m) height root) (filled : AreFilled m root) (has : HasNodes m (length (runs (bare m) height root))) (at_full : length (entries m full) ≡ 16) where
  enough : (id : ℕ) → id < length m.heads → (id ≡ root → ⊥) → 8 ≤ length (entries (bare m) id)
  enough id is nr = let o = other_filled m root id nr (filled id is) in omega (arith, o, links_long m id)

  -- a full root is cut, and gets one above it
  pub spare_root : full ≡ root → 2 ≤ m.room
  spare_root e = let h = full_root (bare m) height root t enough full (links_long m full ∙ at_full) e in omega (arith, h, has)

  -- a full node is cut
  pub spare_node : full < length m.heads → (full ≡ root → ⊥) → 0 < m.room
  spare_node is nr = let h = full_node (bare m) height root t enough full (links_long m full ∙ at_full) is nr in omega (arith, h, has)

-- a tree of few runs has few nodes
pub few_nodes : (m : Memory) (root : ℕ) → IsTree m root → 7 * length m.heads ≤ length (tree_runs m root) + 7
few_nodes m root t = few m (level_of m root) root t.shape (λ id is nr. other_filled m root id nr (t.filled id is))
