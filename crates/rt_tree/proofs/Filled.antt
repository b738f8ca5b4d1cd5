-- A tree has many runs for its height.
use Rattle.std.proofs.Common.{◌≡◌, ℕ, zero, suc, ◌*◌, ◌^◌, ◌<◌, ◌≤◌, List, [], ◌∷◌, length, refl, sym, ap, ◌∙◌, arith, subst, length-append}
use Rattle.std.proofs.Math.Nat.{pow-succ', mul-le-mul_right, suc-mul}
use Rattle.std.specs.List.{AllByRecursion}
use Rattle.rt_nodes.specs.Nodes.{entries}
use Rattle.rt_tree.specs.declared.node.Entry.{Entry}
use Rattle.rt_tree.specs.declared.node.Entry.TheVariants.{Down, Here}
use Rattle.rt_tree.specs.Shape.{Memory, Fits, IsTree, all_below, below, runs, level_of, tree_runs}
use Rattle.rt_tree.proofs.Around.{test_other, test_same}

-- each entry of a node at a level has so many runs or more below it
abbrev Has : Memory → ℕ → ℕ → List Entry → Type 0
Has m k n es = AllByRecursion (λ e. n ≤ length (below m k e)) es

have : (m : Memory) (k n : ℕ) (es : List Entry) → Has m k n es → length es * n ≤ length (all_below m k es)
have m k n [] all = omega arith
have m k n (e ∷ es) all =
    let more = have m k n es all.1 in
    let long = length-append (below m k e) (all_below m k es) in
    omega (arith, all.0, more, long, suc-mul (length es) n)

leaf : (m : Memory) (id : ℕ) (es : List Entry) → AllByRecursion (Fits m id 0) es → Has m 0 1 es
leaf m id [] all = tt
leaf m id (Here r ∷ es) all = (omega arith, leaf m id es all.1)
leaf m id (Down c x ∷ es) all = absurd all.0

module _ (m : Memory) (root : ℕ) (t : IsTree m root) where
  -- the nodes of a level that aren't the root have so many runs or more
  abbrev AreWide : ℕ → ℕ → Type 0
  AreWide k n = (id : ℕ) → id < length m.heads → level_of m id ≡ k → (id ≡ root → ⊥) → n ≤ length (runs m k id)

  above : (k n id : ℕ) (es : List Entry) → suc k ≤ level_of m root → AreWide k n → AllByRecursion (Fits m id (suc k)) es → Has m (suc k) n es
  above k n id [] low wide all = tt
  above k n id (Here r ∷ es) low wide all = absurd all.0
  above k n id (Down c x ∷ es) low wide all =
      (wide c.index all.0.is all.0.level (λ e. let h : level_of m c.index ≡ level_of m root = ap (level_of m) e in omega (arith, h, all.0.level, low)), above k n id es low wide all.1)

  many : (id : ℕ) → id < length m.heads → (id ≡ root → ⊥) → 8 ≤ length (entries m id)
  many id is other = subst (λ n. n ≤ length (entries m id)) (test_other id root _ 8 other) (t.filled id is)

  eights : (k : ℕ) → k ≤ level_of m root → AreWide k (8 ^ suc k)
  eights zero low id is at other =
      let all = subst (λ k. AllByRecursion (Fits m id k) (entries m id)) at (t.shape.fits id is) in
      let n = have m 0 1 (entries m id) (leaf m id (entries m id) all) in
      omega (arith, n, many id is other)
  eights (suc k) low id is at other =
      let all = subst (λ k. AllByRecursion (Fits m id k) (entries m id)) at (t.shape.fits id is) in
      let n = have m (suc k) (8 ^ suc k) (entries m id) (above k (8 ^ suc k) id (entries m id) low (eights k (omega (arith, low))) all) in
      omega (arith, n, mul-le-mul_right (8 ^ suc k) (many id is other), pow-succ' 8 (suc k))

  -- two such nodes at least stand below a root above the leaves
  pub full_tree : (k : ℕ) → level_of m root ≡ suc k → 2 * 8 ^ suc k ≤ length (tree_runs m root)
  full_tree k at =
      let all = subst (λ k. AllByRecursion (Fits m root k) (entries m root)) at (t.shape.fits root t.shape.root_is) in
      let n = have m (suc k) (8 ^ suc k) (entries m root) (above k (8 ^ suc k) root (entries m root) (omega (arith, at)) (eights k (omega (arith, at))) all) in
      let two = subst (λ n. n ≤ length (entries m root)) (test_same root root _ 8 refl ∙ test_other (level_of m root) 0 0 2 (λ e. omega (arith, e, at))) (t.filled root t.shape.root_is) in
      subst (λ l. 2 * 8 ^ suc k ≤ length (runs m l root)) (sym at) (omega (arith, n, mul-le-mul_right (8 ^ suc k) two))
