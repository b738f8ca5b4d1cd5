-- One level down.
use Rattle.std.proofs.Common.{◌≡◌, ℕ, zero, suc, ◌-◌, ◌<◌, List, [], ◌∷◌, ◌++◌, length, take, get_or, refl, sym, ap, ◌∙◌, arith, subst}
use Rattle.std.specs.List.{AllByRecursion}
use Rattle.rt_nodes.specs.Nodes.{entries}
use Rattle.rt_nodes.specs.declared.memory.NodeId.{NodeId}
use Rattle.rt_tree.specs.declared.node.Run.{Run}
use Rattle.rt_tree.specs.declared.node.Entry.{Entry}
use Rattle.rt_tree.specs.declared.node.Entry.TheVariants.{Down, Here}
use Rattle.rt_tree.specs.declared.node.Totals.{Totals}
use Rattle.rt_tree.specs.Shape.{Memory, Fits, IsChild, IsExact, IsTree, all_below, below, runs, child_count, entry_counts, left_of, ahead, level_of, sum_of}
use Rattle.rt_tree.specs.Sums.{counts_of, plus}
use Rattle.rt_tree.proofs.Around.{below_top, leads_to, take-left}
use Rattle.rt_tree.proofs.Amounts.{counts-append, counts-exact, sum-exact}

module _ {X : Type 0} (P : X → Type 0) where
  pub each-at : (xs : List X) (i : ℕ) (x : X) → AllByRecursion P xs → i < length xs → x ≡ get_or xs i x → P x
  each-at [] i x all lt is = absurd (omega arith)
  each-at (y ∷ xs) zero x all lt is = subst P (sym is) all.0
  each-at (y ∷ xs) (suc i) x all lt is = each-at xs i x all.1 (omega arith) is

  pub each-take : (n : ℕ) (xs : List X) → AllByRecursion P xs → AllByRecursion P (take n xs)
  each-take zero xs all = tt
  each-take (suc n) [] all = tt
  each-take (suc n) (x ∷ xs) all = (all.0, each-take n xs all.1)

module _ {X : Type 0} (P : X → Type 0) where
  pub each-mid : (a : List X) (x : X) (b : List X) → AllByRecursion P (a ++ x ∷ b) → P x
  each-mid [] x b all = all.0
  each-mid (y ∷ a) x b all = each-mid a x b all.1

-- an entry that fits above the leaves is no run, one that fits in a leaf no node
pub child-of : (m : Memory) (id k : ℕ) (c : NodeId) (t : Totals) → Fits m id k (Down c t) → (j : ℕ) → k ≡ suc j → IsChild m id j c.index
child-of m id zero c t f j e = absurd f
child-of m id (suc k) c t f j e = let h : k ≡ j = omega arith in subst (λ n. IsChild m id n c.index) h f

pub high : (m : Memory) (id k : ℕ) (c : NodeId) (t : Totals) → Fits m id k (Down c t) → 0 < k
high m id zero c t f = absurd f
high m id (suc k) c t f = omega arith

pub low : (m : Memory) (id k : ℕ) (r : Run) → Fits m id k (Here r) → k ≡ 0
low m id zero r f = refl
low m id (suc k) r f = absurd f

-- what a walk learns of the child that it goes to
pub record Lower (m : Memory) (root id i : ℕ) (e : Entry) (c : NodeId) : Type 0 where
  pub is : c.index < length m.heads
  pub level : level_of m id ≡ suc (level_of m c.index)
  pub counts : entry_counts e ≡ counts_of (runs m (level_of m c.index) c.index)
  pub ahead : (depth : ℕ) → counts_of (ahead m (suc depth) c.index) ≡ plus (counts_of (ahead m depth id)) (sum_of (take i (entries m id)))

module _ (m : Memory) (root : ℕ) (t : IsTree m root) where
  -- the entries of a node add up to its runs
  pub sum-node : (id : ℕ) → id < length m.heads → sum_of (entries m id) ≡ counts_of (runs m (level_of m id) id)
  sum-node id is = sum-exact m (level_of m id) (entries m id) (t.totals id is)

  pub sum-front : (id i : ℕ) → id < length m.heads → sum_of (take i (entries m id)) ≡ counts_of (all_below m (level_of m id) (take i (entries m id)))
  sum-front id i is = sum-exact m (level_of m id) (take i (entries m id)) (each-take (IsExact m (level_of m id)) i (entries m id) (t.totals id is))

  pub fits-at : (id i : ℕ) (e : Entry) → id < length m.heads → i < length (entries m id) → e ≡ get_or (entries m id) i e → Fits m id (level_of m id) e
  fits-at id i e is lt here = each-at (Fits m id (level_of m id)) (entries m id) i e (t.shape.fits id is) lt here

  pub down : (id i : ℕ) (e : Entry) (c : NodeId) (x : Totals) → id < length m.heads → i < length (entries m id) → e ≡ get_or (entries m id) i e → e ≡ Down c x → Lower m root id i e c
  down id i e c x is lt here to =
      let f = subst (λ (y : Entry). Fits m id (level_of m id) y) to (fits-at id i e is lt here) in
      let above = high m id (level_of m id) c x f in
      let k = level_of m id - 1 in
      let lvl : level_of m id ≡ suc k = omega (arith, above) in
      let ch = child-of m id (level_of m id) c x f k lvl in
      let up : level_of m id ≡ suc (level_of m c.index) = lvl ∙ ap suc (sym ch.level) in
      let top = t.shape.low id is in
      let kn = t.shape.known c.index ch.is (below_top m (level_of m root) root t.shape c.index ch.is (omega (arith, up, top))) in
      let once = subst (λ p. child_count c.index (entries m p) ≡ 1) ch.parent kn.once in
      let front = take-left c.index (entries m id) i e once lt here (subst (λ (y : Entry). leads_to y c.index) (sym to) refl) in
      let exact = each-at (IsExact m (level_of m id)) (entries m id) i e (t.totals id is) lt here in
      record {
        is = ch.is;
        level = up;
        counts = counts-exact m (level_of m id) e exact ∙ ap (λ (y : Entry). counts_of (below m (level_of m id) y)) to ∙ ap (λ n. counts_of (below m n (Down c x))) up;
        ahead = λ depth.
            let P : ℕ → Type 0 = λ p. counts_of (ahead m depth p ++ all_below m (level_of m p) (left_of c.index (entries m p))) ≡ plus (counts_of (ahead m depth id)) (sum_of (take i (entries m id))) in
            subst P (sym ch.parent)
            (counts-append (ahead m depth id) (all_below m (level_of m id) (left_of c.index (entries m id)))
            ∙ ap (λ es. plus (counts_of (ahead m depth id)) (counts_of (all_below m (level_of m id) es))) (sym front)
            ∙ ap (plus (counts_of (ahead m depth id))) (sym (sum-front id i is)));
      }
