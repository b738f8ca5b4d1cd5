-- Exact totals are right.
use Rattle.std.proofs.Common.{◌≡◌, ℕ, zero, suc, ◌<◌, ◌≤◌, List, [], ◌∷◌, length, sym, ap, ◌∙◌, arith, subst}
use Rattle.rt_nodes.specs.Nodes.{entries}
use Rattle.rt_tree.specs.declared.node.Entry.{Entry}
use Rattle.rt_tree.specs.declared.node.Totals.{Totals}
use Rattle.rt_tree.specs.declared.node.Entry.TheVariants.{Down, Here}
use Rattle.rt_tree.specs.Changes.{bare, IsRight, IsExactAt, strip, links, entry_totals, adds_up, IsLocal}
use Rattle.rt_tree.specs.Shape.{below, runs, level_of, Memory, Fits, IsShape, all_below}
use Rattle.rt_tree.proofs.Bares.{bare-entries}
use Rattle.rt_tree.specs.Sums.{totals_of}
use Rattle.std.specs.List.{AllByRecursion}
use Rattle.rt_tree.proofs.Adding.{adds-right}

module _ {X : Type 0} where
  pub each-both : (P Q R : X → Type 0) → ((x : X) → P x → Q x → R x) → (xs : List X) → AllByRecursion P xs → AllByRecursion Q xs → AllByRecursion R xs
  each-both P Q R f [] p q = tt
  each-both P Q R f (x ∷ xs) p q = (f x p.0 q.0, each-both P Q R f xs p.1 q.1)

  pub each-all : (P Q : X → Type 0) → ((x : X) → P x → Q x) → (xs : List X) → AllByRecursion P xs → AllByRecursion Q xs
  each-all P Q f [] p = tt
  each-all P Q f (x ∷ xs) p = (f x p.0, each-all P Q f xs p.1)

pub each-links : (P : Entry → Type 0) (es : List Entry) → AllByRecursion P (links es) → AllByRecursion (λ (e : Entry). P (strip e)) es
each-links P [] all = tt
each-links P (e ∷ es) all = (all.0, each-links P es all.1)

-- the links of a node's entries fit
pub fits-entries : (m : Memory) (height root : ℕ) → IsShape (bare m) height root → (id k : ℕ) → id < length m.heads → level_of (bare m) id ≡ k → AllByRecursion (λ (e : Entry). Fits (bare m) id k (strip e)) (entries m id)
fits-entries m height root t id k is at =
    let P : List Entry → Type 0 = λ ls. AllByRecursion (Fits (bare m) id (level_of (bare m) id)) ls in
    let Q : ℕ → Type 0 = λ n. AllByRecursion (λ (e : Entry). Fits (bare m) id n (strip e)) (entries m id) in
    subst Q at (each-links (Fits (bare m) id (level_of (bare m) id)) (entries m id) (subst P (bare-entries m id) (t.fits id is)))

module _ (m : Memory) (height root : ℕ) (t : IsShape (bare m) height root) (top : ℕ) (exact : (id : ℕ) → id < length m.heads → level_of (bare m) id ≤ top → AllByRecursion (IsLocal m) (entries m id)) where
  right-one : (k : ℕ) → ((id : ℕ) → id < length m.heads → level_of (bare m) id ≡ k → k ≤ top → adds_up (entries m id) ≡ totals_of (runs (bare m) k id)) → (id : ℕ) → suc k ≤ top → (l : Entry) (x : Totals) → Fits (bare m) id (suc k) l → IsExactAt m l x → x ≡ totals_of (below (bare m) (suc k) l)
  right-one k ih id le (Here r) x f e = absurd f
  right-one k ih id le (Down c ts) x f e = e ∙ ih c.index f.is f.level (omega arith)

  right-leaf : (id : ℕ) (l : Entry) (x : Totals) → Fits (bare m) id zero l → IsExactAt m l x → x ≡ totals_of (below (bare m) zero l)
  right-leaf id (Here r) x f e = e
  right-leaf id (Down c ts) x f e = absurd f

  sum-from : (k id : ℕ) → AllByRecursion (IsRight (bare m) k) (entries m id) → adds_up (entries m id) ≡ totals_of (runs (bare m) k id)
  sum-from k id all = adds-right (bare m) k (entries m id) all ∙ ap (λ ls. totals_of (all_below (bare m) k ls)) (sym (bare-entries m id))

  pub exact-right : (k id : ℕ) → id < length m.heads → level_of (bare m) id ≡ k → k ≤ top → AllByRecursion (IsRight (bare m) k) (entries m id)
  exact-right zero id is at le = each-both (λ (e : Entry). Fits (bare m) id zero (strip e)) (IsLocal m) (IsRight (bare m) zero) (λ e f x. right-leaf id (strip e) (entry_totals e) f x) (entries m id) (fits-entries m height root t id zero is at) (exact id is (omega arith))
  exact-right (suc k) id is at le = each-both (λ (e : Entry). Fits (bare m) id (suc k) (strip e)) (IsLocal m) (IsRight (bare m) (suc k)) (λ e f x. right-one k (λ i is' at' le'. sum-from k i (exact-right k i is' at' le')) id le (strip e) (entry_totals e) f x) (entries m id) (fits-entries m height root t id (suc k) is at) (exact id is (omega arith))

  -- the entries of a node add up to its runs, where the totals up to it are exact
  pub exact-sum : (k id : ℕ) → id < length m.heads → level_of (bare m) id ≡ k → k ≤ top → adds_up (entries m id) ≡ totals_of (runs (bare m) k id)
  exact-sum k id is at le = sum-from k id (exact-right k id is at le)
