-- Characters that a test lets through, and stretches without one.
use Rattle.std.proofs.Common.{◌≡◌, ℕ, zero, suc, ◌+◌, ◌<◌, Bool, false, List, [], ◌∷◌, ◌++◌, length, map, take, drop, refl, ap, ◌∙◌, arith, None}
use Rattle.std.specs.List.{AllByRecursion}
use Rattle.rt_store.specs.declared.cell.Cell.{Cell}
use Rattle.rt_store.specs.Cells.{cells_from}
use Rattle.rt_store.specs.Tagged.{last_place, next_place}
use Rattle.rt_store.proofs.Nearest.{drop_more, next_on}
use Rattle.rt_tree.specs.Runs.{with_gone}

-- the cells of a run are in one state
pub row_states : (gone : Bool) (count site state : ℕ) (text : List ℕ) → AllByRecursion (λ (c : Cell ℕ). c.state ≡ state) (map (with_gone gone) (cells_from count site state text))
row_states gone count site state [] = tt
row_states gone count site state (c ∷ text) = (refl, row_states gone (count + 1) site state text)

-- an element of a list, of each of which something holds
pub record IsAt (Q : Cell ℕ → Type 0) (cs : List (Cell ℕ)) (k : ℕ) : Type 0 where
  pub cell : Cell ℕ
  pub rest : List (Cell ℕ)
  pub is : drop k cs ≡ cell ∷ rest
  pub has : Q cell

pub there_is : (Q : Cell ℕ → Type 0) (cs : List (Cell ℕ)) (k : ℕ) → k < length cs → AllByRecursion Q cs → IsAt Q cs k
there_is Q [] k lt all = absurd (omega (arith, lt))
there_is Q (c ∷ cs) zero lt all = record { cell = c; rest = cs; is = refl; has = all.0 }
there_is Q (c ∷ cs) (suc k) lt all = let h = there_is Q cs k (omega (arith, lt)) all.1 in record { cell = h.cell; rest = h.rest; is = h.is; has = h.has }

pub all_drop : (Q : Cell ℕ → Type 0) (k : ℕ) (cs : List (Cell ℕ)) → AllByRecursion Q cs → AllByRecursion Q (drop k cs)
all_drop Q zero cs all = all
all_drop Q (suc k) [] all = tt
all_drop Q (suc k) (c ∷ cs) all = all_drop Q k cs all.1

pub all_take : (Q : Cell ℕ → Type 0) (k : ℕ) (cs : List (Cell ℕ)) → AllByRecursion Q cs → AllByRecursion Q (take k cs)
all_take Q zero cs all = tt
all_take Q (suc k) [] all = tt
all_take Q (suc k) (c ∷ cs) all = (all.0, all_take Q k cs all.1)

pub all_as : (Q R : Cell ℕ → Type 0) → ((c : Cell ℕ) → Q c → R c) → (cs : List (Cell ℕ)) → AllByRecursion Q cs → AllByRecursion R cs
all_as Q R f [] all = tt
all_as Q R f (c ∷ cs) all = (f c all.0, all_as Q R f cs all.1)

module _ (test : Cell ℕ → Bool) where
  pub next_past : (cs a rest : List (Cell ℕ)) (at n : ℕ) → drop at cs ≡ a ++ rest → at + length a ≡ n → AllByRecursion (λ c. test c ≡ false) a → next_place test cs at ≡ next_place test cs n
  next_past cs [] rest at n h e all = let z : at ≡ n = omega (arith, e) in ap (next_place test cs) z
  next_past cs (c ∷ a) rest at n h e all =
      let up : at + 1 ≡ suc at = omega arith in
      let more : drop (at + 1) cs ≡ a ++ rest = ap (λ i. drop i cs) up ∙ drop_more cs at c (a ++ rest) h in
      next_on test cs at c (a ++ rest) h all.0 ∙ next_past cs a rest (at + 1) n more (omega (arith, e)) all.1

  pub none_last : (a : List (Cell ℕ)) → AllByRecursion (λ c. test c ≡ false) a → last_place test a ≡ None
  none_last [] all = refl
  none_last (c ∷ a) all = rw (none_last a all.1, all.0) refl
