-- Cells that change their states alone.
use Rattle.std.proofs.Common.{◌≡◌, ℕ, ◌+◌, ◌<◌, ◌≤◌, List, [], ◌∷◌, Bool, true, false, cond, not, length, map, get_or, refl, sym, ◌∙◌, ap, subst, arith}
use Rattle.std.specs.List.{IsDistinct}
use Rattle.std.proofs.lemmas.List.Elements.{All-map}
use Rattle.rt_stamps.specs.Stamps.{is_same}
use Rattle.rt_store.specs.declared.cell.Cell.{Cell}
use Rattle.rt_store.specs.Cells.{text_of, visible_of, with_state, stamps_of, AreDistinct}
use Rattle.rt_store.specs.Written.{IsBelowNext, AreBelowNext}
use Rattle.rt_plans.specs.Removals.{cells_at}

-- nothing but the state of a cell changes
abbrev pub ChangesState : {T : Type 0} → (Cell T → Cell T) → Type 0
ChangesState {T} g = (cell : Cell T) → g cell ≡ with_state (g cell).state cell

module _ {T : Type 0} (g : Cell T → Cell T) (h : ChangesState g) where
  pub stamps_changed : (cells : List (Cell T)) → stamps_of (map g cells) ≡ stamps_of cells
  stamps_changed [] = refl
  stamps_changed (c ∷ cs) = λ i. (h c i).stamp ∷ stamps_changed cs i

  visible_step : (b : Bool) (c : Cell T) (xs ys : List (Cell T)) → xs ≡ map g ys → cond b (g c ∷ xs) xs ≡ map g (cond b (c ∷ ys) ys)
  visible_step true c xs ys e = ap (λ l. g c ∷ l) e
  visible_step false c xs ys e = e

  pub visible_changed : (cells : List (Cell T)) → visible_of (map g cells) ≡ map g (visible_of cells)
  visible_changed [] = refl
  visible_changed (c ∷ cs) =
      (λ i. cond (not (h c i).gone) (g c ∷ visible_of (map g cs)) (visible_of (map g cs))) ∙ visible_step (not c.gone) c (visible_of (map g cs)) (visible_of cs) (visible_changed cs)

  chars_changed : (cells : List (Cell T)) → map (λ (c : Cell T). c.ch) (map g cells) ≡ map (λ (c : Cell T). c.ch) cells
  chars_changed [] = refl
  chars_changed (c ∷ cs) = λ i. (h c i).ch ∷ chars_changed cs i

  pub text_changed : (cells : List (Cell T)) → text_of (map g cells) ≡ text_of cells
  text_changed cells = ap (map (λ (c : Cell T). c.ch)) (visible_changed cells) ∙ chars_changed (visible_of cells)

  pub known_changed : (count : ℕ) (cells : List (Cell T)) → AreBelowNext count cells → AreBelowNext count (map g cells)
  known_changed count cells k = All-map (λ (c : Cell T). IsBelowNext count c.stamp) g cells (λ j d lt. subst (IsBelowNext count) (sym (ap (λ (c : Cell T). c.stamp) (h (get_or cells j d)))) (k j d lt))

  pub distinct_changed : (cells : List (Cell T)) → AreDistinct cells → AreDistinct (map g cells)
  distinct_changed cells k = subst (IsDistinct is_same) (sym (stamps_changed cells)) k

-- RUNS

-- PLACES OF A TEXT

abbrev pub AreAlike : (ℕ → Bool) → (ℕ → Bool) → ℕ → ℕ → Type 0
AreAlike r s k n = (q : ℕ) → k ≤ q → q < k + n → r q ≡ s q

alike_step : {T : Type 0} (r s : ℕ → Bool) (k : ℕ) (b : Bool) (c : Cell T) (vs xs ys zs ws : List (Cell T)) → AreAlike r s k (length (cond (not b) (c ∷ vs) vs)) → (AreAlike r s k (length vs) → xs ≡ ys)
    → (AreAlike r s (k + 1) (length vs) → zs ≡ ws) → cond b xs (cond (r k) (c ∷ zs) zs) ≡ cond b ys (cond (s k) (c ∷ ws) ws)
alike_step r s k true c vs xs ys zs ws h f g = f h
alike_step r s k false c vs xs ys zs ws h f g =
    let rest : zs ≡ ws = g (λ q l m. h q (omega (arith, l)) (omega (arith, m))) in
    λ i. cond (h k (omega arith) (omega arith) i) (c ∷ rest i) (rest i)

-- places that are the same as far as the text goes
pub cells_alike : {T : Type 0} (r s : ℕ → Bool) (k : ℕ) (cells : List (Cell T)) → AreAlike r s k (length (visible_of cells)) → cells_at r k cells ≡ cells_at s k cells
cells_alike r s k [] h = refl
cells_alike r s k (c ∷ cs) h =
    alike_step r s k c.gone c (visible_of cs) (cells_at r k cs) (cells_at s k cs) (cells_at r (k + 1) cs) (cells_at s (k + 1) cs) h (λ a. cells_alike r s k cs a) (λ a. cells_alike r s (k + 1) cs a)
