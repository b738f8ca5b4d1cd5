-- The text of a store: it ends with a newline, and has no more characters than cells.
use Rattle.std.proofs.Common.{◌≡◌, ℕ, suc, ◌≤◌, List, [], ◌∷◌, Bool, true, false, cond, length, refl, sym, ap, subst, arith}
use native.Mathlib.Numerals.{unary_clauses}
use Rattle.rt_stamps.specs.Places.{EndsWithNewline}
use Rattle.rt_store.specs.declared.cell.Cell.{Cell}
use Rattle.rt_store.specs.Cells.{final_cell, EndsFinal, text_of, with_state}

front_of : (c : ℕ) (t : List ℕ) (gone : Bool) → EndsWithNewline t → EndsWithNewline (cond gone t (c ∷ t))
front_of c t true h = h
front_of c t false h = (c ∷ h.0, ap (λ s. c ∷ s) h.1)

text_by : {T : Type 0} (x : Cell T) (xs : List (Cell T)) (gone : Bool) → x.gone ≡ gone → text_of (x ∷ xs) ≡ cond gone (text_of xs) (x.ch ∷ text_of xs)
text_by x xs true e = rw e refl
text_by x xs false e = rw e refl

last_tail : (x y : Cell ℕ) (xs : List (Cell ℕ)) → EndsFinal (x ∷ y ∷ xs) → EndsFinal (y ∷ xs)
last_tail x y xs h = simp unary_clauses (simp unary_clauses at h)

-- the text of a store ends with a newline
pub ends_text : (cells : List (Cell ℕ)) → EndsFinal cells → EndsWithNewline (text_of cells)
ends_text [] h = let bad : ⊥ = cc in absurd bad
ends_text (x ∷ []) h =
    let e : with_state final_cell.state x ≡ final_cell = cc in
    let shown : x.gone ≡ false = ap (λ (cell : Cell ℕ). cell.gone) e in
    let ch : x.ch ≡ 10 = ap (λ (cell : Cell ℕ). cell.ch) e in
    rw (shown, ch) ([], refl)
ends_text (x ∷ y ∷ xs) h = subst EndsWithNewline (sym (text_by x (y ∷ xs) x.gone refl)) (front_of x.ch (text_of (y ∷ xs)) x.gone (ends_text (y ∷ xs) (last_tail x y xs h)))

-- visible cells are cells
pub text_within : {T : Type 0} (cells : List (Cell T)) → length (text_of cells) ≤ length cells
text_within [] = omega arith
text_within (x ∷ xs) = within x.gone (text_of xs) (text_within xs) (text_by x xs x.gone refl)
  where
    within : (gone : Bool) (t : List ℕ) → length t ≤ length xs → text_of (x ∷ xs) ≡ cond gone t (x.ch ∷ t) → length (text_of (x ∷ xs)) ≤ suc (length xs)
    within true t h e = omega (arith, ap length e)
    within false t h e = omega (arith, ap length e)
