-- One cell more of a walk over the cells.
use Rattle.std.proofs.Common.{[], ◌≡◌, ◌+◌, ◌-◌, ◌<◌, ◌≤◌, ◌∷◌, take, drop, length, ℕ, List, zero, suc, Bool, true, false, cond, arith, refl, count_by, get_or, drop-cons, add-one, sub-one, ne_eqb, sym, ◌∙◌}
use Rattle.std.proofs.lemmas.List.{drop_all}
use Rattle.std.proofs.lemmas.List.Sums.{sum_by-cons}
use Rattle.rt_store.specs.declared.cell.Cell.{Cell}
use Rattle.rt_store.specs.Cells.{text_of}
use Rattle.rt_stamps.specs.Places.{is_newline, newlines, after_newlines}

pub text_gone : (cells : List (Cell ℕ)) (i : ℕ) (d : Cell ℕ) → i < length cells → (get_or cells i d).gone ≡ true → text_of (drop i cells) ≡ text_of (drop (i + 1) cells)
text_gone cells i d h e = rw (drop-cons cells i d, add-one, e) refl

pub text_shown : (cells : List (Cell ℕ)) (i : ℕ) (d : Cell ℕ) → i < length cells → (get_or cells i d).gone ≡ false → text_of (drop i cells) ≡ (get_or cells i d).ch ∷ text_of (drop (i + 1) cells)
text_shown cells i d h e = rw (drop-cons cells i d, add-one, e) refl

pub newlines_first : (left c : ℕ) (t : List ℕ) → 0 < left → c ≡ 10 → newlines (take left (c ∷ t)) ≡ newlines (take (left - 1) t) + 1
newlines_first zero c t h e = absurd (omega arith)
newlines_first (suc k) c t h e = rw (sub-one, e) refl

pub newlines_other : (left c : ℕ) (t : List ℕ) → 0 < left → (c ≡ 10 → ⊥) → newlines (take left (c ∷ t)) ≡ newlines (take (left - 1) t)
newlines_other zero c t h e = absurd (omega arith)
newlines_other (suc k) c t h e = rw (sub-one, ne_eqb c 10 e) refl

plus_one : (b : Bool) (n m : ℕ) → n ≡ m → cond b (n + 1) n ≡ cond b 1 0 + m
plus_one true n m h = omega arith
plus_one false n m h = omega arith

-- the newlines of a text, counted
pub newlines_count : (t : List ℕ) → newlines t ≡ count_by is_newline t
newlines_count [] = refl
newlines_count (c ∷ t) = plus_one (is_newline c) (newlines t) (count_by is_newline t) (newlines_count t) ∙ sym (sum_by-cons (λ x. cond (is_newline x) 1 0) c t)

pub after_first : (left c : ℕ) (t : List ℕ) → 0 < left → c ≡ 10 → after_newlines left (c ∷ t) ≡ after_newlines (left - 1) t + 1
after_first zero c t h e = absurd (omega arith)
after_first (suc k) c t h e = rw (sub-one, e) refl

pub after_other : (left c : ℕ) (t : List ℕ) → 0 < left → (c ≡ 10 → ⊥) → after_newlines left (c ∷ t) ≡ after_newlines left t + 1
after_other zero c t h e = absurd (omega arith)
after_other (suc k) c t h e = rw (ne_eqb c 10 e) refl

pub after_none : (left : ℕ) (cells : List (Cell ℕ)) (i : ℕ) → length cells ≤ i → after_newlines left (text_of (drop i cells)) ≡ 0
after_none zero cells i h = refl
after_none (suc k) cells i h = rw (drop_all i cells h) refl
