-- Laws of places in a text that ends with a newline.
use Rattle.std.proofs.Common.{◌≡◌, ℕ, zero, suc, ◌+◌, ◌-◌, ◌<◌, ◌≤◌, List, [], ◌∷◌, ◌++◌, Bool, true, false, cond, length, refl, arith, add-one, take}
use Rattle.std.proofs.lemmas.List.{length-map}
use Rattle.rt_stamps.specs.Places.{is_newline, newlines, after_newlines, line_of, position_at}
use Rattle.rt_store.specs.declared.cell.Cell.{Cell}
use Rattle.rt_store.specs.Cells.{text_of, visible_of}
use Rattle.rt_stamps.specs.Places.{EndsWithNewline}
pub use Rattle.rt_plans.proofs.Texts.{ends_text, text_within}

some_front : (front : List ℕ) → 1 ≤ newlines (front ++ 10 ∷ [])
some_front [] = omega arith
some_front (c ∷ t) = at_newline (is_newline c) (newlines (t ++ 10 ∷ [])) (some_front t)
  where
    at_newline : (b : Bool) (n : ℕ) → 1 ≤ n → 1 ≤ cond b (n + 1) n
    at_newline true n h = omega arith
    at_newline false n h = h

pub some_newline : (t : List ℕ) → EndsWithNewline t → 1 ≤ newlines t
some_newline t h = rw (h.1) (some_front h.0)

all_step : (c : ℕ) (t : List ℕ) (n : ℕ) (b : Bool) → is_newline c ≡ b → 1 ≤ n → after_newlines n t ≡ length t → after_newlines (cond b (n + 1) n) (c ∷ t) ≡ suc (length t)
all_step c t n true e h k = rw (add-one, e, k) (omega arith)
all_step c t zero false e h k = absurd (omega arith)
all_step c t (suc m) false e h k = rw (e, k) (omega arith)

all_front : (front : List ℕ) → after_newlines (newlines (front ++ 10 ∷ [])) (front ++ 10 ∷ []) ≡ length (front ++ 10 ∷ [])
all_front [] = refl
all_front (c ∷ t) = all_step c (t ++ 10 ∷ []) (newlines (t ++ 10 ∷ [])) (is_newline c) refl (some_front t) (all_front t)

-- after all newlines is the text's end
pub after_all : (t : List ℕ) → EndsWithNewline t → after_newlines (newlines t) t ≡ length t
after_all t h = rw (h.1) (all_front h.0)

-- no place after newlines is beyond the text
pub after_within : (k : ℕ) (t : List ℕ) → after_newlines k t ≤ length t
after_within zero t = omega arith
after_within (suc n) [] = omega arith
after_within (suc n) (c ∷ t) = within (is_newline c) _ _ _ (after_within n t) (after_within (suc n) t)
  where
    within : (b : Bool) (x y n : ℕ) → x ≤ n → y ≤ n → cond b (x + 1) (y + 1) ≤ suc n
    within true x y n h k = omega arith
    within false x y n h k = omega arith

-- a visible cell is a character
pub length_text : {T : Type 0} (cells : List (Cell T)) → length (text_of cells) ≡ length (visible_of cells)
length_text cells = length-map (visible_of cells) (λ cell. cell.ch)

-- newlines are characters
pub newlines_within : (t : List ℕ) → newlines t ≤ length t
newlines_within [] = omega arith
newlines_within (c ∷ t) = within (is_newline c) (newlines t) (length t) (newlines_within t)
  where
    within : (b : Bool) (n m : ℕ) → n ≤ m → cond b (n + 1) n ≤ suc m
    within true n m h = omega arith
    within false n m h = omega arith

-- a front of a text has at most its newlines
pub newlines_front : (t : List ℕ) (place : ℕ) → newlines (take place t) ≤ newlines t
newlines_front t zero = omega arith
newlines_front [] (suc p) = omega arith
newlines_front (c ∷ t) (suc p) = fewer (is_newline c) _ _ (newlines_front t p)
  where
    fewer : (b : Bool) (n m : ℕ) → n ≤ m → cond b (n + 1) n ≤ cond b (m + 1) m
    fewer true n m h = omega arith
    fewer false n m h = omega arith

taken_step : (c : ℕ) (t : List ℕ) (n p : ℕ) (b : Bool) → is_newline c ≡ b → after_newlines n t ≤ p → after_newlines (cond b (n + 1) n) (c ∷ t) ≤ suc p
taken_step c t n p true e h = rw (add-one, e) (omega arith)
taken_step c t zero p false e h = omega arith
taken_step c t (suc m) p false e h = rw e (omega arith)

-- the line of a place starts at it or before it
pub line_starts : (t : List ℕ) (place : ℕ) → after_newlines (newlines (take place t)) t ≤ place
line_starts t zero = omega arith
line_starts [] (suc p) = omega arith
line_starts (c ∷ t) (suc p) = taken_step c t (newlines (take p t)) p (is_newline c) refl (line_starts t p)

-- behind the last newline is the text's end, the first character of a line that isn't there
pub last_position : (t : List ℕ) (place line : ℕ) → EndsWithNewline t → place ≤ length t → line ≡ line_of t place → newlines t < line
    → record { line = line; character = 0 } ≡ position_at t place
last_position t place line ends h e more =
    let all : newlines (take place t) ≡ newlines t = omega (arith, newlines_front t place) in
    let less : newlines (take place t) + 1 - 1 ≡ newlines t = omega arith in
    let none : 0 ≡ place - after_newlines (newlines (take place t) + 1 - 1) t = rw (less, after_all t ends) (omega arith) in
    λ i. record { line = e i; character = none i }
