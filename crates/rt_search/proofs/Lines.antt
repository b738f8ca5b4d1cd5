-- Lines of a text: what one character more changes.
use Rattle.std.proofs.Common.{◌≡◌, ℕ, zero, suc, ◌+◌, ◌-◌, ◌<◌, ◌≤◌, List, [], ◌∷◌, ◌++◌, Bool, true, false, cond, length, refl, sym, ap, subst, ◌∙◌, arith, add-one, take, get_or}
use Rattle.std.proofs.lemmas.Bool.Decides.{nat_tests}
use Rattle.std.proofs.lemmas.List.{length-append}
use native.Mathlib.Numerals.{unary_clauses}
use Rattle.rt_stamps.specs.Places.{EndsWithNewline, is_newline, newlines, after_newlines, line_of, line_start}
use Rattle.rt_store.specs.declared.cell.Cell.{Cell}
use Rattle.rt_store.specs.Cells.{final_cell, EndsFinal, text_of, with_state}

-- ONE CHARACTER MORE

more_by : (b : Bool) (n m : ℕ) (d : ℕ) → n ≡ m + d → cond b (n + 1) n ≡ cond b (m + 1) m + d
more_by true n m d h = omega arith
more_by false n m d h = h

newlines_more : (t : List ℕ) (p : ℕ) → p < length t → newlines (take (suc p) t) ≡ newlines (take p t) + cond (is_newline (get_or t p 0)) 1 0
newlines_more [] p h = absurd (omega arith)
newlines_more (c ∷ t) zero h = omega arith
newlines_more (c ∷ t) (suc p) h = more_by (is_newline c) _ _ _ (newlines_more t p (omega arith))

-- a newline begins a line behind it
begins_by : (c : ℕ) (t : List ℕ) (n p : ℕ) (b : Bool) → is_newline c ≡ b → after_newlines (suc n) t ≡ suc p → after_newlines (suc (cond b (n + 1) n)) (c ∷ t) ≡ suc (suc p)
begins_by c t n p true e h = rw e (omega (arith, ap (λ k. after_newlines k t) (add-one n), h))
begins_by c t n p false e h = rw (e, h) (omega arith)

begins_after : (t : List ℕ) (p : ℕ) → p < length t → is_newline (get_or t p 0) ≡ true → after_newlines (suc (newlines (take p t))) t ≡ suc p
begins_after [] p h e = absurd (omega arith)
begins_after (c ∷ t) zero h e = rw e refl
begins_after (c ∷ t) (suc p) h e = begins_by c t (newlines (take p t)) p (is_newline c) refl (begins_after t p (omega arith) e)

newline_is : (c : ℕ) → c ≡ 10 → is_newline c ≡ true
newline_is c e = rw e refl

other_is : (c : ℕ) → (c ≡ 10 → ⊥) → is_newline c ≡ false
other_is c e = grind (arith, nat_tests)

-- behind a newline the next line begins
pub line_next : (t : List ℕ) (p c : ℕ) → p < length t → get_or t p 0 ≡ c → c ≡ 10 → line_of t (p + 1) ≡ line_of t p + 1
line_next t p c h e k =
    let n : newlines (take (suc p) t) ≡ newlines (take p t) + cond (is_newline (get_or t p 0)) 1 0 = newlines_more t p h in
    let is : is_newline (get_or t p 0) ≡ true = rw e (newline_is c k) in
    rw (add-one p, n, is) refl

pub start_next : (t : List ℕ) (p c : ℕ) → p < length t → get_or t p 0 ≡ c → c ≡ 10 → line_start t (line_of t (p + 1)) ≡ p + 1
start_next t p c h e k =
    let is : is_newline (get_or t p 0) ≡ true = rw e (newline_is c k) in
    let line : line_of t (p + 1) - 1 ≡ suc (newlines (take p t)) = omega (arith, line_next t p c h e k) in
    rw (line, begins_after t p h is) (omega arith)

-- behind another character it goes on
pub line_same : (t : List ℕ) (p c : ℕ) → p < length t → get_or t p 0 ≡ c → (c ≡ 10 → ⊥) → line_of t (p + 1) ≡ line_of t p
line_same t p c h e k =
    let n : newlines (take (suc p) t) ≡ newlines (take p t) + cond (is_newline (get_or t p 0)) 1 0 = newlines_more t p h in
    let is : is_newline (get_or t p 0) ≡ false = rw e (other_is c k) in
    rw (add-one p, n, is) (omega arith)

pub start_same : (t : List ℕ) (p c : ℕ) → p < length t → get_or t p 0 ≡ c → (c ≡ 10 → ⊥) → line_start t (line_of t (p + 1)) ≡ line_start t (line_of t p)
start_same t p c h e k = ap (line_start t) (line_same t p c h e k)

-- there are no more lines than characters before a place, and its own
pub lines_few : (t : List ℕ) (p : ℕ) → line_of t p ≤ p + 1
lines_few t p = omega (arith, few t p)
  where
    by : (b : Bool) (n m : ℕ) → n ≤ m → cond b (n + 1) n ≤ suc m
    by true n m h = omega arith
    by false n m h = omega arith

    few : (t : List ℕ) (p : ℕ) → newlines (take p t) ≤ p
    few t zero = omega arith
    few [] (suc p) = omega arith
    few (c ∷ t) (suc p) = by (is_newline c) (newlines (take p t)) p (few t p)

-- WHERE LINES START

taken_step : (c : ℕ) (t : List ℕ) (n p : ℕ) (b : Bool) → is_newline c ≡ b → after_newlines n t ≤ p → after_newlines (cond b (n + 1) n) (c ∷ t) ≤ suc p
taken_step c t n p true e h = rw (add-one, e) (omega arith)
taken_step c t zero p false e h = omega arith
taken_step c t (suc m) p false e h = rw e (omega arith)

starts : (t : List ℕ) (p : ℕ) → after_newlines (newlines (take p t)) t ≤ p
starts t zero = omega arith
starts [] (suc p) = omega arith
starts (c ∷ t) (suc p) = taken_step c t (newlines (take p t)) p (is_newline c) refl (starts t p)

-- the line of a place starts there or before it
pub line_starts : (t : List ℕ) (p : ℕ) → line_start t (line_of t p) ≤ p
line_starts t p = let e : newlines (take p t) + 1 - 1 ≡ newlines (take p t) = omega arith in rw e (starts t p)

-- THE LINES OF A STORE

front_of : (c : ℕ) (t : List ℕ) (gone : Bool) → EndsWithNewline t → EndsWithNewline (cond gone t (c ∷ t))
front_of c t true h = h
front_of c t false h = (c ∷ h.0, ap (λ s. c ∷ s) h.1)

text_by : {T : Type 0} (x : Cell T) (xs : List (Cell T)) (gone : Bool) → x.gone ≡ gone → text_of (x ∷ xs) ≡ cond gone (text_of xs) (x.ch ∷ text_of xs)
text_by x xs true e = rw e refl
text_by x xs false e = rw e refl

last_tail : (x y : Cell ℕ) (xs : List (Cell ℕ)) → EndsFinal (x ∷ y ∷ xs) → EndsFinal (y ∷ xs)
last_tail x y xs h = simp unary_clauses (simp unary_clauses at h)

ends_text : (cells : List (Cell ℕ)) → EndsFinal cells → EndsWithNewline (text_of cells)
ends_text [] h = let bad : ⊥ = cc in absurd bad
ends_text (x ∷ []) h =
    let e : with_state final_cell.state x ≡ final_cell = cc in
    let shown : x.gone ≡ false = ap (λ (cell : Cell ℕ). cell.gone) e in
    let ch : x.ch ≡ 10 = ap (λ (cell : Cell ℕ). cell.ch) e in
    rw (shown, ch) ([], refl)
ends_text (x ∷ y ∷ xs) h = subst EndsWithNewline (sym (text_by x (y ∷ xs) x.gone refl)) (front_of x.ch (text_of (y ∷ xs)) x.gone (ends_text (y ∷ xs) (last_tail x y xs h)))

fewer_by : (b : Bool) (n m : ℕ) → n < m → cond b (n + 1) n < cond b (m + 1) m
fewer_by true n m h = omega arith
fewer_by false n m h = h

some_by : (b : Bool) (n : ℕ) → 0 < n → 0 < cond b (n + 1) n
some_by true n h = omega arith
some_by false n h = h

some_newline : (front : List ℕ) → 0 < newlines (front ++ 10 ∷ [])
some_newline [] = omega arith
some_newline (c ∷ front) = some_by (is_newline c) _ (some_newline front)

follows : (p : ℕ) (front : List ℕ) → p ≤ length front → newlines (take p (front ++ 10 ∷ [])) < newlines (front ++ 10 ∷ [])
follows zero front h = some_newline front
follows (suc p) [] h = absurd (omega arith)
follows (suc p) (c ∷ front) h = fewer_by (is_newline c) _ _ (follows p front (omega arith))

-- the line of a character is one of the text's
pub line_there : (cells : List (Cell ℕ)) (p : ℕ) → EndsFinal cells → p < length (text_of cells) → line_of (text_of cells) p ≤ newlines (text_of cells)
line_there cells p ends h = by (text_of cells) (ends_text cells ends) h
  where
    by : (t : List ℕ) → EndsWithNewline t → p < length t → newlines (take p t) + 1 ≤ newlines t
    by t e k =
        let n : p ≤ length e.0 = omega (arith, ap length e.1, length-append e.0 (10 ∷ [])) in
        let f : newlines (take p (e.0 ++ 10 ∷ [])) < newlines (e.0 ++ 10 ∷ []) = follows p e.0 n in
        subst (λ (s : List ℕ). newlines (take p s) + 1 ≤ newlines s) (sym e.1) (omega arith)
