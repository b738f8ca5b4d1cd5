-- Lines and places of a text that ends with a newline.
use Rattle.std.proofs.Common.{◌≡◌, ℕ, zero, suc, ◌+◌, ◌-◌, ◌<◌, ◌≤◌, List, [], ◌∷◌, ◌++◌, false, length, take, refl, sym, ap, subst, arith, add-one, length-append}
use Rattle.std.proofs.lemmas.Bool.Decides.{nat_tests}
use Rattle.std.specs.Prelude.{Some, slice_get}
use Rattle.rt_stamps.specs.Places.{EndsWithNewline, is_newline, newlines, after_newlines, line_of, line_start, line_end}
use Rattle.rt_store.proofs.Distinct.{split}

-- WHERE LINES START

pub after_within : (k : ℕ) (t : List ℕ) → after_newlines k t ≤ length t
after_within zero t = omega arith
after_within (suc k) [] = omega arith
after_within (suc k) (c ∷ t) = grind (arith, nat_tests, after_within k t, after_within (suc k) t)

-- the start of a line is before the start of the next one
pub after_rises : (k : ℕ) (t : List ℕ) → k < newlines t → after_newlines k t < after_newlines (suc k) t
after_rises zero [] h = absurd (omega arith)
after_rises zero (c ∷ t) h = grind (arith, nat_tests)
after_rises (suc k) [] h = absurd (omega arith)
after_rises (suc k) (c ∷ t) h = grind (arith, nat_tests, after_rises k t, after_rises (suc k) t)

-- and so before those of all later ones
pub after_mono : (d k : ℕ) (t : List ℕ) → k + d ≤ newlines t → after_newlines k t + d ≤ after_newlines (k + d) t
after_mono zero k t h = let e : k + 0 ≡ k = omega arith in rw e (omega arith)
after_mono (suc d) k t h =
    let e : k + suc d ≡ suc (k + d) = omega arith in
    let here : after_newlines k t + d ≤ after_newlines (k + d) t = after_mono d k t (omega arith) in
    let next : after_newlines (k + d) t < after_newlines (suc (k + d)) t = after_rises (k + d) t (omega arith) in
    rw e (omega arith)

-- a place of the text is followed by a newline
pub newline_follows : (p : ℕ) (front : List ℕ) → p ≤ length front → newlines (take p (front ++ 10 ∷ [])) < newlines (front ++ 10 ∷ [])
newline_follows zero [] h = omega arith
newline_follows zero (c ∷ front) h = grind (arith, nat_tests, newline_follows zero front)
newline_follows (suc p) [] h = absurd (omega arith)
newline_follows (suc p) (c ∷ front) h = grind (arith, nat_tests, newline_follows p front)

-- the line of a character is one of the text's
pub line_within : (t : List ℕ) (p : ℕ) → EndsWithNewline t → p < length t → line_of t p ≤ newlines t
line_within t p ends h =
    let n : p ≤ length ends.0 = omega (arith, ap length ends.1, length-append ends.0 (10 ∷ [])) in
    let f : newlines (take p (ends.0 ++ 10 ∷ [])) < newlines (ends.0 ++ 10 ∷ []) = newline_follows p ends.0 n in
    subst (λ (s : List ℕ). newlines (take p s) + 1 ≤ newlines s) (sym ends.1) (omega arith)

pub lines_some : (t : List ℕ) → EndsWithNewline t → 1 ≤ newlines t
lines_some t ends =
    let h = newline_follows 0 ends.0 (omega arith) in
    rw ends.1 (omega arith)

-- another character at the front
other_front : (k c : ℕ) (t : List ℕ) → is_newline c ≡ false → 1 ≤ k → after_newlines k (c ∷ t) ≡ after_newlines k t + 1
other_front zero c t e h = absurd (omega arith)
other_front (suc k) c t e h = rw e refl

last_line : (front : List ℕ) → after_newlines (newlines (front ++ 10 ∷ [])) (front ++ 10 ∷ []) ≡ length (front ++ 10 ∷ [])
last_line [] = refl
last_line (c ∷ front) = split (is_newline c)
    (λ e. rw (e, add-one, e) (omega (arith, last_line front)))
    (λ e. rw e (omega (arith, last_line front, newline_follows 0 front (omega arith), other_front (newlines (front ++ 10 ∷ [])) c (front ++ 10 ∷ []) e)))

-- the text ends with its last line
pub after_all : (t : List ℕ) → EndsWithNewline t → after_newlines (newlines t) t ≡ length t
after_all t ends = let P : List ℕ → Type 0 = λ x. after_newlines (newlines x) x ≡ length x in subst P (sym ends.1) (last_line ends.0)

-- THE ENDS OF LINES

-- behind a line's newline the next one starts
pub after_some : (k : ℕ) (t : List ℕ) → 1 ≤ k → k ≤ newlines t → 1 ≤ after_newlines k t
after_some zero t low high = absurd (omega arith)
after_some (suc k) t low high = omega (arith, after_rises k t (omega arith))

pub end_is : (k : ℕ) (t : List ℕ) → 1 ≤ k → k ≤ newlines t → line_end t k + 1 ≡ after_newlines k t
end_is k t low high = omega (arith, after_some k t low high)

pub next_start : (line : ℕ) (t : List ℕ) → line_start t (line + 1) ≡ after_newlines line t
next_start line t = let e : line + 1 - 1 ≡ line = omega arith in ap (λ k. after_newlines k t) e

-- a line ends with a newline
ends_at : (k : ℕ) (t : List ℕ) (n : ℕ) → 1 ≤ k → k ≤ newlines t → after_newlines k t ≡ suc n → slice_get t n ≡ Some 10
ends_at zero t n low high e = absurd (omega arith)
ends_at (suc k) [] n low high e = absurd (omega arith)
ends_at (suc zero) (c ∷ t) zero low high e = split (is_newline c)
    (λ b. grind (arith, nat_tests))
    (λ b.
    let m : after_newlines (suc zero) t + 1 ≡ suc zero = rw b at e in
    let few : 1 ≤ newlines t = rw b at high in
    absurd (omega (arith, after_some (suc zero) t (omega arith) few)))
ends_at (suc zero) (c ∷ t) (suc n) low high e = split (is_newline c)
    (λ b. let m : 0 + 1 ≡ suc (suc n) = rw b at e in absurd (omega arith))
    (λ b.
    let m : after_newlines (suc zero) t + 1 ≡ suc (suc n) = rw b at e in
    let few : 1 ≤ newlines t = rw b at high in
    ends_at (suc zero) t n low few (omega arith))
ends_at (suc (suc k)) (c ∷ t) zero low high e = split (is_newline c)
    (λ b.
    let m : after_newlines (suc k) t + 1 ≡ suc zero = rw b at e in
    let few : suc (suc k) ≤ newlines t + 1 = rw b at high in
    absurd (omega (arith, after_some (suc k) t (omega arith) (omega arith))))
    (λ b.
    let m : after_newlines (suc (suc k)) t + 1 ≡ suc zero = rw b at e in
    let few : suc (suc k) ≤ newlines t = rw b at high in
    absurd (omega (arith, after_some (suc (suc k)) t (omega arith) few)))
ends_at (suc (suc k)) (c ∷ t) (suc n) low high e = split (is_newline c)
    (λ b.
    let m : after_newlines (suc k) t + 1 ≡ suc (suc n) = rw b at e in
    let few : suc (suc k) ≤ newlines t + 1 = rw b at high in
    ends_at (suc k) t n (omega arith) (omega arith) (omega arith))
    (λ b.
    let m : after_newlines (suc (suc k)) t + 1 ≡ suc (suc n) = rw b at e in
    let few : suc (suc k) ≤ newlines t = rw b at high in
    ends_at (suc (suc k)) t n low few (omega arith))

pub ends_with : (k : ℕ) (t : List ℕ) → 1 ≤ k → k ≤ newlines t → slice_get t (line_end t k) ≡ Some 10
ends_with k t low high = ends_at k t (line_end t k) low high (omega (arith, after_some k t low high))

-- a line starts before the end of each line from it on
pub starts_below : (t : List ℕ) (first last : ℕ) → 1 ≤ first → first ≤ last → last ≤ newlines t → line_start t first < line_end t last + 1
starts_below t first last low order high =
    let k = first - 1 in
    let d = last - first + 1 in
    let e : k + d ≡ last = omega arith in
    let m : after_newlines k t + d ≤ after_newlines (k + d) t = after_mono d k t (omega (arith, e)) in
    let end = end_is last t (omega arith) high in
    omega (arith, m, end, ap (λ k. after_newlines k t) e)
