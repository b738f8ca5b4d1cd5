-- Lines and places of a text.
use Rattle.std.proofs.Common.{◌≡◌, Bool, true, false, ◌==◌, ℕ, zero, suc, ◌+◌, ◌-◌, ◌<◌, ◌≤◌, List, [], ◌∷◌, ◌++◌, length, take, arith, add-one, ap, sym, refl, subst, length-append}
use Rattle.std.proofs.lemmas.Bool.Decides.{nat_tests}
use Rattle.rt_stamps.specs.Places.{newlines, after_newlines, line_of, line_start, line_end}
use Rattle.rt_stamps.specs.Places.{EndsWithNewline}

pub split : {A : Type 0} (b : Bool) → (b ≡ true → A) → (b ≡ false → A) → A
split true h k = h refl
split false h k = k refl

pub newlines_few : (t : List ℕ) → newlines t ≤ length t
newlines_few [] = omega arith
newlines_few (c ∷ t) = grind (arith, nat_tests, newlines_few t)

pub after_within : (k : ℕ) (t : List ℕ) → after_newlines k t ≤ length t
after_within zero t = omega arith
after_within (suc k) [] = omega arith
after_within (suc k) (c ∷ t) = grind (arith, nat_tests, after_within k t, after_within (suc k) t)

-- the start of a line is before the start of the next one
pub after_rises : (k : ℕ) (t : List ℕ) → k < newlines t → after_newlines k t < after_newlines (suc k) t
after_rises zero [] h = absurd (omega arith)
after_rises zero (c ∷ t) h = grind (arith, nat_tests)
after_rises (suc k) [] h = absurd (omega arith)
after_rises (suc k) (c ∷ t) h = grind (arith, nat_tests, after_rises k t, after_rises (suc k) t)

-- another character at the front
other_front : (k : ℕ) (c : ℕ) (t : List ℕ) → (c == 10) ≡ false → 1 ≤ k → after_newlines k (c ∷ t) ≡ after_newlines k t + 1
other_front zero c t e h = absurd (omega arith)
other_front (suc k) c t e h = rw e refl

other_front_most : (k : ℕ) (c : ℕ) (t : List ℕ) → (c == 10) ≡ false → after_newlines k (c ∷ t) ≤ after_newlines k t + 1
other_front_most zero c t e = omega arith
other_front_most (suc k) c t e = omega (arith, other_front (suc k) c t e (omega arith))

-- a place is not before the start of its line
pub starts_before : (p : ℕ) (t : List ℕ) → after_newlines (newlines (take p t)) t ≤ p
starts_before zero t = omega arith
starts_before (suc p) [] = omega arith
starts_before (suc p) (c ∷ t) = split (c == 10)
    (λ e. rw (e, add-one, e) (omega (arith, starts_before p t)))
    (λ e. rw e (omega (arith, starts_before p t, other_front_most (newlines (take p t)) c t e)))

-- a place that newlines follow is before the start of the next line
pub ends_after : (p : ℕ) (t : List ℕ) → newlines (take p t) < newlines t → p < after_newlines (suc (newlines (take p t))) t
ends_after zero [] h = absurd (omega arith)
ends_after zero (c ∷ t) h = grind (arith, nat_tests)
ends_after (suc p) [] h = absurd (omega arith)
ends_after (suc p) (c ∷ t) h = split (c == 10)
    (λ e. let k = rw e at h in let m : newlines (take p t) < newlines t = omega arith in rw e (omega (arith, ends_after p t m, ap (λ k. after_newlines k t) (add-one (newlines (take p t))))))
    (λ e.
    let k = rw e at h in
    let f : newlines (take (suc p) (c ∷ t)) ≡ newlines (take p t) = rw e refl in
    let P : ℕ → Type 0 = λ n. suc p < after_newlines (suc n) (c ∷ t) in
    subst P (sym f) (rw e (omega (arith, ends_after p t k))))

-- a last newline
pub newline_follows : (p : ℕ) (front : List ℕ) → p ≤ length front → newlines (take p (front ++ 10 ∷ [])) < newlines (front ++ 10 ∷ [])
newline_follows zero [] h = omega arith
newline_follows zero (c ∷ front) h = grind (arith, nat_tests, newline_follows zero front)
newline_follows (suc p) [] h = absurd (omega arith)
newline_follows (suc p) (c ∷ front) h = grind (arith, nat_tests, newline_follows p front)

pub last_line : (front : List ℕ) → after_newlines (newlines (front ++ 10 ∷ [])) (front ++ 10 ∷ []) ≡ length (front ++ 10 ∷ [])
last_line [] = refl
last_line (c ∷ front) = split (c == 10)
    (λ e. rw (e, add-one, e) (omega (arith, last_line front)))
    (λ e. rw e (omega (arith, last_line front, newline_follows 0 front (omega arith), other_front (newlines (front ++ 10 ∷ [])) c (front ++ 10 ∷ []) e)))

pub lines_some : (t : List ℕ) → EndsWithNewline t → 1 ≤ newlines t
lines_some t ends =
    let h = newline_follows 0 ends.0 (omega arith) in
    rw ends.1 (omega arith)

pub last_line_ends : (t : List ℕ) → EndsWithNewline t → after_newlines (newlines t) t ≡ length t
last_line_ends t ends = let P : List ℕ → Type 0 = λ x. after_newlines (newlines x) x ≡ length x in subst P (sym ends.1) (last_line ends.0)

pub follows : (p : ℕ) (t : List ℕ) → EndsWithNewline t → p < length t → newlines (take p t) < newlines t
follows p t ends h =
    let P : List ℕ → Type 0 = λ x. newlines (take p x) < newlines x in
    subst P (sym ends.1) (newline_follows p ends.0 (omega (arith, ap length ends.1, length-append ends.0 (10 ∷ []))))

pub line_within : (p : ℕ) (t : List ℕ) → EndsWithNewline t → p < length t → line_of t p ≤ newlines t
line_within p t ends h = omega (arith, follows p t ends h)

pub start_before : (p : ℕ) (t : List ℕ) → line_start t (line_of t p) ≤ p
start_before p t = let e : newlines (take p t) + 1 - 1 ≡ newlines (take p t) = omega arith in rw e (starts_before p t)

pub end_after : (p : ℕ) (t : List ℕ) → EndsWithNewline t → p < length t → p ≤ line_end t (line_of t p)
end_after p t ends h = rw add-one (omega (arith, ends_after p t (follows p t ends h)))

-- the ends of lines, by the starts of the lines after them
pub next_start : (line : ℕ) (t : List ℕ) → line_start t (line + 1) ≡ after_newlines line t
next_start line t = let e : line + 1 - 1 ≡ line = omega arith in ap (λ k. after_newlines k t) e

pub next_start_some : (line : ℕ) (t : List ℕ) → 1 ≤ line → line ≤ newlines t → 1 ≤ after_newlines line t
next_start_some zero t low high = absurd (omega arith)
next_start_some (suc k) t low high = omega (arith, after_rises k t (omega arith))

-- a line's start isn't behind its end
pub start_ends : (line : ℕ) (t : List ℕ) → 1 ≤ line → line ≤ newlines t → line_start t line ≤ line_end t line
start_ends zero t low high = absurd (omega arith)
start_ends (suc k) t low high = let e : suc k - 1 ≡ k = omega arith in rw e (omega (arith, after_rises k t (omega arith)))

pub start_within : (line : ℕ) (t : List ℕ) → line_start t line ≤ length t
start_within line t = after_within (line - 1) t

pub end_within : (line : ℕ) (t : List ℕ) → line_end t line ≤ length t
end_within line t = omega (arith, after_within line t)

-- a line ends where the text ends, or before
pub last_end : (line : ℕ) (t : List ℕ) → EndsWithNewline t → newlines t ≤ line → line ≤ newlines t → line_end t line ≡ length t - 1
last_end line t ends low high =
    let e : line ≡ newlines t = omega arith in
    rw e (ap (λ n. n - 1) (last_line_ends t ends))
