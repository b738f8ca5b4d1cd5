-- Lines of a text, by the newlines before a place, and of the same text with more characters at a place.
use Rattle.std.proofs.Common.{◌≡◌, ℕ, zero, suc, ◌+◌, ◌<◌, ◌≤◌, ◌||◌, List, [], ◌∷◌, ◌++◌, Bool, true, false, cond, length, take, drop, refl, ap, ◌∙◌, arith, length-append}
use Rattle.std.proofs.lemmas.Bool.Decides.{nat_tests}
use Rattle.std.specs.Prelude.{Some, slice_get, nat_lt}
use Rattle.std.specs.List.{list_any}
use Rattle.rt_text.specs.Neighbours.{ends_behind, ends_with_newline}
use Rattle.rt_stamps.specs.Places.{is_newline, newlines, after_newlines}

-- NEWLINES

pub next_count : (b : Bool) (n m k : ℕ) → n ≡ m + k → cond b (n + 1) n ≡ cond b (m + 1) m + k
next_count true n m k h = omega arith
next_count false n m k h = h

pub newlines_append : (xs ys : List ℕ) → newlines (xs ++ ys) ≡ newlines xs + newlines ys
newlines_append [] ys = omega arith
newlines_append (c ∷ xs) ys = next_count (is_newline c) (newlines (xs ++ ys)) (newlines xs) (newlines ys) (newlines_append xs ys)

next_more : (b : Bool) (n m d : ℕ) → n + d ≤ m → cond b (n + 1) n + d ≤ cond b (m + 1) m
next_more true n m d h = omega arith
next_more false n m d h = h

-- before a later place there are as many or more
pub counts_rise : (t : List ℕ) (a b : ℕ) → a ≤ b → newlines (take a t) + 0 ≤ newlines (take b t)
counts_rise t zero b h = omega arith
counts_rise t (suc a) zero h = absurd (omega arith)
counts_rise [] (suc a) (suc b) h = omega arith
counts_rise (c ∷ t) (suc a) (suc b) h = next_more (is_newline c) (newlines (take a t)) (newlines (take b t)) 0 (counts_rise t a b (omega arith))

-- and behind a newline more
pub counts_more : (t : List ℕ) (a b : ℕ) → slice_get t a ≡ Some 10 → a < b → newlines (take a t) + 1 ≤ newlines (take b t)
counts_more t a zero h l = absurd (omega arith)
counts_more [] a (suc b) h l = let bad : ⊥ = cc in absurd bad
counts_more (c ∷ t) zero (suc b) h l = let e : c ≡ 10 = cc in rw e (omega arith)
counts_more (c ∷ t) (suc a) (suc b) h l = next_more (is_newline c) (newlines (take a t)) (newlines (take b t)) 1 (counts_more t a b h (omega arith))

-- PLACES BEHIND NEWLINES

-- so many newlines stand before a place just where the place behind them isn't behind it
pub behind_few : (k : ℕ) (t : List ℕ) (p : ℕ) → k ≤ newlines (take p t) → after_newlines k t ≤ p
behind_few zero t p h = omega arith
behind_few (suc k) t zero h = absurd (omega arith)
behind_few (suc k) [] (suc p) h = omega arith
behind_few (suc k) (c ∷ t) (suc p) h = by (is_newline c) (newlines (take p t)) h (behind_few k t p) (behind_few (suc k) t p)
  where
    by : (b : Bool) (n : ℕ) → suc k ≤ cond b (n + 1) n → (k ≤ n → after_newlines k t ≤ p) → (suc k ≤ n → after_newlines (suc k) t ≤ p)
        → cond b (after_newlines k t + 1) (after_newlines (suc k) t + 1) ≤ suc p
    by true n h f g = let m : after_newlines k t ≤ p = f (omega arith) in omega arith
    by false n h f g = let m : after_newlines (suc k) t ≤ p = g h in omega arith

pub few_behind : (k : ℕ) (t : List ℕ) (p : ℕ) → p < length t → after_newlines k t ≤ p → k ≤ newlines (take p t)
few_behind zero t p l h = omega arith
few_behind (suc k) [] p l h = absurd (omega arith)
few_behind (suc k) (c ∷ t) zero l h = absurd (by (is_newline c) (after_newlines k t) (after_newlines (suc k) t) h)
  where
    by : (b : Bool) (n m : ℕ) → cond b (n + 1) (m + 1) ≤ 0 → ⊥
    by true n m h = omega arith
    by false n m h = omega arith
few_behind (suc k) (c ∷ t) (suc p) l h = by (is_newline c) (newlines (take p t)) h (few_behind k t p (omega arith)) (few_behind (suc k) t p (omega arith))
  where
    by : (b : Bool) (n : ℕ) → cond b (after_newlines k t + 1) (after_newlines (suc k) t + 1) ≤ suc p → (after_newlines k t ≤ p → k ≤ n) → (after_newlines (suc k) t ≤ p → suc k ≤ n)
        → suc k ≤ cond b (n + 1) n
    by true n h f g = let m : k ≤ n = f (omega arith) in omega arith
    by false n h f g = g (omega arith)

-- MORE CHARACTERS AT A PLACE

abbrev pub put_in : ℕ → List ℕ → List ℕ → List ℕ
put_in at new t = take at t ++ new ++ drop at t

-- before the place as many newlines as there were
pub put_before : (t new : List ℕ) (at p : ℕ) → p ≤ at → at ≤ length t → newlines (take p (put_in at new t)) ≡ newlines (take p t)
put_before t new at zero h l = refl
put_before t new zero (suc p) h l = absurd (omega arith)
put_before [] new (suc at) (suc p) h l = absurd (omega arith)
put_before (c ∷ t) new (suc at) (suc p) h l = ap (λ n. cond (is_newline c) (n + 1) n) (put_before t new at p (omega arith) (omega arith))

take_whole : (xs ys : List ℕ) (n : ℕ) → take (n + length xs) (xs ++ ys) ≡ xs ++ take n ys
take_whole [] ys n = let e : n + 0 ≡ n = omega arith in ap (λ k. take k ys) e
take_whole (x ∷ xs) ys n =
    let e : n + suc (length xs) ≡ suc (n + length xs) = omega arith in
    ap (λ k. take k (x ∷ (xs ++ ys))) e ∙ ap (λ l. x ∷ l) (take_whole xs ys n)

-- behind it the new ones more
pub put_behind : (t new : List ℕ) (at p : ℕ) → at ≤ p → at ≤ length t → newlines (take (p + length new) (put_in at new t)) ≡ newlines (take p t) + newlines new
put_behind t new zero p h l = ap newlines (take_whole new t p) ∙ newlines_append new (take p t) ∙ (omega arith)
put_behind t new (suc at) zero h l = absurd (omega arith)
put_behind [] new (suc at) (suc p) h l = absurd (omega arith)
put_behind (c ∷ t) new (suc at) (suc p) h l =
    let e : suc p + length new ≡ suc (p + length new) = omega arith in
    ap (λ k. newlines (take k (put_in (suc at) new (c ∷ t)))) e
    ∙ next_count (is_newline c) (newlines (take (p + length new) (put_in at new t))) (newlines (take p t)) (newlines new) (put_behind t new at p (omega arith) (omega arith))

take_some : (xs ys : List ℕ) (n : ℕ) → n ≤ length xs → take n (xs ++ ys) ≡ take n xs
take_some xs ys zero h = refl
take_some [] ys (suc n) h = absurd (omega arith)
take_some (x ∷ xs) ys (suc n) h = ap (λ l. x ∷ l) (take_some xs ys n (omega arith))

-- and among the new ones as many as there are of these
pub put_among : (t new : List ℕ) (at n : ℕ) → n ≤ length new → at ≤ length t → newlines (take (at + n) (put_in at new t)) ≡ newlines (take at t) + newlines (take n new)
put_among t new zero n h l =
    let e : 0 + n ≡ n = omega arith in
    let f : newlines (take n new) ≡ 0 + newlines (take n new) = omega arith in
    ap (λ k. newlines (take k (new ++ t))) e ∙ ap newlines (take_some new t n h) ∙ f
put_among [] new (suc at) n h l = absurd (omega arith)
put_among (c ∷ t) new (suc at) n h l =
    let e : suc at + n ≡ suc (at + n) = omega arith in
    ap (λ k. newlines (take k (put_in (suc at) new (c ∷ t)))) e
    ∙ next_count (is_newline c) (newlines (take (at + n) (put_in at new t))) (newlines (take at t)) (newlines (take n new)) (put_among t new at n h (omega arith))

pub put_length : (t new : List ℕ) (at : ℕ) → at ≤ length t → length (put_in at new t) ≡ length t + length new
put_length t new zero l = length-append new t ∙ (omega arith)
put_length [] new (suc at) l = absurd (omega arith)
put_length (c ∷ t) new (suc at) l = let h = put_length t new at (omega arith) in omega (arith, h)

-- THE NEW CHARACTERS

pub last_counted : (c : ℕ) (new : List ℕ) → newlines (c ∷ new) ≡ newlines (take (length new) (c ∷ new)) + cond (ends_with_newline (c ∷ new)) 1 0
last_counted c [] = by (is_newline c)
  where
    by : (b : Bool) → cond b (0 + 1) 0 ≡ 0 + cond b 1 0
    by true = refl
    by false = refl
last_counted c (d ∷ new) = next_count (is_newline c) (newlines (d ∷ new)) (newlines (take (length new) (d ∷ new))) (cond (ends_with_newline (d ∷ new)) 1 0) (last_counted d new)

-- whether they end with one is told by the last of them
pub ends_push : (before : Bool) (text : List ℕ) (c : ℕ) → ends_behind before (text ++ c ∷ []) ≡ is_newline c
ends_push before [] c = refl
ends_push before (d ∷ text) c = ends_push (is_newline d) text c

pub ends_append : (before : Bool) (xs ys : List ℕ) → ends_behind before (xs ++ ys) ≡ ends_behind (ends_behind before xs) ys
ends_append before [] ys = refl
ends_append before (c ∷ xs) ys = ends_append (is_newline c) xs ys

-- there is one where they have one
pub some_counted : (new : List ℕ) → nat_lt 0 (newlines new) ≡ list_any is_newline new
some_counted [] = refl
some_counted (c ∷ new) = by (is_newline c) (newlines new) (list_any is_newline new) (some_counted new)
  where
    by : (b : Bool) (n : ℕ) (d : Bool) → nat_lt 0 n ≡ d → nat_lt 0 (cond b (n + 1) n) ≡ (b || d)
    by true n d h = grind (arith, nat_tests)
    by false n d h = h
