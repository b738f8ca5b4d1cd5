-- Places of a part of a text, and texts between them.
use Rattle.std.proofs.Common.{◌≡◌, ℕ, zero, suc, ◌+◌, ◌-◌, ◌<◌, ◌≤◌, ◌⊎◌, inl, inr, min, List, [], ◌∷◌, Bool, true, false, cond, take, drop, refl, sym, ap, ◌∙◌, arith}
use Rattle.std.specs.Prelude.{Option, Some, None, nat_le, nat_lt, option_map, option_and_then, position, SomeIff}
use Rattle.std.proofs.lemmas.Bool.{cases_lt, le-leb, le-ltb, lt-leb, lt-ltb}
use Rattle.std.proofs.lemmas.Bool.Decides.{nat_tests}
use Rattle.std.proofs.lemmas.List.{drop-drop}
use Rattle.rt_store.specs.Tagged.{last_place, last_with, next_place, previous_place}
use Rattle.rt_store.proofs.Nearest.{position_cons}
use Rattle.rt_lines.specs.declared.stretch.Stretch.{Stretch}
use Rattle.rt_lines.specs.Stretches.{part}

-- PARTS

take_nothing : {A : Type 0} (n : ℕ) → [] ≡ take {A = A} n []
take_nothing zero = refl
take_nothing (suc n) = refl

-- what is behind a place of the front
drop_front : {A : Type 0} (n m : ℕ) (xs : List A) → drop n (take m xs) ≡ take (m - n) (drop n xs)
drop_front zero m xs = let e : m ≡ m - 0 = omega arith in ap (λ k. take k xs) e
drop_front (suc n) zero xs = let e : 0 ≡ 0 - suc n = omega arith in ap (λ k. take k (drop (suc n) xs)) e
drop_front (suc n) (suc m) [] = take_nothing (suc m - suc n)
drop_front (suc n) (suc m) (x ∷ xs) = let e : m - n ≡ suc m - suc n = omega arith in drop_front n m xs ∙ ap (λ k. take k (drop n xs)) e

-- what is behind a place of a part
pub drop_part : {A : Type 0} (stretch : Stretch) (xs : List A) (n : ℕ) → drop n (part stretch xs) ≡ take (stretch.end - (stretch.begin + n)) (drop (stretch.begin + n) xs)
drop_part stretch xs n =
    let rest : drop n (drop stretch.begin xs) ≡ drop (stretch.begin + n) xs = drop-drop n stretch.begin xs in
    let k : stretch.end - stretch.begin - n ≡ stretch.end - (stretch.begin + n) = omega arith in
    drop_front n (stretch.end - stretch.begin) (drop stretch.begin xs) ∙ (λ i. take (k i) (rest i))

-- a part is what is behind its beginning in the text up to its end
part_behind : {A : Type 0} (stretch : Stretch) (xs : List A) → part stretch xs ≡ drop stretch.begin (take stretch.end xs)
part_behind stretch xs = sym (drop_front stretch.begin stretch.end xs)

-- THE NEXT PLACE

-- a place where it is below another
abbrev below : ℕ → ℕ → Option ℕ
below end at = cond (nat_lt at end) (Some at) None

front_position : {A : Type 0} (test : A → Bool) (j : ℕ) (xs : List A) → position test (take j xs) ≡ option_and_then (below j) (position test xs)
front_position test zero xs = none (position test xs)
  where
    never : (k : ℕ) → nat_lt k 0 ≡ false
    never k = le-ltb k 0 (omega arith)

    none : (o : Option ℕ) → None ≡ option_and_then (below 0) o
    none None = refl
    none (Some k) = ap (λ b. cond b (Some k) None) (sym (never k))
front_position test (suc j) [] = refl
front_position test (suc j) (x ∷ xs) =
    position_cons test x (take j xs) ∙ ap (λ o. cond (test x) (Some 0) (option_map suc o)) (front_position test j xs) ∙ by (test x) (position test xs)
    ∙ ap (option_and_then (below (suc j))) (sym (position_cons test x xs))
  where
    first : nat_lt 0 (suc j) ≡ true
    first = lt-ltb 0 (suc j) (omega arith)

    more : (k : ℕ) → nat_lt (suc k) (suc j) ≡ nat_lt k j
    more k = grind (arith, nat_tests)

    step : (b : Bool) (k : ℕ) → option_map suc (cond b (Some k) None) ≡ cond b (Some (suc k)) None
    step true k = refl
    step false k = refl

    by : (b : Bool) (o : Option ℕ) → cond b (Some 0) (option_map suc (option_and_then (below j) o)) ≡ option_and_then (below (suc j)) (cond b (Some 0) (option_map suc o))
    by true o = ap (λ b. cond b (Some 0) None) (sym first)
    by false None = refl
    by false (Some k) = step (nat_lt k j) k ∙ ap (λ b. cond b (Some (suc k)) None) (sym (more k))

-- a place of the text as one of a stretch, where it is before the end of that
abbrev pub within : Stretch → ℕ → Option ℕ
within stretch at = cond (nat_lt at stretch.end) (Some (at - stretch.begin)) None

-- the next place in a part is that of the text from the same place on, where it is before the end
next_from : {A : Type 0} (test : A → Bool) (stretch : Stretch) (xs : List A) (n : ℕ) → option_and_then (within stretch) (next_place test xs (stretch.begin + n)) ≡ next_place test (part stretch xs) n
next_from test stretch xs n =
    let p = stretch.begin + n in
    by (position test (drop p xs)) ∙ ap (option_map (λ k. n + k)) (sym (front_position test (stretch.end - p) (drop p xs)) ∙ ap (position test) (sym (drop_part stretch xs n)))
  where
    same : (k : ℕ) → nat_lt (stretch.begin + n + k) stretch.end ≡ nat_lt k (stretch.end - (stretch.begin + n))
    same k = grind (arith, nat_tests)

    at : (b : Bool) (k : ℕ) → cond b (Some (stretch.begin + n + k - stretch.begin)) None ≡ option_map (λ k. n + k) (cond b (Some k) None)
    at true k = ap Some (omega arith)
    at false k = refl

    by : (o : Option ℕ) → option_and_then (within stretch) (option_map (λ k. stretch.begin + n + k) o) ≡ option_map (λ k. n + k) (option_and_then (below (stretch.end - (stretch.begin + n))) o)
    by None = refl
    by (Some k) = ap (λ b. cond b (Some (stretch.begin + n + k - stretch.begin)) None) (same k) ∙ at (nat_lt k (stretch.end - (stretch.begin + n))) k

-- also where the place is past the greatest number
pub next_in_part : {A : Type 0} (test : A → Bool) (stretch : Stretch) (xs : List A) (n from most : ℕ) → from ≡ min (stretch.begin + n) most → stretch.end ≤ most
    → option_and_then (within stretch) (next_place test xs from) ≡ next_place test (part stretch xs) n
next_in_part {A} test stretch xs n from most e few = by (cases_lt most (stretch.begin + n))
  where
    past : (p k : ℕ) → stretch.end ≤ p → nat_lt (p + k) stretch.end ≡ false
    past p k h = le-ltb (p + k) stretch.end (omega arith)

    none : (p : ℕ) (o : Option ℕ) → stretch.end ≤ p → option_and_then (within stretch) (option_map (λ k. p + k) o) ≡ None
    none p None h = refl
    none p (Some k) h = ap (λ b. cond b (Some (p + k - stretch.begin)) None) (past p k h)

    by : (most < stretch.begin + n) ⊎ (stretch.begin + n ≤ most) → option_and_then (within stretch) (next_place test xs from) ≡ next_place test (part stretch xs) n
    by (inl lt) =
        none from (position test (drop from xs)) (omega arith)
        ∙ sym (sym (next_from test stretch xs n) ∙ none (stretch.begin + n) (position test (drop (stretch.begin + n) xs)) (omega arith))
    by (inr le) = let same : from ≡ stretch.begin + n = omega arith in ap (λ k. option_and_then (within stretch) (next_place test xs k)) same ∙ next_from test stretch xs n

-- no place is found before that from which it is looked for
pub next_after : {A : Type 0} (test : A → Bool) (xs : List A) (from at : ℕ) → next_place test xs from ≡ Some at → from ≤ at
next_after test xs from at e = by (position test (drop from xs)) e
  where
    by : (o : Option ℕ) → option_map (λ k. from + k) o ≡ Some at → from ≤ at
    by None h = let bad : ⊥ = cc in absurd bad
    by (Some k) h = let q : from + k ≡ at = cc in omega arith

-- THE LAST PLACE

-- a place as one behind another
abbrev pub offset_from : ℕ → ℕ → Option ℕ
offset_from begin at = cond (nat_le begin at) (Some (at - begin)) None

last_behind : {A : Type 0} (test : A → Bool) (b : ℕ) (xs : List A) → option_and_then (offset_from b) (last_place test xs) ≡ last_place test (drop b xs)
last_behind test zero xs = by (last_place test xs)
  where
    always : (k : ℕ) → nat_le 0 k ≡ true
    always k = grind (arith, nat_tests)

    by : (o : Option ℕ) → option_and_then (offset_from 0) o ≡ o
    by None = refl
    by (Some k) = ap (λ b. cond b (Some (k - 0)) None) (always k) ∙ ap Some (omega arith)
last_behind test (suc b) [] = refl
last_behind test (suc b) (x ∷ xs) = by (test x) (last_place test xs) ∙ last_behind test b xs
  where
    more : (k : ℕ) → nat_le (suc b) (k + 1) ≡ nat_le b k
    more k = grind (arith, nat_tests)

    never : nat_le (suc b) 0 ≡ false
    never = grind (arith, nat_tests)

    by : (t : Bool) (o : Option ℕ) → option_and_then (offset_from (suc b)) (last_with t o) ≡ option_and_then (offset_from b) o
    by t (Some k) = let e : k + 1 - suc b ≡ k - b = omega arith in (λ i. cond (more k i) (Some (e i)) None)
    by true None = ap (λ c. cond c (Some (0 - suc b)) None) never
    by false None = refl

-- as the code tests it
pub checked_behind : (begin at : ℕ) (o : Option ℕ) → SomeIff o (begin ≤ at) (at - begin) → o ≡ offset_from begin at
checked_behind begin at None h = by (cases_lt at begin)
  where
    by : (at < begin) ⊎ (begin ≤ at) → None ≡ offset_from begin at
    by (inl lt) = ap (λ b. cond b (Some (at - begin)) None) (sym (lt-leb begin at lt))
    by (inr le) = absurd (h le)
checked_behind begin at (Some x) h = ap Some h.1 ∙ ap (λ b. cond b (Some (at - begin)) None) (sym (le-leb begin at h.0))

pub last_in_part : {A : Type 0} (test : A → Bool) (stretch : Stretch) (xs : List A) → option_and_then (offset_from stretch.begin) (last_place test (take stretch.end xs)) ≡ last_place test (part stretch xs)
last_in_part test stretch xs = last_behind test stretch.begin (take stretch.end xs) ∙ ap (last_place test) (sym (part_behind stretch xs))

-- the front of a front
take_front : {A : Type 0} (n m : ℕ) (xs : List A) → take n (take m xs) ≡ take (min n m) xs
take_front zero m xs = let e : 0 ≡ min 0 m = omega arith in ap (λ k. take k xs) e
take_front (suc n) zero xs = let e : 0 ≡ min (suc n) 0 = omega arith in ap (λ k. take k xs) e
take_front (suc n) (suc m) [] = take_nothing (min (suc n) (suc m))
take_front (suc n) (suc m) (x ∷ xs) = let e : suc (min n m) ≡ min (suc n) (suc m) = omega arith in ap (λ ys. x ∷ ys) (take_front n m xs) ∙ ap (λ k. take k (x ∷ xs)) e

-- the last place before one of a part is that of the part that ends there, also where the place is past the greatest number
pub last_before : {A : Type 0} (test : A → Bool) (stretch : Stretch) (xs : List A) (n from most end : ℕ) → from ≡ min (stretch.begin + n) most → stretch.end ≤ most → end ≡ min from stretch.end
    → last_place test (part (record { begin = stretch.begin; end = end }) xs) ≡ previous_place test (part stretch xs) n
last_before test stretch xs n from most end e few f =
    let size : end - stretch.begin ≡ min n (stretch.end - stretch.begin) = omega (arith, e, few, f) in
    ap (λ k. last_place test (take k (drop stretch.begin xs))) size ∙ ap (last_place test) (sym (take_front n (stretch.end - stretch.begin) (drop stretch.begin xs)))
