-- One cell more of a walk to the nearest place.
use Rattle.std.proofs.Common.{[], ◌≡◌, ◌+◌, ◌<◌, ◌≤◌, ◌∷◌, ◌++◌, take, drop, length, ℕ, List, zero, suc, Bool, true, false, cond, arith, refl, get_or, drop-cons, add-one, ◌∙◌, ap, Some, None, Option}
use Rattle.std.specs.Prelude.{position, option_map, nat_lt, not}
use Rattle.std.specs.List.{position_or_len}
use Rattle.std.proofs.lemmas.Bool.Decides.{nat_tests}
use Rattle.std.proofs.lemmas.List.{drop_all}
use Rattle.rt_store.specs.declared.cell.Cell.{Cell}
use Rattle.rt_store.specs.Cells.{visible_of}
use Rattle.rt_store.specs.Tagged.{next_place, previous_place, last_place, last_with}

pub rest_gone : (cells : List (Cell ℕ)) (i : ℕ) (d : Cell ℕ) → i < length cells → (get_or cells i d).gone ≡ true → visible_of (drop i cells) ≡ visible_of (drop (i + 1) cells)
rest_gone cells i d h e = rw (drop-cons cells i d, add-one, e) refl

pub rest_shown : (cells : List (Cell ℕ)) (i : ℕ) (d : Cell ℕ) → i < length cells → (get_or cells i d).gone ≡ false → visible_of (drop i cells) ≡ get_or cells i d ∷ visible_of (drop (i + 1) cells)
rest_shown cells i d h e = rw (drop-cons cells i d, add-one, e) refl

-- what follows one element of a rest
pub drop_more : {X : Type 0} (xs : List X) (n : ℕ) (x : X) (rest : List X) → drop n xs ≡ x ∷ rest → drop (suc n) xs ≡ rest
drop_more [] zero x rest h = let bad : ⊥ = cc in absurd bad
drop_more [] (suc n) x rest h = let bad : ⊥ = cc in absurd bad
drop_more (y ∷ ys) zero x rest h = cc
drop_more (y ∷ ys) (suc n) x rest h = drop_more ys n x rest h

pub take_more : {X : Type 0} (xs : List X) (n : ℕ) (x : X) (rest : List X) → drop n xs ≡ x ∷ rest → take (suc n) xs ≡ take n xs ++ x ∷ []
take_more [] zero x rest h = let bad : ⊥ = cc in absurd bad
take_more [] (suc n) x rest h = let bad : ⊥ = cc in absurd bad
take_more (y ∷ ys) zero x rest h = let same : y ≡ x = cc in ap (λ z. z ∷ []) same
take_more (y ∷ ys) (suc n) x rest h = ap (λ zs. y ∷ zs) (take_more ys n x rest h)

pub length_more : {X : Type 0} (xs : List X) (n : ℕ) (x : X) (rest : List X) → drop n xs ≡ x ∷ rest → length (take n xs) ≡ n
length_more [] zero x rest h = refl
length_more [] (suc n) x rest h = let bad : ⊥ = cc in absurd bad
length_more (y ∷ ys) zero x rest h = refl
length_more (y ∷ ys) (suc n) x rest h = ap suc (length_more ys n x rest h)

-- where nothing is left, all was taken
pub take_end : {X : Type 0} (xs : List X) (n m : ℕ) → drop n xs ≡ [] → n ≤ m → take n xs ≡ take m xs
take_end [] zero zero h k = refl
take_end [] zero (suc m) h k = refl
take_end [] (suc n) zero h k = refl
take_end [] (suc n) (suc m) h k = refl
take_end (y ∷ ys) zero m h k = let bad : ⊥ = cc in absurd bad
take_end (y ∷ ys) (suc n) zero h k = absurd (omega arith)
take_end (y ∷ ys) (suc n) (suc m) h k = ap (λ zs. y ∷ zs) (take_end ys n m h (omega arith))

pub drop_end : {X : Type 0} (xs : List X) (n m : ℕ) → drop n xs ≡ [] → n ≤ m → drop m xs ≡ []
drop_end [] n zero h k = refl
drop_end [] n (suc m) h k = refl
drop_end (y ∷ ys) zero m h k = let bad : ⊥ = cc in absurd bad
drop_end (y ∷ ys) (suc n) zero h k = absurd (omega arith)
drop_end (y ∷ ys) (suc n) (suc m) h k = drop_end ys n m h (omega arith)

-- a walk's rest, past a visible cell
pub shown_here : (cells cs : List (Cell ℕ)) (i at : ℕ) (d : Cell ℕ) → i < length cells → (get_or cells i d).gone ≡ false → drop at cs ≡ visible_of (drop i cells) → drop at cs ≡ get_or cells i d ∷ visible_of (drop (i + 1) cells)
shown_here cells cs i at d h e r = r ∙ rest_shown cells i d h e

pub shown_more : (cells cs : List (Cell ℕ)) (i at : ℕ) (d : Cell ℕ) → i < length cells → (get_or cells i d).gone ≡ false → drop at cs ≡ visible_of (drop i cells) → drop (at + 1) cs ≡ visible_of (drop (i + 1) cells)
shown_more cells cs i at d h e r =
    let next : at + 1 ≡ suc at = omega arith in
    ap (λ n. drop n cs) next ∙ drop_more cs at (get_or cells i d) (visible_of (drop (i + 1) cells)) (shown_here cells cs i at d h e r)

-- a walk's end
pub walked : (cells cs : List (Cell ℕ)) (i at : ℕ) → length cells ≤ i → drop at cs ≡ visible_of (drop i cells) → drop at cs ≡ []
walked cells cs i at h r = r ∙ ap visible_of (drop_all i cells h)

-- NEXT

-- the first that passes, of one more
pub position_cons : {A : Type 0} (test : A → Bool) (c : A) (cs : List A) → position test (c ∷ cs) ≡ cond (test c) (Some 0) (option_map suc (position test cs))
position_cons test c cs = one_more (test c) (position_or_len test cs) (length cs)
  where
    shifted : (b : Bool) (n : ℕ) → cond b (Some (1 + n)) None ≡ option_map suc (cond b (Some n) None)
    shifted true n = ap Some (omega arith)
    shifted false n = refl

    lt_more : (n m : ℕ) → nat_lt (1 + n) (suc m) ≡ nat_lt n m
    lt_more n m = grind (arith, nat_tests)

    lt_first : (m : ℕ) → nat_lt 0 (suc m) ≡ true
    lt_first m = grind (arith, nat_tests)

    one_more : (b : Bool) (n m : ℕ) → cond (nat_lt (cond (not b) (1 + n) 0) (suc m)) (Some (cond (not b) (1 + n) 0)) None ≡ cond b (Some 0) (option_map suc (cond (nat_lt n m) (Some n) None))
    one_more true n m = rw (lt_first m) refl
    one_more false n m = rw (lt_more n m) (shifted (nat_lt n m) n)

pub next_here : {A : Type 0} (test : A → Bool) (cs : List A) (at : ℕ) (c : A) (rest : List A) → drop at cs ≡ c ∷ rest → test c ≡ true → next_place test cs at ≡ Some at
next_here test cs at c rest h e = rw (h, position_cons test c rest, e) (ap Some (omega arith))

pub next_none : {A : Type 0} (test : A → Bool) (cs : List A) (at place : ℕ) → drop at cs ≡ [] → at ≤ place → next_place test cs place ≡ None
next_none test cs at place h k = rw (drop_end cs at place h k) refl

pub next_on : {A : Type 0} (test : A → Bool) (cs : List A) (at : ℕ) (c : A) (rest : List A) → drop at cs ≡ c ∷ rest → test c ≡ false → next_place test cs at ≡ next_place test cs (at + 1)
next_on test cs at c rest h e =
    let next : at + 1 ≡ suc at = omega arith in
    rw (next, drop_more cs at c rest h, h, position_cons test c rest, e) (further (position test rest))
  where
    further : (o : Option ℕ) → option_map (λ k. at + k) (option_map suc o) ≡ option_map (λ k. suc at + k) o
    further (Some n) = ap Some (omega arith)
    further None = refl

pub next_skipped : {A : Type 0} (test : A → Bool) (cs : List A) (at place : ℕ) → (place ≤ at → ⊥) → place ≤ at + 1 → next_place test cs (at + 1) ≡ next_place test cs place
next_skipped test cs at place h k = let same : at + 1 ≡ place = omega arith in ap (next_place test cs) same

-- PREVIOUS

last_push : {A : Type 0} (test : A → Bool) (cs : List A) (c : A) → last_place test (cs ++ c ∷ []) ≡ cond (test c) (Some (length cs)) (last_place test cs)
last_push test [] c = refl
last_push test (x ∷ cs) c = rw (last_push test cs c) (further (test x) (test c) (length cs) (last_place test cs))
  where
    further : (a b : Bool) (n : ℕ) (o : Option ℕ) → last_with a (cond b (Some n) o) ≡ cond b (Some (suc n)) (last_with a o)
    further a true n o = rw (add-one) refl
    further a false n o = refl

pub previous_here : {A : Type 0} (test : A → Bool) (cs : List A) (at : ℕ) (c : A) (rest : List A) → drop at cs ≡ c ∷ rest → test c ≡ true → previous_place test cs (at + 1) ≡ Some at
previous_here test cs at c rest h e = rw (add-one, take_more cs at c rest h, last_push test (take at cs) c, e, length_more cs at c rest h) refl

pub previous_on : {A : Type 0} (test : A → Bool) (cs : List A) (at : ℕ) (c : A) (rest : List A) → drop at cs ≡ c ∷ rest → test c ≡ false → previous_place test cs (at + 1) ≡ previous_place test cs at
previous_on test cs at c rest h e = rw (add-one, take_more cs at c rest h, last_push test (take at cs) c, e) refl

pub previous_end : {A : Type 0} (test : A → Bool) (cs : List A) (at place : ℕ) → drop at cs ≡ [] → at ≤ place → previous_place test cs at ≡ previous_place test cs place
previous_end test cs at place h k = ap (last_place test) (take_end cs at place h k)
