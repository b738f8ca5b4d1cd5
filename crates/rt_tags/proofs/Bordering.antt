-- Borders of stretches.
use Rattle.std.proofs.Common.{◌≡◌, ℕ, ◌+◌, ◌≤◌, Bool, true, false, cond, List, [], ◌∷◌, ◌++◌, length, refl, sym, ap, ◌∙◌, arith, Option, None, Some, true≢false}
use Rattle.std.specs.List.{AllByRecursion}
use Rattle.rt_tags.specs.Borders.{border, borders, either, first, last}

pub first_of : {A : Type 0} (xs ys : List A) → first (xs ++ ys) ≡ either (first xs) (first ys)
first_of [] ys = refl
first_of (x ∷ xs) ys = refl

either_or : {A : Type 0} (a b c : Option A) → either (either a b) c ≡ either a (either b c)
either_or None b c = refl
either_or (Some x) b c = refl

at_end : {A : Type 0} (a : Option A) → a ≡ either a None
at_end None = refl
at_end (Some x) = refl

-- an element before others is the last of them only if there are none
two : {A : Type 0} (o : Option A) (y x : A) → either (either o (Some y)) (Some x) ≡ either o (Some y)
two None y x = refl
two (Some z) y x = refl

pub last_of : {A : Type 0} (xs ys : List A) → last (xs ++ ys) ≡ either (last ys) (last xs)
last_of [] ys = at_end (last ys)
last_of (x ∷ xs) ys = ap (λ o. either o (Some x)) (last_of xs ys) ∙ either_or (last ys) (last xs) (Some x)

-- what stands behind an element, and what ends there
pub joined : {A : Type 0} (test : A → Bool) (xs ys : List A) → borders test (xs ++ ys) ≡ borders test xs + (border test (last xs) (first ys) + borders test ys)
joined test [] ys = omega arith
joined test (x ∷ []) ys = omega arith
joined test (x ∷ y ∷ xs) ys =
    let r : borders test ((y ∷ xs) ++ ys) ≡ borders test (y ∷ xs) + (border test (last (y ∷ xs)) (first ys) + borders test ys) = joined test (y ∷ xs) ys in
    let e : last (x ∷ y ∷ xs) ≡ last (y ∷ xs) = two (last xs) y x in
    let b : border test (last (x ∷ y ∷ xs)) (first ys) ≡ border test (last (y ∷ xs)) (first ys) = ap (λ o. border test o (first ys)) e in
    omega (arith, r, b)

abbrev differ : Bool → Bool → ℕ
differ a b = cond a (cond b 0 1) (cond b 1 0)

even : (a b : Bool) → differ a b ≡ 0 → b ≡ a
even true true e = refl
even true false e = absurd (omega (arith, e))
even false true e = absurd (omega (arith, e))
even false false e = refl

no_border : (a b : Bool) → b ≡ a → differ a b ≡ 0
no_border true true e = refl
no_border true false e = absurd (true≢false (sym e))
no_border false true e = absurd (true≢false e)
no_border false false e = refl

pub all_alike : {A : Type 0} (test : A → Bool) (b : Bool) (x : A) (xs : List A) → test x ≡ b → borders test (x ∷ xs) ≡ 0 → AllByRecursion (λ y. test y ≡ b) xs
all_alike test b x [] e z = tt
all_alike test b x (y ∷ xs) e z =
    let one : border test (Some x) (Some y) ≡ 0 = omega (arith, z) in
    let rest : borders test (y ∷ xs) ≡ 0 = omega (arith, z) in
    let same : test y ≡ b = even (test x) (test y) one ∙ e in
    (same, all_alike test b y xs same rest)

pub alike_none : {A : Type 0} (test : A → Bool) (b : Bool) (x : A) (xs : List A) → test x ≡ b → AllByRecursion (λ y. test y ≡ b) xs → borders test (x ∷ xs) ≡ 0
alike_none test b x [] e h = refl
alike_none test b x (y ∷ xs) e h =
    let one : border test (Some x) (Some y) ≡ 0 = no_border (test x) (test y) (h.0 ∙ sym e) in
    let rest : borders test (y ∷ xs) ≡ 0 = alike_none test b y xs h.0 h.1 in
    omega (arith, one, rest)

pub none_pass : {A : Type 0} (test : A → Bool) (xs : List A) → AllByRecursion (λ x. test x ≡ false) xs → borders test xs ≡ 0
none_pass test [] h = refl
none_pass test (x ∷ xs) h = alike_none test false x xs h.0 h.1

pub same_borders : {A : Type 0} (test other : A → Bool) (xs : List A) → AllByRecursion (λ x. test x ≡ other x) xs → borders test xs ≡ borders other xs
same_borders test other [] h = refl
same_borders test other (x ∷ []) h = refl
same_borders test other (x ∷ y ∷ xs) h =
    let one : border test (Some x) (Some y) ≡ border other (Some x) (Some y) = ap (λ a. differ a (test y)) h.0 ∙ ap (λ b. differ (other x) b) h.1.0 in
    let rest : borders test (y ∷ xs) ≡ borders other (y ∷ xs) = same_borders test other (y ∷ xs) h.1 in
    omega (arith, one, rest)

most_one : (a b : Bool) → differ a b ≤ 1
most_one true true = omega arith
most_one true false = omega arith
most_one false true = omega arith
most_one false false = omega arith

pub few : {A : Type 0} (test : A → Bool) (xs : List A) → borders test xs ≤ length xs
few test [] = omega arith
few test (x ∷ []) = omega arith
few test (x ∷ y ∷ xs) =
    let one : border test (Some x) (Some y) ≤ 1 = most_one (test x) (test y) in
    let rest : borders test (y ∷ xs) ≤ length (y ∷ xs) = few test (y ∷ xs) in
    omega (arith, one, rest)
