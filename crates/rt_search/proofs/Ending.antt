-- Which of the matches that are taken can overlap one that a search comes to.
use Rattle.std.proofs.Common.{◌≡◌, ◌+◌, ◌-◌, ◌<◌, ◌≤◌, ◌∷◌, ◌++◌, [], ℕ, zero, suc, Bool, true, false, ◌||◌, List, length, arith, sym, ap, subst, ◌∙◌, refl, append_assoc, length-append}
use Rattle.std.specs.Prelude.{slice_get, Option, Some, None}
use Rattle.std.specs.List.{list_any}
use Rattle.std.proofs.lemmas.Bool.Decides.{nat_tests}
use Rattle.std.proofs.lemmas.List.{append-nil}
use Rattle.std.proofs.lemmas.List.Folds.{list_any-append}
use Rattle.std.proofs.lemmas.Option.{slice_get_within}
use Rattle.rt_search.specs.declared.search.Direction.{Direction}
use Rattle.rt_search.specs.declared.search.Direction.TheVariants.{Forwards, Backwards}
use Rattle.rt_lines.specs.declared.stretch.Stretch.{Stretch}
use Rattle.rt_search.specs.Ends.{EndsDecide, FirstDecides, IsBefore, overlaps_first, overlaps_last, overlaps_one}
use Rattle.rt_search.specs.Searches.{overlap}

-- a search comes to one place before another, in one stretch
abbrev pub Precedes : Direction → ℕ → ℕ → Type 0
Precedes Forwards a b = a < b
Precedes Backwards a b = b < a

-- the places that are left of a stretch after so many
abbrev pub IsLeft : Direction → Stretch → ℕ → ℕ → Type 0
IsLeft Forwards stretch index place = (stretch.begin + index ≤ place) × (place < stretch.end)
IsLeft Backwards stretch index place = (stretch.begin ≤ place) × (place + index < stretch.end)

-- BOOLEANS

same_by : (a b : Bool) → (a ≡ true → b ≡ true) → (b ≡ true → a ≡ true) → a ≡ b
same_by true b f g = sym (f refl)
same_by false true f g = g refl
same_by false false f g = refl

or_left : (a b : Bool) → a ≡ true → (a || b) ≡ true
or_left a b h = rw h refl

or_right : (a b : Bool) → b ≡ true → (a || b) ≡ true
or_right true b h = refl
or_right false b h = h

or_cases : (a b c : Bool) → (a || b) ≡ true → (a ≡ true → c ≡ true) → (b ≡ true → c ≡ true) → c ≡ true
or_cases true b c h f g = f refl
or_cases false b c h f g = g h

-- MATCHES BETWEEN

-- a match that overlaps one overlaps each between
between_up : (m p x z : ℕ) → x < z → z < p → overlap m p x ≡ true → overlap m p z ≡ true
between_up m p x z h k e = grind (arith, nat_tests)

between_down : (m p x z : ℕ) → p < z → z < x → overlap m p x ≡ true → overlap m p z ≡ true
between_down m p x z h k e = grind (arith, nat_tests)

pub later : (d : Direction) (m p x z : ℕ) → Precedes d x z → Precedes d z p → overlap m p x ≡ true → overlap m p z ≡ true
later Forwards m p x z h k e = between_up m p x z h k e
later Backwards m p x z h k e = between_down m p x z k h e

pub earlier : (d : Direction) (m p x z : ℕ) → Precedes d p z → Precedes d z x → overlap m p x ≡ true → overlap m p z ≡ true
earlier Forwards m p x z h k e = between_down m p x z h k e
earlier Backwards m p x z h k e = between_up m p x z k h e

-- THE ENDS OF LISTS

shift : (xs ys : List ℕ) (k n : ℕ) → n ≡ length xs + k → slice_get (xs ++ ys) n ≡ slice_get ys k
shift [] ys k n e = let same : n ≡ k = omega arith in ap (slice_get ys) same
shift (x ∷ xs) ys k zero e = absurd (omega arith)
shift (x ∷ xs) ys k (suc n) e = shift xs ys k n (omega arith)

last_append : (xs ys : List ℕ) (z : ℕ) → slice_get ys (length ys - 1) ≡ Some z → slice_get (xs ++ ys) (length (xs ++ ys) - 1) ≡ Some z
last_append xs ys z e =
    let some : length ys - 1 < length ys = slice_get_within ys (length ys - 1) z e in
    let all : length (xs ++ ys) ≡ length xs + length ys = length-append xs ys in
    let at : length (xs ++ ys) - 1 ≡ length xs + (length ys - 1) = omega arith in
    shift xs ys (length ys - 1) (length (xs ++ ys) - 1) at ∙ e

last_push : (xs : List ℕ) (x : ℕ) → slice_get (xs ++ x ∷ []) (length (xs ++ x ∷ []) - 1) ≡ Some x
last_push xs x = last_append xs (x ∷ []) x refl

first_append : (xs ys : List ℕ) (z : ℕ) → slice_get xs 0 ≡ Some z → slice_get (xs ++ ys) 0 ≡ Some z
first_append [] ys z e = let bad : ⊥ = cc in absurd bad
first_append (x ∷ xs) ys z e = e

any_at : (test : ℕ → Bool) (xs : List ℕ) (k x : ℕ) → slice_get xs k ≡ Some x → test x ≡ true → list_any test xs ≡ true
any_at test [] k x e t = let bad : ⊥ = cc in absurd bad
any_at test (y ∷ xs) zero x e t = let same : y ≡ x = cc in or_left (test y) (list_any test xs) (ap test same ∙ t)
any_at test (y ∷ xs) (suc k) x e t = or_right (test y) (list_any test xs) (any_at test xs k x e t)

one_of : (m p k : ℕ) (xs : List ℕ) (o : Option ℕ) → slice_get xs k ≡ o → overlaps_one m o p ≡ true → list_any (overlap m p) xs ≡ true
one_of m p k xs None e t = let bad : ⊥ = cc in absurd bad
one_of m p k xs (Some x) e t = any_at (overlap m p) xs k x e t

keeps_first : (m p : ℕ) (xs ys : List ℕ) (o : Option ℕ) → slice_get xs 0 ≡ o → overlaps_one m o p ≡ true → overlaps_first m (xs ++ ys) p ≡ true
keeps_first m p xs ys None e t = let bad : ⊥ = cc in absurd bad
keeps_first m p xs ys (Some x) e t = rw (first_append xs ys x e) t

keeps_last : (m p : ℕ) (xs ys : List ℕ) (o : Option ℕ) → slice_get ys (length ys - 1) ≡ o → overlaps_one m o p ≡ true → overlaps_last m (xs ++ ys) p ≡ true
keeps_last m p xs ys None e t = let bad : ⊥ = cc in absurd bad
keeps_last m p xs ys (Some x) e t = rw (last_append xs ys x e) t

-- TAKING

-- what is so of the matches that were taken in the first so many places of a stretch, behind those of another one
pub record Taking (d : Direction) (s : Stretch) (m : ℕ) (old : List ℕ) (index : ℕ) (taken : List ℕ) : Type 0 where
  pub new : List ℕ
  pub split : taken ≡ old ++ new
  pub last_decides : (p : ℕ) → IsLeft d s index p → list_any (overlap m p) new ≡ overlaps_last m new p
  pub first_decides : (p : ℕ) → IsBefore d s p → FirstDecides m new p
  pub last_before : (p q : ℕ) → IsLeft d s index p → slice_get new (length new - 1) ≡ Some q → Precedes d q p
  pub first_before : (p q : ℕ) → IsLeft d s index p → slice_get new 0 ≡ Some q → Precedes d q p
  pub first_within : (q : ℕ) → slice_get new 0 ≡ Some q → (s.begin ≤ q) × (q < s.end)

nil_right : (xs : List ℕ) → xs ≡ xs ++ []
nil_right xs = sym (append-nil xs)

pub taking_none : (d : Direction) (s : Stretch) (m : ℕ) (old : List ℕ) → Taking d s m old 0 old
taking_none d s m old = record {
  new = [];
  split = nil_right old;
  last_decides = λ p h. refl;
  first_decides = λ p h. refl;
  last_before = λ p q h e. let bad : ⊥ = cc in absurd bad;
  first_before = λ p q h e. let bad : ⊥ = cc in absurd bad;
  first_within = λ q e. let bad : ⊥ = cc in absurd bad;
}

fewer : (d : Direction) (s : Stretch) (i p : ℕ) → IsLeft d s (i + 1) p → IsLeft d s i p
fewer Forwards s i p h = let a = h.0 in let b = h.1 in (omega arith, b)
fewer Backwards s i p h = let a = h.0 in let b = h.1 in (a, omega arith)

later_left : (d : Direction) (s : Stretch) (i n p : ℕ) → i ≤ n → IsLeft d s n p → IsLeft d s i p
later_left Forwards s i n p e h = let a = h.0 in let b = h.1 in (omega arith, b)
later_left Backwards s i n p e h = let a = h.0 in let b = h.1 in (a, omega arith)

-- later places, of which none is taken
pub taking_on : (d : Direction) (s : Stretch) (m : ℕ) (old : List ℕ) (i n : ℕ) (taken : List ℕ) → i ≤ n → Taking d s m old i taken → Taking d s m old n taken
taking_on d s m old i n taken e t = record {
  new = t.new;
  split = t.split;
  last_decides = λ p h. t.last_decides p (later_left d s i n p e h);
  first_decides = t.first_decides;
  last_before = λ p q h w. t.last_before p q (later_left d s i n p e h) w;
  first_before = λ p q h w. t.first_before p q (later_left d s i n p e h) w;
  first_within = t.first_within;
}

-- the place after so many
abbrev pub IsAt : Direction → Stretch → ℕ → ℕ → Type 0
IsAt Forwards s i p = (p ≡ s.begin + i) × (p < s.end)
IsAt Backwards s i p = (p + i + 1 ≡ s.end) × (s.begin ≤ p)

pub at_left : (d : Direction) (s : Stretch) (i p : ℕ) → IsAt d s i p → IsLeft d s i p
at_left Forwards s i p h = let a = h.0 in let b = h.1 in (omega arith, b)
at_left Backwards s i p h = let a = h.0 in let b = h.1 in (b, omega arith)

at_within : (d : Direction) (s : Stretch) (i p : ℕ) → IsAt d s i p → (s.begin ≤ p) × (p < s.end)
at_within Forwards s i p h = let a = h.0 in let b = h.1 in (omega arith, b)
at_within Backwards s i p h = let a = h.0 in let b = h.1 in (b, omega arith)

next : (d : Direction) (s : Stretch) (i p q : ℕ) → IsAt d s i q → IsLeft d s (i + 1) p → Precedes d q p
next Forwards s i p q h k = let a = h.0 in let b = k.0 in omega arith
next Backwards s i p q h k = let a = h.0 in let b = k.1 in omega arith

before_all : (d : Direction) (s : Stretch) (p q : ℕ) → IsBefore d s p → (s.begin ≤ q) × (q < s.end) → Precedes d p q
before_all Forwards s p q h k = let a = k.0 in omega arith
before_all Backwards s p q h k = let a = k.1 in omega arith

by_last : (d : Direction) (m p q : ℕ) (o : Option ℕ) → ((x : ℕ) → o ≡ Some x → Precedes d x q) → Precedes d q p → overlaps_one m o p ≡ true → overlap m p q ≡ true
by_last d m p q None f h t = let bad : ⊥ = cc in absurd bad
by_last d m p q (Some x) f h t = later d m p x q (f x refl) h t

by_first : (d : Direction) (m p q : ℕ) (xs : List ℕ) (o : Option ℕ) → slice_get xs 0 ≡ o → ((x : ℕ) → slice_get xs 0 ≡ Some x → Precedes d x q) → ((x : ℕ) → slice_get xs 0 ≡ Some x → Precedes d p x)
    → list_any (overlap m p) xs ≡ overlaps_first m xs p → (list_any (overlap m p) xs || (overlap m p q || false)) ≡ overlaps_first m (xs ++ q ∷ []) p
by_first d m p q [] o e f g t = or_false (overlap m p q)
  where
    or_false : (b : Bool) → (b || false) ≡ b
    or_false true = refl
    or_false false = refl
by_first d m p q (x ∷ xs) o e f g t = rw t (swapped (overlap m p x) (overlap m p q) (λ h. earlier d m p q x (g x refl) (f x refl) h))
  where
    swapped : (a b : Bool) → (b ≡ true → a ≡ true) → (a || (b || false)) ≡ a
    swapped true b f = refl
    swapped false true f = sym (f refl)
    swapped false false f = refl

pub taking_push : (d : Direction) (s : Stretch) (m : ℕ) (old : List ℕ) (i : ℕ) (taken : List ℕ) (q : ℕ) → IsAt d s i q → Taking d s m old i taken
    → Taking d s m old (i + 1) (taken ++ q ∷ [])
taking_push d s m old i taken q at t = record {
  new = t.new ++ q ∷ [];
  split = ap (λ xs. xs ++ q ∷ []) t.split ∙ append_assoc old t.new (q ∷ []);
  last_decides = λ p h.
      list_any-append (overlap m p) t.new (q ∷ [])
      ∙ ap (λ b. b || (overlap m p q || false)) (t.last_decides p (fewer d s i p h))
      ∙ absorbs_false (overlaps_last m t.new p) (overlap m p q)
      (by_last d m p q (slice_get t.new (length t.new - 1)) (λ x e. t.last_before q x (at_left d s i q at) e) (next d s i p q at h))
      ∙ sym (ap (λ o. overlaps_one m o p) (last_push t.new q));
  first_decides = λ p h.
      list_any-append (overlap m p) t.new (q ∷ [])
      ∙ by_first d m p q t.new (slice_get t.new 0) refl (λ x e. t.first_before q x (at_left d s i q at) e) (λ x e. before_all d s p x h (t.first_within x e)) (t.first_decides p h);
  last_before = λ p x h e. let same : q ≡ x = some_same (sym (last_push t.new q) ∙ e) in subst (λ (y : ℕ). Precedes d y p) same (next d s i p q at h);
  first_before = λ p x h e. first_of_push t.new x e (λ same. subst (λ (y : ℕ). Precedes d y p) same (next d s i p q at h)) (λ w. t.first_before p x (fewer d s i p h) w);
  first_within = λ x e. first_of_push t.new x e (λ same. subst (λ (y : ℕ). (s.begin ≤ y) × (y < s.end)) same (at_within d s i q at)) (λ w. t.first_within x w);
}
  where
    absorbs_false : (a b : Bool) → (a ≡ true → b ≡ true) → (a || (b || false)) ≡ b
    absorbs_false true b f = sym (f refl)
    absorbs_false false true f = refl
    absorbs_false false false f = refl

    some_same : {x y : ℕ} → Some x ≡ Some y → x ≡ y
    some_same e = cc

    first_of_push : {P : Type 0} (xs : List ℕ) (x : ℕ) → slice_get (xs ++ q ∷ []) 0 ≡ Some x → (q ≡ x → P) → (slice_get xs 0 ≡ Some x → P) → P
    first_of_push [] x e f g = f (some_same e)
    first_of_push (y ∷ xs) x e f g = g e

pub taking_ends : (d : Direction) (s : Stretch) (m : ℕ) (old : List ℕ) (i : ℕ) (taken : List ℕ) (p : ℕ) → Taking d s m old i taken → FirstDecides m old p → IsLeft d s i p
    → EndsDecide m taken p
taking_ends d s m old i taken p t e h =
    same_by (list_any (overlap m p) taken) (overlaps_first m taken p || overlaps_last m taken p)
    (λ w. complete (ap (list_any (overlap m p)) (sym t.split) ∙ w))
    (λ w. or_cases (overlaps_first m taken p) (overlaps_last m taken p) (list_any (overlap m p) taken) w
    (λ v. one_of m p 0 taken (slice_get taken 0) refl v)
    (λ v. one_of m p (length taken - 1) taken (slice_get taken (length taken - 1)) refl v))
  where
    complete : list_any (overlap m p) (old ++ t.new) ≡ true → (overlaps_first m taken p || overlaps_last m taken p) ≡ true
    complete w = or_cases (list_any (overlap m p) old) (list_any (overlap m p) t.new) (overlaps_first m taken p || overlaps_last m taken p) (sym (list_any-append (overlap m p) old t.new) ∙ w)
        (λ v. or_left (overlaps_first m taken p) (overlaps_last m taken p)
        (ap (λ xs. overlaps_first m xs p) t.split ∙ keeps_first m p old t.new (slice_get old 0) refl (sym e ∙ v)))
        (λ v. or_right (overlaps_first m taken p) (overlaps_last m taken p)
        (ap (λ xs. overlaps_last m xs p) t.split ∙ keeps_last m p old t.new (slice_get t.new (length t.new - 1)) refl (sym (t.last_decides p h) ∙ v)))

pub taking_first : (d : Direction) (s : Stretch) (m : ℕ) (old : List ℕ) (i : ℕ) (taken : List ℕ) → Taking d s m old i taken → old ≡ [] → (p : ℕ) → IsBefore d s p → FirstDecides m taken p
taking_first d s m old i taken t e p h =
    let same : t.new ≡ taken = sym (t.split ∙ ap (λ xs. xs ++ t.new) e) in
    subst (λ (xs : List ℕ). FirstDecides m xs p) same (t.first_decides p h)
