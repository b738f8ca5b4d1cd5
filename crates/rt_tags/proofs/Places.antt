-- Names that are taken out of a list and put in again.
use Rattle.std.proofs.Common.{◌≡◌, ℕ, zero, suc, ◌+◌, ◌-◌, ◌<◌, ◌≤◌, ◌||◌, length, arith, List, [], ◌∷◌, ◌++◌, true, false, not, refl, sym, ap, ◌∙◌, Bool, cond, subst, remove, insert, slice_get, Some, None}
use Rattle.std.specs.Option.{option_map_or}
use Rattle.std.specs.Str.{bytes_eq}
use Rattle.std.proofs.lemmas.Slice.Eq.{bytes_eq-Decides}
use Rattle.std.proofs.lemmas.List.Edits.{length-remove}
use Rattle.indexmap.specs.IndexSet.{move_index}
use Rattle.rt_tags.specs.Tags.{HaveNoRepeats, is_listed, without, just_above, just_below, raised, lowered}
use Rattle.rt_tags.specs.Seen.{IsAt}

pub split : {A : Type 0} (b : Bool) → (b ≡ true → A) → (b ≡ false → A) → A
split true f g = f refl
split false f g = g refl

abbrev Holds : Bool → Type 0
Holds true = Unit {0}
Holds false = ⊥

pub clash : (b : Bool) → b ≡ true → b ≡ false → ⊥
clash b h k = subst Holds (sym h ∙ k) tt

pub same_name : (xs ys : List ℕ) → bytes_eq xs ys ≡ true → xs ≡ ys
same_name xs ys h = (bytes_eq-Decides xs ys).0 h

pub name_itself : (xs : List ℕ) → bytes_eq xs xs ≡ true
name_itself xs = (bytes_eq-Decides xs xs).1 refl

-- LISTED

pub listed_head : (name x : List ℕ) (names : List (List ℕ)) → is_listed name (x ∷ names) ≡ false → bytes_eq name x ≡ false
listed_head name x names h =
    split (bytes_eq name x)
    (λ t. let k : is_listed name (x ∷ names) ≡ true = ap (λ b. b || is_listed name names) t in absurd (clash (is_listed name (x ∷ names)) k h))
    (λ f. f)

pub listed_tail : (name x : List ℕ) (names : List (List ℕ)) → is_listed name (x ∷ names) ≡ false → is_listed name names ≡ false
listed_tail name x names h = sym (ap (λ b. b || is_listed name names) (listed_head name x names h)) ∙ h

pub listed_at : (name : List ℕ) (names : List (List ℕ)) (i : ℕ) → IsAt name names i → is_listed name names ≡ true
listed_at name [] i h = absurd h
listed_at name (x ∷ names) zero h = ap (λ b. b || is_listed name names) h
listed_at name (x ∷ names) (suc i) h = ap (λ b. b || is_listed name names) h.0 ∙ listed_at name names i h.1

pub at_within : (name : List ℕ) (names : List (List ℕ)) (i : ℕ) → IsAt name names i → i < length names
at_within name [] i h = absurd h
at_within name (x ∷ names) zero h = omega arith
at_within name (x ∷ names) (suc i) h = omega (arith, at_within name names i h.1)

-- WITHOUT A NAME

pub without_absent : (name : List ℕ) (names : List (List ℕ)) → is_listed name names ≡ false → without name names ≡ names
without_absent name [] h = refl
without_absent name (x ∷ names) h =
    ap (λ b. cond (not b) (x ∷ without name names) (without name names)) (listed_head name x names h)
    ∙ ap (λ v. x ∷ v) (without_absent name names (listed_tail name x names h))

pub removed : (name : List ℕ) (names : List (List ℕ)) (i : ℕ) → HaveNoRepeats names → IsAt name names i → remove names i ≡ without name names
removed name [] i h k = absurd k
removed name (x ∷ names) zero h k =
    let absent : is_listed name names ≡ false = subst (λ v. is_listed v names ≡ false) (sym (same_name name x k)) h.0 in
    sym (ap (λ b. cond (not b) (x ∷ without name names) (without name names)) k ∙ without_absent name names absent)
removed name (x ∷ names) (suc i) h k =
    ap (λ v. x ∷ v) (removed name names i h.1 k.1)
    ∙ sym (ap (λ b. cond (not b) (x ∷ without name names) (without name names)) k.0)

pub got : (name : List ℕ) (names : List (List ℕ)) (i : ℕ) → IsAt name names i → slice_get names i ≡ Some name
got name [] i k = absurd k
got name (x ∷ names) zero k = ap (λ v. Some v) (sym (same_name name x k))
got name (x ∷ names) (suc i) k = got name names i k.1

-- PUT IN

pub put_above : (name other : List ℕ) (names : List (List ℕ)) (i : ℕ) → IsAt other names i → insert names (suc i) name ≡ just_above name other names
put_above name other [] i k = absurd k
put_above name other (x ∷ names) zero k = sym (ap (λ b. cond b (x ∷ name ∷ names) (x ∷ just_above name other names)) k)
put_above name other (x ∷ names) (suc i) k =
    ap (λ v. x ∷ v) (put_above name other names i k.1)
    ∙ sym (ap (λ b. cond b (x ∷ name ∷ names) (x ∷ just_above name other names)) k.0)

pub put_below : (name other : List ℕ) (names : List (List ℕ)) (i : ℕ) → IsAt other names i → insert names i name ≡ just_below name other names
put_below name other [] i k = absurd k
put_below name other (x ∷ names) zero k = sym (ap (λ b. cond b (name ∷ x ∷ names) (x ∷ just_below name other names)) k)
put_below name other (x ∷ names) (suc i) k =
    ap (λ v. x ∷ v) (put_below name other names i k.1)
    ∙ sym (ap (λ b. cond b (name ∷ x ∷ names) (x ∷ just_below name other names)) k.0)

put_last : (name : List ℕ) (names : List (List ℕ)) (n : ℕ) → n ≡ length names → insert names n name ≡ names ++ name ∷ []
put_last name [] zero e = refl
put_last name [] (suc n) e = absurd (omega (arith, e))
put_last name (x ∷ names) zero e = absurd (omega (arith, e))
put_last name (x ∷ names) (suc n) e = ap (λ v. x ∷ v) (put_last name names n (omega (arith, e)))

-- AFTER A REMOVAL

at_behind : (other : List ℕ) (names : List (List ℕ)) (i j : ℕ) → i ≤ j → IsAt other names (suc j) → IsAt other (remove names i) j
at_behind other [] i j h k = absurd k
at_behind other (x ∷ names) zero j h k = k.1
at_behind other (x ∷ names) (suc i) zero h k = absurd (omega (arith, h))
at_behind other (x ∷ names) (suc i) (suc j) h k = (k.0, at_behind other names i j (omega (arith, h)) k.1)

at_before : (other : List ℕ) (names : List (List ℕ)) (i j : ℕ) → j < i → IsAt other names j → IsAt other (remove names i) j
at_before other [] i j h k = absurd k
at_before other (x ∷ names) zero j h k = absurd (omega (arith, h))
at_before other (x ∷ names) (suc i) zero h k = k
at_before other (x ∷ names) (suc i) (suc j) h k = (k.0, at_before other names i j (omega (arith, h)) k.1)

-- two names that stand at one index are one
at_one : (name other : List ℕ) (names : List (List ℕ)) (i : ℕ) → IsAt name names i → IsAt other names i → name ≡ other
at_one name other [] i h k = absurd h
at_one name other (x ∷ names) zero h k = same_name name x h ∙ sym (same_name other x k)
at_one name other (x ∷ names) (suc i) h k = at_one name other names i h.1 k.1

-- a name stands at one index
at_same : (name : List ℕ) (names : List (List ℕ)) (i j : ℕ) → IsAt name names i → IsAt name names j → i ≡ j
at_same name [] i j h k = absurd h
at_same name (x ∷ names) zero zero h k = refl
at_same name (x ∷ names) zero (suc j) h k = absurd (clash (bytes_eq name x) h k.0)
at_same name (x ∷ names) (suc i) zero h k = absurd (clash (bytes_eq name x) k h.0)
at_same name (x ∷ names) (suc i) (suc j) h k = ap (λ v. suc v) (at_same name names i j h.1 k.1)

names_differ : (name other : List ℕ) (names : List (List ℕ)) (i j : ℕ) → IsAt name names i → IsAt other names j → (i ≡ j → ⊥) → bytes_eq name other ≡ false
names_differ name other names i j h k apart =
    split (bytes_eq name other)
    (λ t. absurd (apart (at_same other names i j (subst (λ v. IsAt v names i) (same_name name other t) h) k)))
    (λ f. f)

-- MOVES

moved : (name : List ℕ) (names : List (List ℕ)) (i to : ℕ) → HaveNoRepeats names → IsAt name names i → move_index names i to ≡ insert (without name names) to name
moved name names i to h k =
    ap (λ o. option_map_or (λ x. insert (remove names i) to x) o names) (got name names i k)
    ∙ ap (λ v. insert v to name) (removed name names i h k)

pub moved_highest : (name : List ℕ) (names : List (List ℕ)) (i to : ℕ) → HaveNoRepeats names → IsAt name names i → to ≡ length names - 1 → move_index names i to ≡ raised name None names
moved_highest name names i to h k e =
    let less = length-remove names i (at_within name names i k) in
    let last : to ≡ length (remove names i) = omega (arith, e, less) in
    moved name names i to h k ∙ put_last name (without name names) to (last ∙ ap (λ v. length v) (removed name names i h k))

pub moved_lowest : (name : List ℕ) (names : List (List ℕ)) (i : ℕ) → HaveNoRepeats names → IsAt name names i → move_index names i 0 ≡ lowered name None names
moved_lowest name names i h k = moved name names i 0 h k

module _ (name other : List ℕ) (names : List (List ℕ)) (own : HaveNoRepeats names) where
  above_it : bytes_eq name other ≡ false → just_above name other (without name names) ≡ raised name (Some other) names
  above_it f = sym (ap (λ b. cond b names (just_above name other (without name names))) f)

  below_it : bytes_eq name other ≡ false → just_below name other (without name names) ≡ lowered name (Some other) names
  below_it f = sym (ap (λ b. cond b names (just_below name other (without name names))) f)

  behind : (i j : ℕ) → i ≤ j → IsAt name names i → IsAt other names (suc j) → IsAt other (without name names) j
  behind i j h a b = subst (λ v. IsAt other v j) (removed name names i own a) (at_behind other names i j h b)

  before : (i j : ℕ) → j < i → IsAt name names i → IsAt other names j → IsAt other (without name names) j
  before i j h a b = subst (λ v. IsAt other v j) (removed name names i own a) (at_before other names i j h b)

  pub raised_itself : (i j : ℕ) → i ≡ j → IsAt name names i → IsAt other names j → names ≡ raised name (Some other) names
  raised_itself i j e a b =
      let one = at_one name other names j (subst (λ v. IsAt name names v) e a) b in
      sym (ap (λ b. cond b names (just_above name other (without name names))) ((bytes_eq-Decides name other).1 one))

  pub lowered_itself : (i j : ℕ) → i ≡ j → IsAt name names i → IsAt other names j → names ≡ lowered name (Some other) names
  lowered_itself i j e a b =
      let one = at_one name other names j (subst (λ v. IsAt name names v) e a) b in
      sym (ap (λ b. cond b names (just_below name other (without name names))) ((bytes_eq-Decides name other).1 one))

  pub raised_up : (i j : ℕ) → i < j → IsAt name names i → IsAt other names j → move_index names i j ≡ raised name (Some other) names
  raised_up i zero h a b = absurd (omega (arith, h))
  raised_up i (suc j) h a b =
      moved name names i (suc j) own a ∙ put_above name other (without name names) j (behind i j (omega (arith, h)) a b)
      ∙ above_it (names_differ name other names i (suc j) a b (λ e. omega (arith, h, e)))

  pub raised_down : (i j : ℕ) → j < i → IsAt name names i → IsAt other names j → move_index names i (j + 1) ≡ raised name (Some other) names
  raised_down i j h a b =
      let next : j + 1 ≡ suc j = omega arith in
      ap (λ to. move_index names i to) next ∙ moved name names i (suc j) own a ∙ put_above name other (without name names) j (before i j h a b)
      ∙ above_it (names_differ name other names i j a b (λ e. omega (arith, h, e)))

  pub lowered_up : (i j : ℕ) → i < j → IsAt name names i → IsAt other names j → move_index names i (j - 1) ≡ lowered name (Some other) names
  lowered_up i zero h a b = absurd (omega (arith, h))
  lowered_up i (suc j) h a b =
      let next : suc j - 1 ≡ j = omega arith in
      ap (λ to. move_index names i to) next ∙ moved name names i j own a ∙ put_below name other (without name names) j (behind i j (omega (arith, h)) a b)
      ∙ below_it (names_differ name other names i (suc j) a b (λ e. omega (arith, h, e)))

  pub lowered_down : (i j : ℕ) → j < i → IsAt name names i → IsAt other names j → move_index names i j ≡ lowered name (Some other) names
  lowered_down i j h a b =
      moved name names i j own a ∙ put_below name other (without name names) j (before i j h a b)
      ∙ below_it (names_differ name other names i j a b (λ e. omega (arith, h, e)))
