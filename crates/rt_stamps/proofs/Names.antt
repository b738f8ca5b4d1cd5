-- Words that are checked one after the other as names.
use Rattle.std.proofs.Common.{◌≡◌, ℕ, ◌+◌, ◌<◌, ◌≤◌, ◌&&◌, nat_le, List, [], ◌∷◌, String, Global, map, length, get_or, drop, true, false, refl, sym, ap, ◌∙◌, Bool, cond, All, Option, Some, None, Ok, Err, string_bytes}
use Rattle.std.proofs.lemmas.List.{drop_more, drop_all}
use Rattle.std.proofs.lemmas.List.Elements.{All-cons, All-nil}
use Rattle.std.proofs.lemmas.Bool.{leb-true}
use Rattle.rt_stamps.specs.declared.fault.Fault.{Fault}
use Rattle.rt_stamps.specs.declared.fault.Fault.TheVariants.{BadName}
use Rattle.rt_stamps.specs.declared.limits.TheConstants.{MOST_NAME_BYTES}
use Rattle.rt_stamps.specs.Names.{IsName, name_check}
use Rattle.rt_stamps.specs.Outcomes.{first_of, unless}
use Rattle.rt_stamps.specs.Words.{Word, as_words}

abbrev pub checks : List (String Global) → Option Fault
checks names = first_of (map name_check (as_words names))

-- what an answer says of the check behind it
pub none_found : (o : Option Fault) (u : Unit {0}) → unless o (tt {0}) ≡ Ok u → o ≡ None
none_found None u e = refl
none_found (Some f) u e = cc

pub some_found : (o : Option Fault) (f : Fault) → unless o (tt {0}) ≡ Err f → o ≡ Some f
some_found None f e = cc
some_found (Some g) f e = let same : g ≡ f = cc in ap (λ x. Some x) same

-- the check of the name that is next comes first
next_check : (names : List (String Global)) (i : ℕ) (name : String Global) → i < length names → name ≡ get_or names i name → checks (drop i names) ≡ first_of (name_check (string_bytes name) ∷ map name_check (as_words (drop (i + 1) names)))
next_check names i name l e =
    ap checks (drop_more names i name l) ∙ ap (λ (x : String Global). first_of (name_check (string_bytes x) ∷ map name_check (as_words (drop (i + 1) names)))) (sym e)

pub checks_more : (names : List (String Global)) (i : ℕ) (name : String Global) → i < length names → name ≡ get_or names i name → name_check (string_bytes name) ≡ None → checks (drop i names) ≡ checks names → checks (drop (i + 1) names) ≡ checks names
checks_more names i name l e n h = sym (next_check names i name l e ∙ ap (λ o. first_of (o ∷ map name_check (as_words (drop (i + 1) names)))) n) ∙ h

pub checks_stop : (names : List (String Global)) (i : ℕ) (name : String Global) (fault : Fault) → i < length names → name ≡ get_or names i name → name_check (string_bytes name) ≡ Some fault → checks (drop i names) ≡ checks names → checks names ≡ Some fault
checks_stop names i name fault l e s h = sym h ∙ next_check names i name l e ∙ ap (λ o. first_of (o ∷ map name_check (as_words (drop (i + 1) names)))) s

pub checks_end : (names : List (String Global)) (i : ℕ) → length names ≤ i → checks (drop i names) ≡ checks names → checks names ≡ None
checks_end names i l h = sym h ∙ ap checks (drop_all i names l)

-- names that are not refused are names
both_true : (a b : Bool) → cond (a && b) None (Some BadName) ≡ None → (a ≡ true) × (b ≡ true)
both_true true true h = (refl, refl)
both_true true false h = let bad : ⊥ = cc in absurd bad
both_true false b h = let bad : ⊥ = cc in absurd bad

pub named : (name : Word) → name_check name ≡ None → IsName name
named name h =
    let p = both_true (nat_le 1 (length name)) (nat_le (length name) MOST_NAME_BYTES) h in
    (leb-true 1 (length name) p.0, leb-true (length name) MOST_NAME_BYTES p.1)

pub all_named : (names : List Word) → first_of (map name_check names) ≡ None → All IsName names
all_named [] h = All-nil IsName
all_named (name ∷ names) h = step (name_check name) refl h (λ k. all_named names k)
  where
    step : (o : Option Fault) → name_check name ≡ o → first_of (o ∷ map name_check names) ≡ None → (first_of (map name_check names) ≡ None → All IsName names) → All IsName (name ∷ names)
    step None e k rest = All-cons IsName name names (named name e) (rest k)
    step (Some fault) e k rest = let bad : ⊥ = cc in absurd bad
