-- What the calls of a table make of its names.
use Rattle.std.proofs.Common.{◌≡◌, ℕ, List, [], ◌∷◌, ◌++◌, ◌||◌, Bool, true, false, refl, sym, ap, subst, ◌∙◌, take}
use Rattle.std.specs.Str.{bytes_eq}
use Rattle.std.proofs.lemmas.List.{take-append-le}
use Rattle.std.proofs.lemmas.List.Folds.{list_any-append}
use Rattle.rt_tags.specs.Tags.{Tags, AlsoReady, SameReady, is_listed, with_name}
use Rattle.rt_tags.specs.Kept.{IsListing}
use Rattle.rt_tags.specs.Seen.{IsAt}
use Rattle.rt_tags.proofs.Places.{same_name, split}

abbrev pub tags_of : List (List ℕ) → ℕ → Tags
tags_of names listed = record { names = take listed names; ready = names }

-- one more name behind the others
also_behind : (name : List ℕ) (names : List (List ℕ)) (q : List ℕ) → is_listed q (names ++ name ∷ []) ≡ (bytes_eq q name || is_listed q names)
also_behind name names q = list_any-append (bytes_eq q) names (name ∷ []) ∙ swapped (is_listed q names) (bytes_eq q name)
  where
    swapped : (a b : Bool) → (a || (b || false)) ≡ (b || a)
    swapped true true = refl
    swapped true false = refl
    swapped false true = refl
    swapped false false = refl

-- a name that is there already
also_there : (name : List ℕ) (names : List (List ℕ)) → is_listed name names ≡ true → (q : List ℕ) → is_listed q names ≡ (bytes_eq q name || is_listed q names)
also_there name names h q =
    split (bytes_eq q name)
    (λ t. subst (λ r. is_listed r names ≡ true) (sym (same_name q name t)) h ∙ sym (ap (λ b. b || is_listed q names) t))
    (λ f. sym (ap (λ b. b || is_listed q names) f))

module _ (name : List ℕ) (names : List (List ℕ)) (listed : ℕ) (tags : Tags) (is : tags_of names listed ≡ tags) where
  pub ready_there : (after : List (List ℕ)) (n : ℕ) → is_listed name names ≡ true → ((q : List ℕ) → is_listed q after ≡ is_listed q names) → AlsoReady name tags (tags_of after n)
  ready_there after n h f = subst (λ (t : Tags). AlsoReady name t (tags_of after n)) is (λ q. f q ∙ also_there name names h q)

  pub ready_itself : is_listed name names ≡ true → AlsoReady name tags tags
  ready_itself h = subst (λ (t : Tags). AlsoReady name t t) is (also_there name names h)

  pub ready_new : (longer after : List (List ℕ)) (n : ℕ) → longer ≡ names ++ name ∷ [] → ((q : List ℕ) → is_listed q after ≡ is_listed q longer) → AlsoReady name tags (tags_of after n)
  ready_new longer after n l f = subst (λ (t : Tags). AlsoReady name t (tags_of after n)) is (λ q. f q ∙ ap (is_listed q) l ∙ also_behind name names q)

  pub ready_same : (after : List (List ℕ)) (n : ℕ) → ((q : List ℕ) → is_listed q after ≡ is_listed q names) → SameReady tags (tags_of after n)
  ready_same after n f = subst (λ (t : Tags). SameReady t (tags_of after n)) is f

  pub front_stays : (longer : List (List ℕ)) → IsListing names listed → longer ≡ names ++ name ∷ [] → take listed longer ≡ tags.names
  front_stays longer k l = ap (take listed) l ∙ take-append-le listed names (name ∷ []) k.within ∙ ap (λ (t : Tags). t.names) is

  pub listing_longer : (longer : List (List ℕ)) (n : ℕ) (after : List (List ℕ)) → IsListing names listed → longer ≡ names ++ name ∷ [] → take n after ≡ with_name name (take listed longer) → take n after ≡ with_name name tags.names
  listing_longer longer n after k l e = e ∙ ap (with_name name) (front_stays longer k l)

  pub at_front : (i : ℕ) → IsAt name tags.names i → IsAt name (take listed names) i
  at_front i h = subst (λ (t : Tags). IsAt name t.names i) (sym is) h
