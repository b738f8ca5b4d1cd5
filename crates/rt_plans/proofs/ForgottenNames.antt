-- Names that are forgotten one after the other, and those that are left of them all.
use Rattle.std.proofs.Common.{◌≡◌, ◌||◌, ◌&&◌, ◌∷◌, [], List, Bool, true, false, not, refl, sym, ap, ◌∙◌, cond, filter, subst}
use Rattle.std.specs.Prelude.{if◌then◌else◌}
use Rattle.std.specs.Str.{bytes_eq}
use Rattle.rt_stamps.specs.Words.{Word}
use Rattle.rt_tags.specs.Tags.{is_forgotten, is_listed, all_forgotten, sel, without}
use Rattle.rt_tags.proofs.Places.{clash, name_itself, same_name, split}

-- the names but those that are forgotten one after the other: sel stays
abbrev pub forgotten_in_turn : List Word → List Word → List Word
forgotten_in_turn [] names = names
forgotten_in_turn (name ∷ given) names = forgotten_in_turn given (if bytes_eq name sel then names else without name names)

both : (p q r : Word → Bool) → ((x : Word) → r x ≡ (q x && p x)) → (xs : List Word) → filter p (filter q xs) ≡ filter r xs
both p q r e [] = refl
both p q r e (x ∷ xs) =
    split (q x)
    (λ t. let same : r x ≡ p x = e x ∙ ap (λ b. b && p x) t in
    ap (λ b. filter p (cond b (x ∷ filter q xs) (filter q xs))) t
    ∙ (λ j. cond (sym same j) (x ∷ both p q r e xs j) (both p q r e xs j)))
    (λ f. let no : r x ≡ false = e x ∙ ap (λ b. b && p x) f in
    ap (λ b. filter p (cond b (x ∷ filter q xs) (filter q xs))) f
    ∙ both p q r e xs
    ∙ sym (ap (λ b. cond b (x ∷ filter r xs) (filter r xs)) no))

none_given : (names : List Word) → names ≡ all_forgotten [] names
none_given [] = refl
none_given (x ∷ names) = λ j. x ∷ none_given names j

turned : (x y : Word) → bytes_eq x y ≡ bytes_eq y x
turned x y =
    split (bytes_eq x y)
    (λ t. t ∙ sym (subst (λ v. bytes_eq y v ≡ true) (sym (same_name x y t)) (name_itself y)))
    (λ f. f ∙ sym (split (bytes_eq y x) (λ t. absurd (clash (bytes_eq x y) (subst (λ v. bytes_eq v y ≡ true) (same_name y x t) (name_itself y)) f)) (λ g. g)))

module _ (name : Word) (given : List Word) where
  -- sel stays
  of_sel : bytes_eq name sel ≡ true → (x : Word) → is_forgotten (name ∷ given) x ≡ is_forgotten given x
  of_sel t x = ap (λ v. (bytes_eq x v || is_listed x given) && not (bytes_eq x sel)) (same_name name sel t) ∙ absorbed (bytes_eq x sel) (is_listed x given)
    where
      absorbed : (s l : Bool) → ((s || l) && not s) ≡ (l && not s)
      absorbed true true = refl
      absorbed true false = refl
      absorbed false true = refl
      absorbed false false = refl

  of_another : bytes_eq name sel ≡ false → (x : Word) → not (is_forgotten (name ∷ given) x) ≡ (not (bytes_eq name x) && not (is_forgotten given x))
  of_another f x =
      split (bytes_eq x name)
      (λ t. let shared : bytes_eq x sel ≡ false = ap (λ v. bytes_eq v sel) (same_name x name t) ∙ f in
      (λ j. not ((t j || is_listed x given) && not (shared j)))
      ∙ sym (ap (λ b. not b && not (is_forgotten given x)) (turned name x ∙ t)))
      (λ g. ap (λ b. not ((b || is_listed x given) && not (bytes_eq x sel))) g
      ∙ sym (ap (λ b. not b && not (is_forgotten given x)) (turned name x ∙ g)))

pub in_turn : (given names : List Word) → forgotten_in_turn given names ≡ all_forgotten given names
in_turn [] names = none_given names
in_turn (name ∷ given) names =
    split (bytes_eq name sel)
    (λ t. ap (λ b. forgotten_in_turn given (cond b names (without name names))) t
    ∙ in_turn given names
    ∙ (λ j. filter (λ x. not (sym (of_sel name given t x) j)) names))
    (λ f. ap (λ b. forgotten_in_turn given (cond b names (without name names))) f
    ∙ in_turn given (without name names)
    ∙ both (λ x. not (is_forgotten given x)) (λ x. not (bytes_eq name x)) (λ x. not (is_forgotten (name ∷ given) x)) (of_another name given f) names)
