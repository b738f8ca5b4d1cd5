-- Selections, one stamp or one selection more.
use Rattle.std.proofs.Common.{◌≡◌, ℕ, zero, suc, ◌+◌, ◌<◌, All, List, [], ◌∷◌, ◌++◌, length, map, take, drop, get_or, set, refl, sym, ◌∙◌, ap, subst, arith}
use Rattle.std.proofs.Math.Seq.{take-suc-set}
use Rattle.std.proofs.lemmas.List.{drop_more, drop-set-lt, map-append, map_more}
use Rattle.std.proofs.lemmas.List.Elements.{All-append, All-cons, All-nil}

-- ONE STAMP MORE

-- ONE ELEMENT MORE THAT IS SET, AS ONE SEES IT

module _ {A B : Type 0} (f : A → B) where
  pub same_set : (ys : List A) (i : ℕ) (x d : A) → f x ≡ f (get_or ys i d) → i < length ys → map f (set ys i x) ≡ map f ys
  same_set [] i x d e h = refl
  same_set (y ∷ ys) zero x d e h = ap (λ v. v ∷ map f ys) e
  same_set (y ∷ ys) (suc i) x d e h = ap (λ l. f y ∷ l) (same_set ys i x d e (omega (arith, h)))

  module _ (xs ys : List A) (i : ℕ) (d : A) (lt : i < length xs) (len : length ys ≡ length xs) (rest : drop i ys ≡ drop i xs) where
    within : i < length ys
    within = subst (λ n. i < n) (sym len) lt

    parts : get_or ys i d ∷ drop (i + 1) ys ≡ get_or xs i d ∷ drop (i + 1) xs
    parts = sym (drop_more ys i d within) ∙ rest ∙ drop_more xs i d lt

    pub same_here : get_or ys i d ≡ get_or xs i d
    same_here = ap (λ l. get_or l 0 d) parts

    pub rest_more : (x : A) → drop (i + 1) (set ys i x) ≡ drop (i + 1) xs
    rest_more x = drop-set-lt (i + 1) ys i x (omega arith) ∙ ap (drop 1) parts

    pub done_more : (g : B → B) (x : A) → map f (take i ys) ≡ map g (map f (take i xs)) → f x ≡ g (f (get_or ys i d)) → map f (take (i + 1) (set ys i x)) ≡ map g (map f (take (i + 1) xs))
    done_more g x done e =
        let next : i + 1 ≡ suc i = omega arith in
        let here : f x ≡ g (f (get_or xs i d)) = e ∙ ap (λ y. g (f y)) same_here in
        ap (λ n. map f (take n (set ys i x))) next ∙ ap (map f) (take-suc-set ys i x within) ∙ map-append f (take i ys) (x ∷ [])
        ∙ (λ j. done j ++ here j ∷ []) ∙ sym (map-append g (map f (take i xs)) (f (get_or xs i d) ∷ [])) ∙ ap (map g) (sym (map_more f xs i d lt))

pub all_more : {A : Type 0} (P : A → Type 0) (ys : List A) (i : ℕ) (x : A) → i < length ys → All P (take i ys) → P x → All P (take (i + 1) (set ys i x))
all_more P ys i x h all p =
    let next : i + 1 ≡ suc i = omega arith in
    subst (All P) (sym (ap (λ n. take n (set ys i x)) next ∙ take-suc-set ys i x h)) (All-append P (take i ys) (x ∷ []) all (All-cons P x [] p (All-nil P)))
