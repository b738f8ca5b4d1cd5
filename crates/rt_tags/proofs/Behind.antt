-- Elements of a list with more behind it.
use Rattle.std.proofs.Common.{◌≡◌, ℕ, zero, suc, ◌+◌, ◌<◌, ◌≤◌, List, [], ◌∷◌, ◌++◌, length, slice_get, Some, sym, ap, subst, ◌∙◌, arith}
use Rattle.std.specs.List.{AllByRecursion}
use Rattle.std.proofs.lemmas.Option.{slice_get_within, get_or_from_slice_get, slice_get-get_or}
use Rattle.std.proofs.Math.ListN.{get_or, get_or-append, length-append}
use Rattle.std.proofs.Math.Seq.{get_or-append_seam}

module _ {A : Type 0} where
  pub at_more : (xs ys : List A) (i : ℕ) (x : A) → slice_get xs i ≡ Some x → slice_get (xs ++ ys) i ≡ Some x
  at_more xs ys i x h =
      let w : i < length xs = slice_get_within xs i x h in
      let v : i < length (xs ++ ys) = omega (arith, length-append xs ys) in
      slice_get-get_or (xs ++ ys) i x v ∙ ap (λ (y : A). Some y) (get_or-append xs ys x i w ∙ get_or_from_slice_get xs i x x h)

  pub at_less : (xs ys : List A) (i : ℕ) (x : A) → i < length xs → slice_get (xs ++ ys) i ≡ Some x → slice_get xs i ≡ Some x
  at_less xs ys i x w h = slice_get-get_or xs i x w ∙ ap (λ (y : A). Some y) (sym (get_or-append xs ys x i w) ∙ get_or_from_slice_get (xs ++ ys) i x x h)

  pub last_place : (xs : List A) (y : A) (i : ℕ) (x : A) → slice_get (xs ++ y ∷ []) i ≡ Some x → length xs ≤ i → i ≡ length xs
  last_place xs y i x h w =
      let b : i < length (xs ++ y ∷ []) = slice_get_within (xs ++ y ∷ []) i x h in
      let n : length (xs ++ y ∷ []) ≡ length xs + 1 = length-append xs (y ∷ []) in
      omega (arith, b, n, w)

  pub last_is : (xs : List A) (y : A) (i : ℕ) (x : A) → slice_get (xs ++ y ∷ []) i ≡ Some x → length xs ≤ i → x ≡ y
  last_is xs y i x h w =
      sym (get_or_from_slice_get (xs ++ y ∷ []) i x x h) ∙ (ap (λ (k : ℕ). get_or (xs ++ y ∷ []) k x) (last_place xs y i x h w) ∙ get_or-append_seam xs y [] x)

  pub every_at : (P : A → Type 0) (xs : List A) → AllByRecursion P xs → (i : ℕ) (x : A) → slice_get xs i ≡ Some x → P x
  every_at P [] h i x e = absurd (cc)
  every_at P (y ∷ xs) h zero x e = let k : y ≡ x = cc in subst P k h.0
  every_at P (y ∷ xs) h (suc i) x e = every_at P xs h.1 i x e
