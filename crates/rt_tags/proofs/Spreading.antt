-- Borders of a stretch that stands between two others.
use Rattle.std.proofs.Common.{◌≡◌, ◌+◌, ◌≤◌, Bool, List, ◌++◌, refl, sym, ap, ◌∙◌, arith, Option, None, Some}
use Rattle.rt_tags.specs.Borders.{border, borders, either, first, last, one_or_none}
use Rattle.rt_tags.proofs.Bordering.{first_of, joined}

first_one : {A : Type 0} (o : Option A) → first (one_or_none o) ≡ o
first_one None = refl
first_one (Some x) = refl

last_one : {A : Type 0} (o : Option A) → last (one_or_none o) ≡ o
last_one None = refl
last_one (Some x) = refl

module _ {A : Type 0} (test : A → Bool) where
  none_in : (o : Option A) → borders test (one_or_none o) ≡ 0
  none_in None = refl
  none_in (Some x) = refl

  -- the borders of the others, and those that its own elements and its neighbours make
  pub spread : (xs mid ys : List A) → borders test (xs ++ (mid ++ ys))
      ≡ borders test xs + (borders test (one_or_none (last xs) ++ (mid ++ one_or_none (first ys))) + borders test ys)
  spread xs mid ys =
      let p = one_or_none (last xs) in
      let n = one_or_none (first ys) in
      let a = joined test xs (mid ++ ys) in
      let b = joined test mid ys in
      let c = joined test p (mid ++ n) in
      let d = joined test mid n in
      let before : border test (last xs) (first (mid ++ ys)) ≡ border test (last p) (first (mid ++ n)) =
      ap (λ o. border test (last xs) o) (first_of mid ys ∙ ap (either (first mid)) (sym (first_one (first ys))) ∙ sym (first_of mid n))
      ∙ ap (λ o. border test o (first (mid ++ n))) (sym (last_one (last xs))) in
      let after : border test (last mid) (first ys) ≡ border test (last mid) (first n) = ap (border test (last mid)) (sym (first_one (first ys))) in
      let z : borders test p ≡ 0 = none_in (last xs) in
      let w : borders test n ≡ 0 = none_in (first ys) in
      omega (arith, a, b, c, d, before, after, z, w)

  -- so where it is replaced, these alone change
  pub replaced : (xs old new ys : List A) → borders test (xs ++ (new ++ ys)) + borders test (one_or_none (last xs) ++ (old ++ one_or_none (first ys)))
      ≡ borders test (xs ++ (old ++ ys)) + borders test (one_or_none (last xs) ++ (new ++ one_or_none (first ys)))
  replaced xs old new ys = let a = spread xs old ys in let b = spread xs new ys in omega (arith, a, b)

  pub fewer : (xs mid ys : List A) → borders test (one_or_none (last xs) ++ (mid ++ one_or_none (first ys))) ≤ borders test (xs ++ (mid ++ ys))
  fewer xs mid ys = let a = spread xs mid ys in omega (arith, a)
