-- The marks about a spot, where one more is put among marks in order.
use Rattle.std.proofs.Common.{◌≡◌, List, [], ◌∷◌, find, true, false, refl, sym, ap, ◌∙◌, Bool, cond, subst, Option, Some, None, is_some}
use Rattle.std.specs.List.{AllByRecursion}
use Rattle.std.specs.Option.{option_or}
use Rattle.rt_marks.specs.Marks.{Mark, comes_before, AreInOrder, with_mark, find_last}
use Rattle.rt_marks.proofs.Order.{before_trans, before_irrefl, before_asym, before_neither}
use Rattle.rt_marks.proofs.InOrder.{split, with_passing, with_here, between}
use Rattle.rt_marks.proofs.Names.{clash}

-- the mark that is there, or another
abbrev the : Mark → Option Mark → Mark
the x None = x
the x (Some m) = m

same_mark : (x y : Mark) → Some x ≡ Some y → x ≡ y
same_mark x y e = ap (the x) e

-- THE FIRST AFTER A SPOT

abbrev after : Mark → List Mark → Option Mark
after h marks = find (comes_before h) marks

after_here : (h m : Mark) (marks : List Mark) → comes_before h m ≡ true → after h (m ∷ marks) ≡ Some m
after_here h m marks t = ap (λ b. cond b (Some m) (after h marks)) t

after_there : (h m : Mark) (marks : List Mark) → comes_before h m ≡ false → after h (m ∷ marks) ≡ after h marks
after_there h m marks f = ap (λ b. cond b (Some m) (after h marks)) f

-- one more that doesn't come after the spot isn't found
pub not_after : (h m : Mark) (marks : List Mark) → comes_before h m ≡ false → after h (with_mark m marks) ≡ after h marks
not_after h m [] f = after_there h m [] f
not_after h m (x ∷ marks) f =
    let more = not_after h m marks f in
    split (comes_before x m)
    (λ t. ap (after h) (with_passing m x marks t) ∙ ap (λ v. cond (comes_before h x) (Some x) v) more)
    (λ g. ap (after h) (with_here m x marks g) ∙ after_there h m (x ∷ marks) f)

pub none_after : (h m : Mark) (marks : List Mark) → comes_before h m ≡ true → after h marks ≡ None → after h (with_mark m marks) ≡ Some m
none_after h m [] t e = after_here h m [] t
none_after h m (x ∷ marks) t e =
    let absent = split (comes_before h x) (λ s. absurd (clash false (sym (ap is_some (sym (after_here h x marks s) ∙ e))) refl)) (λ f. f) in
    let more = none_after h m marks t (sym (after_there h x marks absent) ∙ e) in
    split (comes_before x m)
    (λ s. ap (after h) (with_passing m x marks s) ∙ after_there h x (with_mark m marks) absent ∙ more)
    (λ g. ap (after h) (with_here m x marks g) ∙ after_here h m (x ∷ marks) t)

-- what is found among marks that a mark comes before
mark_after_is_behind : (h x : Mark) (marks : List Mark) (y : Mark) → AllByRecursion (λ z. comes_before x z ≡ true) marks → after h marks ≡ Some y → comes_before x y ≡ true
mark_after_is_behind h x [] y o e = absurd (clash false (ap is_some e) refl)
mark_after_is_behind h x (z ∷ marks) y o e =
    split (comes_before h z)
    (λ t. subst (λ (v : Mark). comes_before x v ≡ true) (same_mark z y (sym (after_here h z marks t) ∙ e)) o.0)
    (λ f. mark_after_is_behind h x marks y o.1 (sym (after_there h z marks f) ∙ e))

-- the one that was found stays where it comes before one more
pub nearer_after : (h m : Mark) (marks : List Mark) (y : Mark) → AreInOrder marks → after h marks ≡ Some y → comes_before y m ≡ true → after h (with_mark m marks) ≡ Some y
nearer_after h m [] y o e l = absurd (clash false (ap is_some e) refl)
nearer_after h m (x ∷ marks) y o e l =
    split (comes_before h x)
    (λ t. let same = same_mark x y (sym (after_here h x marks t) ∙ e) in
    let passes = subst (λ (v : Mark). comes_before v m ≡ true) (sym same) l in
    ap (after h) (with_passing m x marks passes) ∙ after_here h x (with_mark m marks) t ∙ ap (λ v. Some v) same)
    (λ f. let found = sym (after_there h x marks f) ∙ e in
    let passes = before_trans x y m (mark_after_is_behind h x marks y o.0 found) l in
    ap (after h) (with_passing m x marks passes) ∙ after_there h x (with_mark m marks) f ∙ nearer_after h m marks y o.1 found l)

-- and one more is found where it doesn't
pub further_after : (h m : Mark) (marks : List Mark) (y : Mark) → comes_before h m ≡ true → after h marks ≡ Some y → comes_before y m ≡ false → after h (with_mark m marks) ≡ Some m
further_after h m [] y t e l = absurd (clash false (ap is_some e) refl)
further_after h m (x ∷ marks) y t e l =
    split (comes_before x m)
    (λ s. split (comes_before h x)
    (λ p. absurd (clash _ (subst (λ (v : Mark). comes_before v m ≡ true) (same_mark x y (sym (after_here h x marks p) ∙ e)) s) l))
    (λ f. ap (after h) (with_passing m x marks s) ∙ after_there h x (with_mark m marks) f ∙ further_after h m marks y t (sym (after_there h x marks f) ∙ e) l))
    (λ g. ap (after h) (with_here m x marks g) ∙ after_here h m (x ∷ marks) t)

-- THE LAST BEFORE A SPOT

abbrev before : Mark → List Mark → Option Mark
before h marks = find_last (λ m. comes_before m h) marks

abbrev one : Bool → Mark → Option Mark
one b m = cond b (Some m) None

or_none : (o : Option Mark) → option_or o None ≡ o
or_none None = refl
or_none (Some m) = refl

-- one more that doesn't come before the spot isn't found
pub not_before : (h m : Mark) (marks : List Mark) → comes_before m h ≡ false → before h (with_mark m marks) ≡ before h marks
not_before h m [] f = ap (λ b. option_or None (one b m)) f
not_before h m (x ∷ marks) f =
    let more = not_before h m marks f in
    split (comes_before x m)
    (λ t. ap (before h) (with_passing m x marks t) ∙ ap (λ v. option_or v (one (comes_before x h) x)) more)
    (λ g. ap (before h) (with_here m x marks g) ∙ ap (λ b. option_or (before h (x ∷ marks)) (one b m)) f ∙ or_none (before h (x ∷ marks)))

none_first : (o p : Option Mark) → option_or o p ≡ None → o ≡ None
none_first None p e = refl
none_first (Some m) p e = absurd (clash false (sym (ap is_some e)) refl)

pub none_before : (h m : Mark) (marks : List Mark) → comes_before m h ≡ true → before h marks ≡ None → before h (with_mark m marks) ≡ Some m
none_before h m [] t e = ap (λ b. option_or None (one b m)) t
none_before h m (x ∷ marks) t e =
    let more = none_before h m marks t (none_first _ _ e) in
    split (comes_before x m)
    (λ s. ap (before h) (with_passing m x marks s) ∙ ap (λ v. option_or v (one (comes_before x h) x)) more)
    (λ g. ap (before h) (with_here m x marks g) ∙ ap (λ v. option_or v (one (comes_before m h) m)) e ∙ ap (λ b. option_or None (one b m)) t)

-- the one that was found stays where one more comes before it
pub nearer_before : (h m : Mark) (marks : List Mark) (y : Mark) → before h marks ≡ Some y → comes_before m y ≡ true → before h (with_mark m marks) ≡ Some y
nearer_before h m [] y e l = absurd (clash false (ap is_some e) refl)
nearer_before h m (x ∷ marks) y e l =
    split (comes_before x m)
    (λ s. ap (before h) (with_passing m x marks s) ∙ by (before h marks) refl (nearer_before h m marks y) s)
    (λ g. ap (before h) (with_here m x marks g) ∙ ap (λ v. option_or v (one (comes_before m h) m)) e)
  where
    last : Option Mark → Option Mark
    last o = option_or o (one (comes_before x h) x)

    of_one : (b : Bool) → one b x ≡ Some y → x ≡ y
    of_one true k = same_mark x y k
    of_one false k = absurd (clash false (ap is_some k) refl)

    by : (o : Option Mark) → before h marks ≡ o → (before h marks ≡ Some y → comes_before m y ≡ true → before h (with_mark m marks) ≡ Some y) → comes_before x m ≡ true → last (before h (with_mark m marks)) ≡ Some y
    by None k more s =
        let same = of_one (comes_before x h) (sym (ap last k) ∙ e) in
        absurd (clash _ (subst (λ (v : Mark). comes_before m v ≡ true) (sym same) l) (before_asym x m s))
    by (Some z) k more s =
        let same : Some z ≡ Some y = sym (ap last k) ∙ e in
        ap last (more (k ∙ same) l)

-- what is found among marks in order doesn't come before the first of them
from_first : (h x : Mark) (marks : List Mark) (y : Mark) → AllByRecursion (λ z. comes_before x z ≡ true) marks → before h (x ∷ marks) ≡ Some y → comes_before y x ≡ false
from_first h x marks y o e = by (before h marks) refl where
  last : Option Mark → Option Mark
  last p = option_or p (one (comes_before x h) x)

  of_one : (b : Bool) → one b x ≡ Some y → x ≡ y
  of_one true k = same_mark x y k
  of_one false k = absurd (clash false (ap is_some k) refl)

  among : (others : List Mark) (z : Mark) → AllByRecursion (λ w. comes_before x w ≡ true) others → before h others ≡ Some z → comes_before x z ≡ true
  among [] z p k = absurd (clash false (ap is_some k) refl)
  among (w ∷ others) z p k = either (before h others) refl (among others z p.1) where
    either : (q : Option Mark) → before h others ≡ q → (before h others ≡ Some z → comes_before x z ≡ true) → comes_before x z ≡ true
    either None r more = one_of (comes_before w h) (sym (ap (λ v. option_or v (one (comes_before w h) w)) r) ∙ k) where
      one_of : (b : Bool) → one b w ≡ Some z → comes_before x z ≡ true
      one_of true n = subst (λ (v : Mark). comes_before x v ≡ true) (same_mark w z n) p.0
      one_of false n = absurd (clash false (ap is_some n) refl)
    either (Some v) r more = more (r ∙ (sym (ap (λ v. option_or v (one (comes_before w h) w)) r) ∙ k))

  by : (p : Option Mark) → before h marks ≡ p → comes_before y x ≡ false
  by None k = subst (λ (v : Mark). comes_before v x ≡ false) (of_one (comes_before x h) (sym (ap last k) ∙ e)) (before_irrefl x)
  by (Some z) k = before_asym x y (among marks y o (k ∙ (sym (ap last k) ∙ e)))

-- and one more is found where it doesn't come before the one that was found
pub further_before : (h m : Mark) (marks : List Mark) (y : Mark) → AreInOrder marks → comes_before m h ≡ true → before h marks ≡ Some y → comes_before m y ≡ false → before h (with_mark m marks) ≡ Some m
further_before h m [] y o t e l = absurd (clash false (ap is_some e) refl)
further_before h m (x ∷ marks) y o t e l =
    split (comes_before x m)
    (λ s. ap (before h) (with_passing m x marks s) ∙ ap last (by (before h marks) refl (further_before h m marks y o.1 t)))
    (λ g. ap (before h) (with_here m x marks g) ∙ ap (λ v. option_or v (one (comes_before m h) m)) e
    ∙ ap (λ v. Some v) (before_neither y m (at_or_behind g) l))
  where
    last : Option Mark → Option Mark
    last p = option_or p (one (comes_before x h) x)

    at_or_behind : comes_before x m ≡ false → comes_before y m ≡ false
    at_or_behind g =
        split (comes_before y m)
        (λ s. absurd (clash _ (between y x m (from_first h x marks y o.0 e) s) g))
        (λ f. f)

    by : (p : Option Mark) → before h marks ≡ p → (before h marks ≡ Some y → comes_before m y ≡ false → before h (with_mark m marks) ≡ Some m) → before h (with_mark m marks) ≡ Some m
    by None k more = none_before h m marks t k
    by (Some z) k more = more (k ∙ (sym (ap last k) ∙ e)) l

-- WHAT WAS FOUND, AND ONE MORE

pub kept_after : (h m : Mark) (marks : List Mark) (found : Option Mark) → comes_before h m ≡ false → found ≡ after h marks → found ≡ after h (with_mark m marks)
kept_after h m marks found f e = e ∙ sym (not_after h m marks f)

pub alone_after : (h m : Mark) (marks : List Mark) (found : Option Mark) → comes_before h m ≡ true → found ≡ None → found ≡ after h marks → Some m ≡ after h (with_mark m marks)
alone_after h m marks found t n e = sym (none_after h m marks t (sym e ∙ n))

pub found_after : (h m y : Mark) (marks : List Mark) (found : Option Mark) → AreInOrder marks → found ≡ Some y → comes_before y m ≡ true → found ≡ after h marks → Some y ≡ after h (with_mark m marks)
found_after h m y marks found o s l e = sym (nearer_after h m marks y o (sym e ∙ s) l)

pub other_after : (h m y : Mark) (marks : List Mark) (found : Option Mark) → comes_before h m ≡ true → found ≡ Some y → comes_before y m ≡ false → found ≡ after h marks → Some m ≡ after h (with_mark m marks)
other_after h m y marks found t s l e = sym (further_after h m marks y t (sym e ∙ s) l)

pub kept_before : (h m : Mark) (marks : List Mark) (found : Option Mark) → comes_before m h ≡ false → found ≡ before h marks → found ≡ before h (with_mark m marks)
kept_before h m marks found f e = e ∙ sym (not_before h m marks f)

pub alone_before : (h m : Mark) (marks : List Mark) (found : Option Mark) → comes_before m h ≡ true → found ≡ None → found ≡ before h marks → Some m ≡ before h (with_mark m marks)
alone_before h m marks found t n e = sym (none_before h m marks t (sym e ∙ n))

pub found_before : (h m y : Mark) (marks : List Mark) (found : Option Mark) → found ≡ Some y → comes_before m y ≡ true → found ≡ before h marks → Some y ≡ before h (with_mark m marks)
found_before h m y marks found s l e = sym (nearer_before h m marks y (sym e ∙ s) l)

pub other_before : (h m y : Mark) (marks : List Mark) (found : Option Mark) → AreInOrder marks → comes_before m h ≡ true → found ≡ Some y → comes_before m y ≡ false → found ≡ before h marks → Some m ≡ before h (with_mark m marks)
other_before h m y marks found o t s l e = sym (further_before h m marks y o t (sym e ∙ s) l)
