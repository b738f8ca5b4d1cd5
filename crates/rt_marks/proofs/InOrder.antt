-- Marks in order.
use Rattle.std.proofs.Common.{◌≡◌, List, [], ◌∷◌, ◌++◌, true, false, refl, sym, ap, ◌∙◌, Bool, cond, subst}
use Rattle.std.specs.List.{AllByRecursion}
use Rattle.rt_marks.specs.Marks.{Mark, comes_before, AreInOrder, with_mark, in_order}
use Rattle.rt_marks.proofs.Order.{before_trans, before_asym, before_neither}

pub split : {A : Type 0} (b : Bool) → (b ≡ true → A) → (b ≡ false → A) → A
split true f g = f refl
split false f g = g refl

pub with_passing : (m x : Mark) (marks : List Mark) → comes_before x m ≡ true → with_mark m (x ∷ marks) ≡ x ∷ with_mark m marks
with_passing m x marks h = rw h refl

pub with_here : (m x : Mark) (marks : List Mark) → comes_before x m ≡ false → with_mark m (x ∷ marks) ≡ m ∷ x ∷ marks
with_here m x marks h = rw h refl

-- of two marks and the rest, either may be put in first
fronts : (a b : Mark) (rest : List Mark) → cond (comes_before b a) (b ∷ a ∷ rest) (a ∷ b ∷ rest) ≡ cond (comes_before a b) (a ∷ b ∷ rest) (b ∷ a ∷ rest)
fronts a b rest =
    split (comes_before a b)
    (λ h. let k = before_asym a b h in rw (h, k) refl)
    (λ h. split (comes_before b a)
    (λ k. rw (h, k) refl)
    (λ k. let e = before_neither a b h k in rw (h, k) (λ i. e i ∷ sym e i ∷ rest)))

-- what a mark is behind and another isn't comes between them
pub between : (x a b : Mark) → comes_before x a ≡ false → comes_before x b ≡ true → comes_before a b ≡ true
between x a b h k =
    split (comes_before a b)
    (λ t. t)
    (λ f. split (comes_before b a)
    (λ t. let c = before_trans x b a k t in cc)
    (λ g. let e = before_neither a b f g in let c = subst (λ (v : Mark). comes_before x v ≡ true) (sym e) k in cc))

pub with_comm : (a b : Mark) (marks : List Mark) → with_mark a (with_mark b marks) ≡ with_mark b (with_mark a marks)
with_comm a b [] = fronts a b []
with_comm a b (x ∷ marks) =
    let more = with_comm a b marks in
    split (comes_before x b)
    (λ hb. split (comes_before x a)
    (λ ha. ap (with_mark a) (with_passing b x marks hb) ∙ with_passing a x (with_mark b marks) ha ∙ ap (λ v. x ∷ v) more ∙ sym (ap (with_mark b) (with_passing a x marks ha) ∙ with_passing b x (with_mark a marks) hb))
    (λ ha. ap (with_mark a) (with_passing b x marks hb) ∙ with_here a x (with_mark b marks) ha ∙ sym (ap (with_mark b) (with_here a x marks ha) ∙ with_passing b a (x ∷ marks) (between x a b ha hb) ∙ ap (λ v. a ∷ v) (with_passing b x marks hb))))
    (λ hb. split (comes_before x a)
    (λ ha. ap (with_mark a) (with_here b x marks hb) ∙ with_passing a b (x ∷ marks) (between x b a hb ha) ∙ ap (λ v. b ∷ v) (with_passing a x marks ha) ∙ sym (ap (with_mark b) (with_passing a x marks ha) ∙ with_here b x (with_mark a marks) hb))
    (λ ha. ap (with_mark a) (with_here b x marks hb) ∙ ap (λ v. cond (comes_before b a) (b ∷ v) (a ∷ b ∷ x ∷ marks)) (with_here a x marks ha) ∙ fronts a b (x ∷ marks) ∙ sym (ap (with_mark b) (with_here a x marks ha) ∙ ap (λ v. cond (comes_before a b) (a ∷ v) (b ∷ a ∷ x ∷ marks)) (with_here b x marks hb))))

-- a mark among others may be put in last
pub in_order_middle : (front : List Mark) (m : Mark) (back : List Mark) → in_order (front ++ m ∷ back) ≡ with_mark m (in_order (front ++ back))
in_order_middle [] m back = refl
in_order_middle (x ∷ front) m back = ap (with_mark x) (in_order_middle front m back) ∙ with_comm x m (in_order (front ++ back))

with_front : (m : Mark) (marks : List Mark) → AllByRecursion (λ x. comes_before m x ≡ true) marks → with_mark m marks ≡ m ∷ marks
with_front m [] h = refl
with_front m (x ∷ marks) h = with_here m x marks (before_asym m x h.0)

-- marks in order stay as they are
pub in_order_same : (marks : List Mark) → AreInOrder marks → in_order marks ≡ marks
in_order_same [] h = refl
in_order_same (m ∷ marks) h = ap (with_mark m) (in_order_same marks h.1) ∙ with_front m marks h.0

pub all_trans : (a b : Mark) (marks : List Mark) → comes_before a b ≡ true → AllByRecursion (λ x. comes_before b x ≡ true) marks → AllByRecursion (λ x. comes_before a x ≡ true) marks
all_trans a b [] h k = tt
all_trans a b (x ∷ marks) h k = (before_trans a b x h k.0, all_trans a b marks h k.1)

pub each_with : (P : Mark → Type 0) (m : Mark) (marks : List Mark) → P m → AllByRecursion P marks → AllByRecursion P (with_mark m marks)
each_with P m [] h k = (h, tt)
each_with P m (x ∷ marks) h k =
    let more = each_with P m marks h k.1 in
    split (comes_before x m)
    (λ t. subst (λ v. AllByRecursion P v) (sym (with_passing m x marks t)) (k.0, more))
    (λ f. subst (λ v. AllByRecursion P v) (sym (with_here m x marks f)) (h, k))

pub each_in_order : (P : Mark → Type 0) (marks : List Mark) → AllByRecursion P marks → AllByRecursion P (in_order marks)
each_in_order P [] h = tt
each_in_order P (m ∷ marks) h = each_with P m (in_order marks) h.0 (each_in_order P marks h.1)
