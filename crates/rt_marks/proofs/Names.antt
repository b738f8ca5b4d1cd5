-- Look-ups by name.
use Rattle.std.proofs.Common.{◌≡◌, ℕ, zero, suc, ◌<◌, length, get_or, IsSome, Contains, arith, List, [], ◌∷◌, ◌++◌, true, false, not, refl, sym, ap, ◌∙◌, Bool, cond, subst, Option, Some, None}
use Rattle.std.specs.List.{AllByRecursion}
use Rattle.std.specs.Ordering.{is_lt}
use Rattle.std.specs.Str.{bytes_eq}
use Rattle.std.proofs.lemmas.Slice.Eq.{bytes_eq-Decides}
use Rattle.std.proofs.lemmas.Cmp.{nat_list_cmp_total}
use Rattle.rt_marks.specs.Marks.{Mark, name_order, comes_before, AreInOrder, with_mark, in_order, is_named, mark_of_name, without_mark, HaveOwnNames, AreAscending, put_mark, marks_set, gravity_or_right}
use Rattle.rt_marks.specs.Seen.{names_of_marks}
use Rattle.rt_marks.proofs.Order.{before_neither, lt_irrefl}
use Rattle.rt_marks.proofs.InOrder.{split, with_passing, with_here, all_trans, each_with}

abbrev Holds : Bool → Type 0
Holds true = Unit {0}
Holds false = ⊥

pub clash : (b : Bool) → b ≡ true → b ≡ false → ⊥
clash b h k = subst Holds (sym h ∙ k) tt

pub same_name : (xs ys : List ℕ) → bytes_eq xs ys ≡ true → xs ≡ ys
same_name xs ys h = (bytes_eq-Decides xs ys).0 h

pub name_itself : (xs : List ℕ) → bytes_eq xs xs ≡ true
name_itself xs = (bytes_eq-Decides xs xs).1 refl

pub differ_back : (xs ys : List ℕ) → bytes_eq xs ys ≡ false → bytes_eq ys xs ≡ false
differ_back xs ys h =
    split (bytes_eq ys xs)
    (λ t. let c = (bytes_eq-Decides xs ys).1 (sym (same_name ys xs t)) in cc)
    (λ f. f)

pub names_differ : (xs ys : List ℕ) → is_lt (name_order xs ys) ≡ true → bytes_eq ys xs ≡ false
names_differ xs ys h =
    split (bytes_eq ys xs)
    (λ t. let e = same_name ys xs t in
    let c = subst (λ v. is_lt (name_order xs v) ≡ true) e h in
    let d = lt_irrefl nat_list_cmp_total xs in cc)
    (λ f. f)

pub none_head : (q : List ℕ) (m : Mark) (marks : List Mark) → mark_of_name q (m ∷ marks) ≡ None → is_named q m ≡ false
none_head q m marks h =
    split (is_named q m)
    (λ t. let e : Some m ≡ None = sym (ap (λ b. cond b (Some m) (mark_of_name q marks)) t) ∙ h in cc)
    (λ f. f)

pub none_tail : (q : List ℕ) (m : Mark) (marks : List Mark) → mark_of_name q (m ∷ marks) ≡ None → mark_of_name q marks ≡ None
none_tail q m marks h = sym (ap (λ b. cond b (Some m) (mark_of_name q marks)) (none_head q m marks h)) ∙ h

pub none_cons : (q : List ℕ) (m : Mark) (marks : List Mark) → is_named q m ≡ false → mark_of_name q marks ≡ None → mark_of_name q (m ∷ marks) ≡ None
none_cons q m marks f h = ap (λ b. cond b (Some m) (mark_of_name q marks)) f ∙ h

pub swapped : {A : Type 0} (b c : Bool) (u v w : A) → (b ≡ true → c ≡ true → ⊥) → cond b u (cond c v w) ≡ cond c v (cond b u w)
swapped true true u v w h = absurd (h refl refl)
swapped true false u v w h = refl
swapped false true u v w h = refl
swapped false false u v w h = refl

pub named_with : (q : List ℕ) (m : Mark) (marks : List Mark) → mark_of_name m.name marks ≡ None → mark_of_name q (with_mark m marks) ≡ mark_of_name q (m ∷ marks)
named_with q m [] h = refl
named_with q m (x ∷ marks) h =
    let more = named_with q m marks (none_tail m.name x marks h) in
    let apart : is_named q x ≡ true → is_named q m ≡ true → ⊥ = λ s t.
    let e : x.name ≡ m.name = same_name _ _ s ∙ sym (same_name _ _ t) in
    let c : is_named m.name x ≡ true = (bytes_eq-Decides x.name m.name).1 e in
    let d : is_named m.name x ≡ false = none_head m.name x marks h in
    clash _ c d in
    split (comes_before x m)
    (λ t. ap (mark_of_name q) (with_passing m x marks t) ∙ ap (λ v. cond (is_named q x) (Some x) v) more ∙ swapped (is_named q x) (is_named q m) (Some x) (Some m) (mark_of_name q marks) apart)
    (λ f. ap (mark_of_name q) (with_here m x marks f))

pub named_in_order : (marks : List Mark) → HaveOwnNames marks → (q : List ℕ) → mark_of_name q (in_order marks) ≡ mark_of_name q marks
named_in_order [] h q = refl
named_in_order (m ∷ marks) h q =
    let none : mark_of_name m.name (in_order marks) ≡ None = named_in_order marks h.1 m.name ∙ h.0 in
    named_with q m (in_order marks) none ∙ ap (λ v. cond (is_named q m) (Some m) v) (named_in_order marks h.1 q)

own_with : (m : Mark) (marks : List Mark) → mark_of_name m.name marks ≡ None → HaveOwnNames marks → HaveOwnNames (with_mark m marks)
own_with m [] h k = (refl, tt)
own_with m (x ∷ marks) h k =
    let more = own_with m marks (none_tail m.name x marks h) k.1 in
    let none : mark_of_name x.name (with_mark m marks) ≡ None =
    named_with x.name m marks (none_tail m.name x marks h) ∙ none_cons x.name m marks (differ_back x.name m.name (none_head m.name x marks h)) k.0 in
    split (comes_before x m)
    (λ t. subst HaveOwnNames (sym (with_passing m x marks t)) (none, more))
    (λ f. subst HaveOwnNames (sym (with_here m x marks f)) (h, k))

pub own_in_order : (marks : List Mark) → HaveOwnNames marks → HaveOwnNames (in_order marks)
own_in_order [] h = tt
own_in_order (m ∷ marks) h = own_with m (in_order marks) (named_in_order marks h.1 m.name ∙ h.0) (own_in_order marks h.1)

-- of two marks with names of their own one comes first
apart : (m x : Mark) → is_named m.name x ≡ false → comes_before x m ≡ false → comes_before m x ≡ true
apart m x n f =
    split (comes_before m x)
    (λ t. t)
    (λ g. let e = before_neither m x g f in
    let c : is_named m.name x ≡ true = subst (λ (v : Mark). is_named m.name v ≡ true) e (name_itself m.name) in cc)

pub ordered_with : (m : Mark) (marks : List Mark) → mark_of_name m.name marks ≡ None → AreInOrder marks → AreInOrder (with_mark m marks)
ordered_with m [] h k = (tt, tt)
ordered_with m (x ∷ marks) h k =
    let more = ordered_with m marks (none_tail m.name x marks h) k.1 in
    split (comes_before x m)
    (λ t. subst AreInOrder (sym (with_passing m x marks t)) (each_with (λ y. comes_before x y ≡ true) m marks t k.0, more))
    (λ f. let b = apart m x (none_head m.name x marks h) f in
    subst AreInOrder (sym (with_here m x marks f)) ((b, all_trans m x marks b k.0), k))

pub ordered_in_order : (marks : List Mark) → HaveOwnNames marks → AreInOrder (in_order marks)
ordered_in_order [] h = tt
ordered_in_order (m ∷ marks) h = ordered_with m (in_order marks) (named_in_order marks h.1 m.name ∙ h.0) (ordered_in_order marks h.1)

pub without_none : (q : List ℕ) (marks : List Mark) → mark_of_name q marks ≡ None → without_mark q marks ≡ marks
without_none q [] h = refl
without_none q (m ∷ marks) h =
    ap (λ b. cond (not b) (m ∷ without_mark q marks) (without_mark q marks)) (none_head q m marks h) ∙ ap (λ v. m ∷ v) (without_none q marks (none_tail q m marks h))

pub none_middle : (q : List ℕ) (front : List Mark) (m : Mark) (back : List Mark) → mark_of_name q (front ++ m ∷ back) ≡ None → is_named q m ≡ false
none_middle q [] m back h = none_head q m back h
none_middle q (x ∷ front) m back h = none_middle q front m back (none_tail q x (front ++ m ∷ back) h)

-- no other mark has a mark's name
pub none_other : (front : List Mark) (m : Mark) (back : List Mark) → HaveOwnNames (front ++ m ∷ back) → mark_of_name m.name (front ++ back) ≡ None
none_other [] m back h = h.0
none_other (x ∷ front) m back h =
    none_cons m.name x (front ++ back) (differ_back m.name x.name (none_middle x.name front m back h.0)) (none_other front m back h.1)

pub named_middle : (q : List ℕ) (front : List Mark) (m : Mark) (back : List Mark) → HaveOwnNames (front ++ m ∷ back) → q ≡ m.name → mark_of_name q (front ++ m ∷ back) ≡ Some m
named_middle q [] m back h e = ap (λ b. cond b (Some m) (mark_of_name q back)) ((bytes_eq-Decides m.name q).1 (sym e))
named_middle q (x ∷ front) m back h e =
    let f : is_named q x ≡ false = subst (λ v. bytes_eq x.name v ≡ false) (sym e) (differ_back m.name x.name (none_middle x.name front m back h.0)) in
    ap (λ b. cond b (Some x) (mark_of_name q (front ++ m ∷ back))) f ∙ named_middle q front m back h.1 e

-- names that ascend are names of their own
none_below : (q : List ℕ) (marks : List Mark) → AllByRecursion (λ x. is_lt (name_order q x) ≡ true) (names_of_marks marks) → mark_of_name q marks ≡ None
none_below q [] h = refl
none_below q (m ∷ marks) h = none_cons q m marks (names_differ q m.name h.0) (none_below q marks h.1)

pub own_ascending : (marks : List Mark) → AreAscending (names_of_marks marks) → HaveOwnNames marks
own_ascending [] h = tt
own_ascending (m ∷ marks) h = (none_below m.name marks h.0, own_ascending marks h.1)

-- LOOK-UPS AFTER EDITS

either_way : (b : Bool) (o : Option Mark) → cond b o o ≡ o
either_way true o = refl
either_way false o = refl

pub named_without : (name q : List ℕ) (marks : List Mark) → mark_of_name q (without_mark name marks) ≡ cond (bytes_eq name q) None (mark_of_name q marks)
named_without name q [] = sym (either_way (bytes_eq name q) None)
named_without name q (m ∷ marks) =
    let more = named_without name q marks in
    let others = without_mark name marks in
    split (is_named name m)
    (λ t. ap (λ b. mark_of_name q (cond (not b) (m ∷ others) others)) t ∙ more ∙ split (bytes_eq name q)
    (λ s. ap (λ b. cond b None (mark_of_name q marks)) s ∙ sym (ap (λ b. cond b None (mark_of_name q (m ∷ marks))) s))
    (λ s. let f : is_named q m ≡ false = subst (λ v. bytes_eq v q ≡ false) (sym (same_name m.name name t)) s in
    ap (λ v. cond (bytes_eq name q) None v) (sym (ap (λ b. cond b (Some m) (mark_of_name q marks)) f))))
    (λ f. ap (λ b. mark_of_name q (cond (not b) (m ∷ others) others)) f ∙ ap (λ v. cond (is_named q m) (Some m) v) more
    ∙ swapped (is_named q m) (bytes_eq name q) (Some m) None (mark_of_name q marks)
    (λ s t. clash _ ((bytes_eq-Decides m.name name).1 (same_name m.name q s ∙ sym (same_name name q t))) f))

once : (b : Bool) (x : Mark) (o : Option Mark) → cond b (Some x) (cond b None o) ≡ cond b (Some x) o
once true x o = refl
once false x o = refl

pub named_own : (q : List ℕ) (m : Mark) (marks : List Mark) → mark_of_name q (put_mark m marks) ≡ cond (bytes_eq m.name q) (Some m) (mark_of_name q marks)
named_own q m marks =
    let none = named_without m.name m.name marks ∙ ap (λ b. cond b None (mark_of_name m.name marks)) (name_itself m.name) in
    named_with q m (without_mark m.name marks) none ∙ ap (λ v. cond (is_named q m) (Some m) v) (named_without m.name q marks) ∙ once (is_named q m) m (mark_of_name q marks)

pub named_set : (q name : List ℕ) (place : ℕ) (marks : List Mark) → mark_of_name q (marks_set name place marks) ≡ cond (bytes_eq name q) (Some (record { name = name; place = place; gravity = gravity_or_right name marks })) (mark_of_name q marks)
named_set q name place marks = named_own q (record { name = name; place = place; gravity = gravity_or_right name marks }) marks

-- THE LIST OF NAMES

some_named : (q : List ℕ) (marks : List Mark) (k : ℕ) → k < length (names_of_marks marks) → get_or (names_of_marks marks) k q ≡ q → IsSome (mark_of_name q marks)
some_named q [] k l e = absurd (omega (arith, l))
some_named q (m ∷ marks) zero l e = subst (λ (o : Option Mark). IsSome o) (sym (ap (λ b. cond b (Some m) (mark_of_name q marks)) ((bytes_eq-Decides m.name q).1 e))) refl
some_named q (m ∷ marks) (suc k) l e =
    let more = some_named q marks k (omega (arith, l)) e in
    split (is_named q m)
    (λ t. subst (λ (o : Option Mark). IsSome o) (sym (ap (λ b. cond b (Some m) (mark_of_name q marks)) t)) refl)
    (λ f. subst (λ (o : Option Mark). IsSome o) (sym (ap (λ b. cond b (Some m) (mark_of_name q marks)) f)) more)

contains_name : (q : List ℕ) (marks : List Mark) → IsSome (mark_of_name q marks) → Contains (names_of_marks marks) q
contains_name q [] h = absurd (clash false h refl)
contains_name q (m ∷ marks) h =
    let more = contains_name q marks in
    split (is_named q m)
    (λ t. (0, omega arith, same_name m.name q t))
    (λ f. let r = more (subst (λ (o : Option Mark). IsSome o) (ap (λ b. cond b (Some m) (mark_of_name q marks)) f) h) in (suc r.0, omega (arith, r.1), r.2))

pub listed : (q : List ℕ) (names : List (List ℕ)) (marks view : List Mark) → names ≡ names_of_marks marks → mark_of_name q view ≡ mark_of_name q marks → (Contains names q → IsSome (mark_of_name q view)) × (IsSome (mark_of_name q view) → Contains names q)
listed q names marks view e n = (
  λ h. let k = subst (λ (v : List (List ℕ)). Contains v q) e h in subst (λ (o : Option Mark). IsSome o) (sym n) (some_named q marks k.0 k.1 k.2),
  λ h. subst (λ (v : List (List ℕ)). Contains v q) (sym e) (contains_name q marks (subst (λ (o : Option Mark). IsSome o) n h)),
)
