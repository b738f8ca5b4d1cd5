-- The marks of a stretch, one after the other.
use Rattle.std.proofs.Common.{◌≡◌, ℕ, ◌<◌, ◌≤◌, ◌&&◌, nat_le, nat_lt, List, [], ◌∷◌, find, true, false, refl, sym, ap, ◌∙◌, Bool, cond, subst, arith, Option, Some, None}
use Rattle.std.specs.List.{AllByRecursion}
use Rattle.std.specs.Prelude.{filter}
use Rattle.std.specs.Ordering.{nat_cmp, ordering_then, is_lt}
use Rattle.std.specs.declared.cmp.Ordering.{Ordering}
use Rattle.std.proofs.lemmas.Bool.Decides.{nat_tests}
use Rattle.std.proofs.lemmas.Cmp.{ranked, by_ranked}
use Rattle.rt_marks.specs.Marks.{Mark, IsName, AreInOrder, comes_before, gravity_order, name_order}
use Rattle.rt_marks.proofs.InOrder.{split}
use Rattle.rt_marks.proofs.Names.{clash}
use Rattle.rt_marks.proofs.Order.{before_asym, before_irrefl, before_trans}
use Rattle.rt_tagcmd.specs.Looking.{edge}
use Rattle.rt_tagcmd.specs.MarkLists.{marks_from, marks_ahead}
use Rattle.rt_tagcmd.proofs.LookingLaws.{edge_first}

-- ONE AFTER ANOTHER

abbrev after : Mark → List Mark → List Mark
after h marks = filter (comes_before h) marks

taken : (p : Mark → Bool) (x : Mark) (marks : List Mark) → p x ≡ true → filter p (x ∷ marks) ≡ x ∷ filter p marks
taken p x marks t = ap (λ b. cond b (x ∷ filter p marks) (filter p marks)) t

passed : (p : Mark → Bool) (x : Mark) (marks : List Mark) → p x ≡ false → filter p (x ∷ marks) ≡ filter p marks
passed p x marks f = ap (λ b. cond b (x ∷ filter p marks) (filter p marks)) f

all_after : (h : Mark) (marks : List Mark) → AllByRecursion (λ y. comes_before h y ≡ true) marks → after h marks ≡ marks
all_after h [] e = refl
all_after h (y ∷ marks) e = taken (comes_before h) y marks e.0 ∙ ap (λ v. y ∷ v) (all_after h marks e.1)

further : (h x : Mark) (marks : List Mark) → comes_before h x ≡ true → AllByRecursion (λ y. comes_before x y ≡ true) marks → AllByRecursion (λ y. comes_before h y ≡ true) marks
further h x [] t e = tt
further h x (y ∷ marks) t e = (before_trans h x y t e.0, further h x marks t e.1)

abbrev the_mark : Mark → Option Mark → Mark
the_mark x None = x
the_mark x (Some m) = m

same_mark : (x m : Mark) → Some x ≡ Some m → x ≡ m
same_mark x m e = ap (the_mark x) e

each_found : (P : Mark → Type 0) (p : Mark → Bool) (marks : List Mark) (m : Mark) → AllByRecursion P marks → find p marks ≡ Some m → P m
each_found P p [] m h e = let bad : ⊥ = cc in absurd bad
each_found P p (x ∷ marks) m h e =
    split (p x)
    (λ t. subst P (same_mark x m (sym (ap (λ b. cond b (Some x) (find p marks)) t) ∙ e)) h.0)
    (λ f. each_found P p marks m h.1 (sym (ap (λ b. cond b (Some x) (find p marks)) f) ∙ e))

-- the marks after a spot are the first of them and the marks after that
found_after : (h m : Mark) (marks : List Mark) → AreInOrder marks → find (comes_before h) marks ≡ Some m → after h marks ≡ m ∷ after m marks
found_after h m [] o e = let bad : ⊥ = cc in absurd bad
found_after h m (x ∷ marks) o e =
    split (comes_before h x)
    (λ t.
    let same : x ≡ m = same_mark x m (sym (ap (λ b. cond b (Some x) (find (comes_before h) marks)) t) ∙ e) in
    taken (comes_before h) x marks t
    ∙ ap (λ v. x ∷ v) (all_after h marks (further h x marks t o.0) ∙ sym (all_after x marks o.0) ∙ sym (passed (comes_before x) x marks (before_irrefl x)))
    ∙ (λ i. same i ∷ after (same i) (x ∷ marks)))
    (λ f.
    let there : find (comes_before h) marks ≡ Some m = sym (ap (λ b. cond b (Some x) (find (comes_before h) marks)) f) ∙ e in
    let behind : comes_before x m ≡ true = each_found (λ y. comes_before x y ≡ true) (comes_before h) marks m o.0 there in
    passed (comes_before h) x marks f ∙ found_after h m marks o.1 there
    ∙ ap (λ v. m ∷ v) (sym (passed (comes_before m) x marks (before_asym x m behind))))

none_after : (h : Mark) (marks : List Mark) → find (comes_before h) marks ≡ None → after h marks ≡ []
none_after h [] e = refl
none_after h (x ∷ marks) e =
    split (comes_before h x)
    (λ t. absurd (not_none x (sym (ap (λ b. cond b (Some x) (find (comes_before h) marks)) t) ∙ e)))
    (λ f. passed (comes_before h) x marks f ∙ none_after h marks (sym (ap (λ b. cond b (Some x) (find (comes_before h) marks)) f) ∙ e))
  where
    not_none : (y : Mark) → Some y ≡ None → ⊥
    not_none y k = cc

-- BEFORE A PLACE

later_by : (x y : ℕ) (o : Ordering) → is_lt (ordering_then (nat_cmp x y) o) ≡ true → x ≤ y
later_by x y o h =
    by_ranked _ _ _ (nat_cmp x y) (ranked x y (nat_cmp x y) refl)
    (λ e l. omega arith)
    (λ e same. omega arith)
    (λ e l. absurd (clash _ h (ap (λ v. is_lt (ordering_then v o)) e)))

later : (m y : Mark) → comes_before m y ≡ true → m.place ≤ y.place
later m y t = later_by m.place y.place (ordering_then (gravity_order m.gravity y.gravity) (name_order m.name y.name)) t

not_before : (p b : ℕ) → b ≤ p → nat_lt p b ≡ false
not_before p b l = grind (arith, nat_tests)

is_before : (p b : ℕ) → p < b → nat_lt p b ≡ true
is_before p b l = grind (arith, nat_tests)

none_far : (b : ℕ) (m : Mark) (marks : List Mark) → b ≤ m.place → marks_ahead b m marks ≡ []
none_far b m [] l = refl
none_far b m (y ∷ marks) l =
    split (comes_before m y)
    (λ t.
    let far : m.place ≤ y.place = later m y t in
    ap (filter (λ x. nat_lt x.place b)) (taken (comes_before m) y marks t)
    ∙ passed (λ x. nat_lt x.place b) y (after m marks) (not_before y.place b (omega arith)) ∙ none_far b m marks l)
    (λ f. ap (filter (λ x. nat_lt x.place b)) (passed (comes_before m) y marks f) ∙ none_far b m marks l)

-- WALKS

pub left_found : (b : ℕ) (h m : Mark) (marks : List Mark) → AreInOrder marks → find (comes_before h) marks ≡ Some m → m.place < b → marks_ahead b h marks ≡ m ∷ marks_ahead b m marks
left_found b h m marks o e l = ap (filter (λ x. nat_lt x.place b)) (found_after h m marks o e) ∙ taken (λ x. nat_lt x.place b) m (after m marks) (is_before m.place b l)

pub left_far : (b : ℕ) (h m : Mark) (marks : List Mark) → AreInOrder marks → find (comes_before h) marks ≡ Some m → b ≤ m.place → marks_ahead b h marks ≡ []
left_far b h m marks o e l =
    ap (filter (λ x. nat_lt x.place b)) (found_after h m marks o e) ∙ passed (λ x. nat_lt x.place b) m (after m marks) (not_before m.place b l) ∙ none_far b m marks l

pub left_none : (b : ℕ) (h : Mark) (marks : List Mark) → find (comes_before h) marks ≡ None → marks_ahead b h marks ≡ []
left_none b h marks e = ap (filter (λ x. nat_lt x.place b)) (none_after h marks e)

-- from an edge
pub left_first : (from b : ℕ) (marks : List Mark) → AllByRecursion (λ m. IsName m.name) marks → marks_from from b marks ≡ marks_ahead b (edge from) marks
left_first from b [] h = refl
left_first from b (x ∷ marks) h =
    let more = left_first from b marks h.1 in
    by (nat_le from x.place) more ∙ sym (ap (λ c. filter (λ m. nat_lt m.place b) (cond c (x ∷ after (edge from) marks) (after (edge from) marks))) (edge_first from x h.0))
  where
    by : (c : Bool) → marks_from from b marks ≡ marks_ahead b (edge from) marks
        → cond (c && nat_lt x.place b) (x ∷ marks_from from b marks) (marks_from from b marks) ≡ filter (λ m. nat_lt m.place b) (cond c (x ∷ after (edge from) marks) (after (edge from) marks))
    by true e = ap (λ v. cond (nat_lt x.place b) (x ∷ v) v) e
    by false e = e
