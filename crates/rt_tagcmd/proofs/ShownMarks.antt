-- The marks of a widget, at their places among the characters that it shows.
use Rattle.std.proofs.Common.{◌≡◌, ℕ, ◌≤◌, ◌&&◌, List, [], ◌∷◌, true, false, refl, sym, ap, ◌∙◌, Bool, cond, subst, arith, Option, Some, None, map, option_map}
use Rattle.std.specs.List.{AllByRecursion}
use Rattle.std.specs.Prelude.{◌==◌, codes}
use Rattle.std.proofs.lemmas.Bool.Decides.{nat_tests}
use Rattle.std.specs.Str.{bytes_eq}
use Rattle.std.proofs.lemmas.Slice.Eq.{bytes_eq-Decides}
use Rattle.rt_marks.specs.Marks.{Mark, HaveOwnNames, IsName, AreInOrder, in_order, is_named, mark_of_name, with_mark}
use Rattle.rt_marks.proofs.InOrder.{each_in_order, each_with, in_order_same, split}
use Rattle.rt_marks.proofs.Moving.{named_moved, own_moved}
use Rattle.rt_marks.proofs.Names.{clash, named_in_order, named_with, none_cons, ordered_in_order, ordered_with, same_name}
use Rattle.rt_lines.specs.declared.stretch.Stretch.{Stretch}
use Rattle.rt_lines.specs.Stretches.{seen_place}
use Rattle.rt_text.specs.Widgets.{AreSiteMarks, WidgetValue, ViewValue, is_own, mark_among, mark_of, mark_seen, marks_of, marks_shown, own_or, widget_shown, stretch_by}
use Rattle.rt_text.specs.declared.own_mark.OwnMark.TheVariants.{Insert, Current}

-- NAMES

-- a mark of the site has a name, which isn't an own mark's
abbrev IsOther : Mark → Type 0
IsOther m = IsName m.name × (is_own m.name ≡ false)

others_of : (n : ℕ) (marks : List Mark) → AreSiteMarks n marks → AllByRecursion IsOther marks
others_of n [] h = tt
others_of n (m ∷ marks) h = ((h.0.name, h.0.other), others_of n marks h.1)

others_seen : (stretch : Stretch) (marks : List Mark) → AllByRecursion IsOther marks → AllByRecursion IsOther (map (mark_seen stretch) marks)
others_seen stretch [] h = tt
others_seen stretch (m ∷ marks) h = (h.0, others_seen stretch marks h.1)

none_own : (q : List ℕ) (marks : List Mark) → AllByRecursion IsOther marks → is_own q ≡ true → mark_of_name q marks ≡ None
none_own q [] h t = refl
none_own q (m ∷ marks) h t =
    let more = none_own q marks h.1 t in
    split (is_named q m)
    (λ s. absurd (clash _ (subst (λ v. is_own v ≡ true) (sym (same_name m.name q s)) t) h.0.1))
    (λ f. none_cons q m marks f more)

turned : (a b : List ℕ) → bytes_eq a b ≡ bytes_eq b a
turned a b =
    split (bytes_eq a b)
    (λ t. t ∙ sym ((bytes_eq-Decides b a).1 (sym (same_name a b t))))
    (λ f. f ∙ split (bytes_eq b a) (λ s. absurd (clash _ ((bytes_eq-Decides a b).1 (sym (same_name b a s))) f)) (λ g. sym g))

-- the names of own marks are two
apart : (own : WidgetValue) → own.insert.name ≡ codes "insert" → own.current.name ≡ codes "current" → is_named own.insert.name own.current ≡ false
apart own a b = (λ i. bytes_eq (b i) (a i))

named_all : (own : WidgetValue) (marks : List Mark) (q : List ℕ) → own.insert.name ≡ codes "insert" → own.current.name ≡ codes "current" → mark_of_name (codes "insert") marks ≡ None → mark_of_name (codes "current") marks ≡ None → mark_of_name q (with_mark own.insert (with_mark own.current marks)) ≡ mark_among own marks q
named_all own marks q a b na nb =
    let none : mark_of_name own.current.name marks ≡ None = ap (λ v. mark_of_name v marks) b ∙ nb in
    let both : mark_of_name own.insert.name (with_mark own.current marks) ≡ None =
    named_with own.insert.name own.current marks none ∙ none_cons own.insert.name own.current marks (apart own a b) (ap (λ v. mark_of_name v marks) a ∙ na) in
    named_with q own.insert (with_mark own.current marks) both
    ∙ ap (λ v. cond (is_named q own.insert) (Some own.insert) v) (named_with q own.current marks none)
    ∙ (λ i. cond ((turned own.insert.name q ∙ ap (bytes_eq q) a) i) (Some own.insert) (cond ((turned own.current.name q ∙ ap (bytes_eq q) b) i) (Some own.current) (mark_of_name q marks)))
    ∙ by (bytes_eq q (codes "insert")) (bytes_eq q (codes "current")) (mark_of_name q marks)
  where
    by : (insert current : Bool) (other : Option Mark) → cond insert (Some own.insert) (cond current (Some own.current) other) ≡ own_or (cond insert (Some Insert) (cond current (Some Current) None)) own other
    by true current other = refl
    by false true other = refl
    by false false other = refl

both_ordered : (own : WidgetValue) (marks : List Mark) → own.insert.name ≡ codes "insert" → own.current.name ≡ codes "current" → mark_of_name (codes "insert") marks ≡ None → mark_of_name (codes "current") marks ≡ None → AreInOrder marks
    → AreInOrder (with_mark own.current marks) × AreInOrder (with_mark own.insert (with_mark own.current marks))
both_ordered own marks a b na nb o =
    let none : mark_of_name own.current.name marks ≡ None = ap (λ v. mark_of_name v marks) b ∙ nb in
    let both : mark_of_name own.insert.name (with_mark own.current marks) ≡ None =
    named_with own.insert.name own.current marks none ∙ none_cons own.insert.name own.current marks (apart own a b) (ap (λ v. mark_of_name v marks) a ∙ na) in
    let first = ordered_with own.current marks none o in
    (first, ordered_with own.insert (with_mark own.current marks) both first)

names_of_others : (marks : List Mark) → AllByRecursion IsOther marks → AllByRecursion (λ m. IsName m.name) marks
names_of_others [] h = tt
names_of_others (m ∷ marks) h = (h.0.0, names_of_others marks h.1)

own_named : (name : List ℕ) (q : List ℕ) → name ≡ q → IsName q → IsName name
own_named name q e h = subst IsName (sym e) h

-- WHAT IS SHOWN

pub own_seen_names : (stretch : Stretch) (marks : List Mark) → HaveOwnNames marks → HaveOwnNames (map (mark_seen stretch) marks)
own_seen_names stretch marks h = own_moved (λ m. seen_place stretch m.place) marks h

pub named_seen : (stretch : Stretch) (q : List ℕ) (marks : List Mark) → HaveOwnNames marks → mark_of_name q (in_order (map (mark_seen stretch) marks)) ≡ option_map (mark_seen stretch) (mark_of_name q marks)
named_seen stretch q marks h =
    named_in_order (map (mark_seen stretch) marks) (own_seen_names stretch marks h) q ∙ named_moved (λ m. seen_place stretch m.place) q marks

-- what is so of the marks of a widget
pub record AreShown (view : ViewValue) : Type 0 where
  pub order : AreInOrder (marks_of view)
  pub names : AllByRecursion (λ m. IsName m.name) (marks_of view)
  pub among : (name : List ℕ) → mark_of_name name (marks_of view) ≡ mark_of view name
  pub current : AreInOrder (with_mark (widget_shown view).current (marks_shown view))
  pub site : AreInOrder (marks_shown view)
  pub shown : (name : List ℕ) → mark_of_name name (marks_shown view) ≡ option_map (mark_seen (stretch_by view)) (mark_of_name name view.doc.marks)

pub marks_are_shown : (view : ViewValue) (n : ℕ) → AreSiteMarks n view.doc.marks → HaveOwnNames view.doc.marks → view.own.insert.name ≡ codes "insert" → view.own.current.name ≡ codes "current" → AreShown view
marks_are_shown view n site own a b =
    let stretch = stretch_by view in
    let seen = map (mark_seen stretch) view.doc.marks in
    let others : AllByRecursion IsOther (marks_shown view) = each_in_order IsOther seen (others_seen stretch view.doc.marks (others_of n view.doc.marks site)) in
    let no_insert = none_own (codes "insert") (marks_shown view) others refl in
    let no_current = none_own (codes "current") (marks_shown view) others refl in
    let ordered : AreInOrder (marks_shown view) = ordered_in_order seen (own_seen_names stretch view.doc.marks own) in
    let both = both_ordered (widget_shown view) (marks_shown view) a b no_insert no_current ordered in
    record {
      order = both.1;
      names = each_with (λ m. IsName m.name) (widget_shown view).insert (with_mark (widget_shown view).current (marks_shown view)) (own_named view.own.insert.name (codes "insert") a (omega arith, omega arith))
          (each_with (λ m. IsName m.name) (widget_shown view).current (marks_shown view) (own_named view.own.current.name (codes "current") b (omega arith, omega arith)) (names_of_others (marks_shown view) others));
      among = λ name. named_all (widget_shown view) (marks_shown view) name a b no_insert no_current;
      current = both.0;
      site = ordered;
      shown = λ name. named_seen stretch name view.doc.marks own;
    }

-- WHERE ALL OF THE TEXT IS SHOWN

within_all : (n p : ℕ) (stretch : Stretch) → stretch.begin ≡ 0 → stretch.end ≡ n → p ≤ n → seen_place stretch p ≡ p
within_all n p stretch b e h = omega (arith, b, e, h)

unmoved : (n : ℕ) (stretch : Stretch) (marks : List Mark) → stretch.begin ≡ 0 → stretch.end ≡ n → AreSiteMarks n marks → map (mark_seen stretch) marks ≡ marks
unmoved n stretch [] b e h = refl
unmoved n stretch (m ∷ marks) b e h =
    let same : seen_place stretch m.place ≡ m.place = within_all n m.place stretch b e h.0.place in
    let here : mark_seen stretch m ≡ m = ap (λ (p : ℕ). record m { place = p }) same in
    (λ i. here i ∷ unmoved n stretch marks b e h.1 i)

-- the marks stand where they stand in the text
pub all_shown : (n : ℕ) (stretch : Stretch) (marks : List Mark) → stretch.begin ≡ 0 → stretch.end ≡ n → AreSiteMarks n marks → AreInOrder marks → in_order (map (mark_seen stretch) marks) ≡ marks
all_shown n stretch marks b e h o = ap in_order (unmoved n stretch marks b e h) ∙ in_order_same marks o

-- both tests of that pass
pub both_ends : (begin end n : ℕ) → (begin == 0 && end == n) ≡ true → (begin ≡ 0) × (end ≡ n)
both_ends begin end n h = grind (arith, nat_tests, h)
