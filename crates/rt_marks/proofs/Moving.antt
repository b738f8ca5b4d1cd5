-- Marks after an edit of the text.
use Rattle.std.proofs.Common.{◌≡◌, ℕ, zero, suc, ◌+◌, ◌-◌, ◌<◌, ◌≤◌, ◌==◌, ◌&&◌, ◌||◌, nat_lt, List, [], ◌∷◌, ◌++◌, map, length, get_or, set, take, drop, append-nil, Vec, Global, true, false, refl, sym, ap, ◌∙◌, Bool, cond, subst, not, is_some, ◌⊎◌, inl, inr, Option, Some, None, option_map, arith}
use Rattle.std.specs.List.{AllByRecursion}
use Rattle.std.specs.Ordering.{nat_cmp, ordering_then, is_lt}
use Rattle.std.specs.Option.{option_map_or}
use Rattle.std.specs.declared.cmp.Ordering.{Ordering}
use Rattle.std.proofs.lemmas.Cmp.{ranked, by_ranked}
use Rattle.std.proofs.lemmas.Bool.Decides.{nat_tests}
use Rattle.std.proofs.lemmas.List.{take_all, drop_all, drop_more, get_or_at, length-map, length-take-le, with_items_is}
use Rattle.std.proofs.lemmas.List.Edits.{map_over_more}
use Rattle.std.specs.Vec.{with_items}
use Rattle.rt_marks.specs.declared.gravity.Gravity.{Gravity}
use Rattle.rt_marks.specs.declared.gravity.Gravity.TheVariants.{Left, Right}
use Rattle.rt_marks.specs.declared.mark.Mark.{Mark as KeptMark}
use Rattle.rt_marks.specs.Marks.{Mark, gravity_order, name_order, comes_before, AreInOrder, is_named, mark_of_name, is_right, is_moved_on, place_inserted, mark_inserted, marks_inserted, place_removed, mark_removed, marks_removed, HaveOwnNames, without_mark, put_mark, gravity_or_right, marks_set, marks_with_gravity}
use Rattle.rt_marks.specs.Seen.{seen_mark, seen_all, names_of_marks}
use Rattle.rt_marks.proofs.InOrder.{split, each_in_order, each_with}
use Rattle.rt_marks.proofs.Names.{clash, named_in_order}

-- which of two marks comes first is decided by their places, and at one place by the rest
pub places_decide : (x y : ℕ) (o : Ordering) → is_lt (ordering_then (nat_cmp x y) o) ≡ true → (x < y) ⊎ ((x ≡ y) × (is_lt o ≡ true))
places_decide x y o h =
    by_ranked _ _ _ (nat_cmp x y) (ranked x y (nat_cmp x y) refl)
    (λ e l. inl l)
    (λ e same. inr (same, sym (ap (λ v. is_lt (ordering_then v o)) e) ∙ h))
    (λ e l. absurd (clash false (sym (ap (λ v. is_lt (ordering_then v o)) e) ∙ h) refl))

pub before_less : (x y : ℕ) (o : Ordering) → x < y → is_lt (ordering_then (nat_cmp x y) o) ≡ true
before_less x y o h =
    by_ranked _ _ _ (nat_cmp x y) (ranked x y (nat_cmp x y) refl)
    (λ e l. ap (λ v. is_lt (ordering_then v o)) e)
    (λ e same. absurd (omega (arith, h, same)))
    (λ e l. absurd (omega (arith, h, l)))

pub before_rest : (x y : ℕ) (o : Ordering) → x ≤ y → is_lt o ≡ true → is_lt (ordering_then (nat_cmp x y) o) ≡ true
before_rest x y o h k =
    by_ranked _ _ _ (nat_cmp x y) (ranked x y (nat_cmp x y) refl)
    (λ e l. ap (λ v. is_lt (ordering_then v o)) e)
    (λ e same. ap (λ v. is_lt (ordering_then v o)) e ∙ k)
    (λ e l. absurd (omega (arith, h, l)))

abbrev shifted : ℕ → ℕ → ℕ → Bool → ℕ
shifted place n x right = cond (nat_lt place x || ((x == place) && right)) (x + n) x

shifted_less : (place n x y : ℕ) (r s : Bool) → x < y → shifted place n x r < shifted place n y s
shifted_less place n x y true true h = grind (arith, nat_tests)
shifted_less place n x y true false h = grind (arith, nat_tests)
shifted_less place n x y false true h = grind (arith, nat_tests)
shifted_less place n x y false false h = grind (arith, nat_tests)

shifted_same : (place n x : ℕ) (r s : Bool) → (r ≡ true → s ≡ true) → shifted place n x r ≤ shifted place n x s
shifted_same place n x true true h = omega arith
shifted_same place n x true false h = absurd (clash false (h refl) refl)
shifted_same place n x false true h = grind (arith, nat_tests)
shifted_same place n x false false h = omega arith

-- of two marks at one place, a right one comes before no left one
right_follows : (g k : Gravity) (o : Ordering) → is_lt (ordering_then (gravity_order g k) o) ≡ true → is_right g ≡ true → is_right k ≡ true
right_follows Left k o h r = absurd (clash false r refl)
right_follows Right Left o h r = absurd (clash false h refl)
right_follows Right Right o h r = refl

inserted_before : (place n : ℕ) (a b : Mark) → comes_before a b ≡ true → comes_before (mark_inserted place n a) (mark_inserted place n b) ≡ true
inserted_before place n a b h =
    let rest = ordering_then (gravity_order a.gravity b.gravity) (name_order a.name b.name) in
    elim (places_decide a.place b.place rest h) as (λ _. comes_before (mark_inserted place n a) (mark_inserted place n b) ≡ true) [
      | inl l ↦ before_less (place_inserted place n a) (place_inserted place n b) rest (shifted_less place n a.place b.place (is_right a.gravity) (is_right b.gravity) l)
      | inr k ↦
          let right : is_right a.gravity ≡ true → is_right b.gravity ≡ true = right_follows a.gravity b.gravity (name_order a.name b.name) k.1 in
          let le : shifted place n a.place (is_right a.gravity) ≤ shifted place n b.place (is_right b.gravity) =
          subst (λ v. shifted place n a.place (is_right a.gravity) ≤ shifted place n v (is_right b.gravity)) k.0 (shifted_same place n a.place (is_right a.gravity) (is_right b.gravity) right) in
          before_rest (place_inserted place n a) (place_inserted place n b) rest le k.1
    ]

each_inserted : (place n : ℕ) (m : Mark) (marks : List Mark) → AllByRecursion (λ x. comes_before m x ≡ true) marks → AllByRecursion (λ x. comes_before (mark_inserted place n m) x ≡ true) (marks_inserted place n marks)
each_inserted place n m [] h = tt
each_inserted place n m (x ∷ marks) h = (inserted_before place n m x h.0, each_inserted place n m marks h.1)

pub inserted_in_order : (place n : ℕ) (marks : List Mark) → AreInOrder marks → AreInOrder (marks_inserted place n marks)
inserted_in_order place n [] h = tt
inserted_in_order place n (m ∷ marks) h = (each_inserted place n m marks h.0, inserted_in_order place n marks h.1)

-- MARKS AT NEW PLACES

abbrev pub moved : (Mark → ℕ) → Mark → Mark
moved place m = record m { place = place m }

pub named_moved : (place : Mark → ℕ) (q : List ℕ) (marks : List Mark) → mark_of_name q (map (moved place) marks) ≡ option_map (moved place) (mark_of_name q marks)
named_moved place q [] = refl
named_moved place q (m ∷ marks) =
    let more = named_moved place q marks in
    split (is_named q m)
    (λ t. ap (λ b. cond b (Some (moved place m)) (mark_of_name q (map (moved place) marks))) t ∙ sym (ap (λ b. option_map (moved place) (cond b (Some m) (mark_of_name q marks))) t))
    (λ f. ap (λ b. cond b (Some (moved place m)) (mark_of_name q (map (moved place) marks))) f ∙ more ∙ sym (ap (λ b. option_map (moved place) (cond b (Some m) (mark_of_name q marks))) f))

pub own_moved : (place : Mark → ℕ) (marks : List Mark) → HaveOwnNames marks → HaveOwnNames (map (moved place) marks)
own_moved place [] h = tt
own_moved place (m ∷ marks) h = (named_moved place m.name marks ∙ ap (option_map (moved place)) h.0, own_moved place marks h.1)

pub named_inserted : (place n : ℕ) (q : List ℕ) (marks : List Mark) → mark_of_name q (marks_inserted place n marks) ≡ option_map (mark_inserted place n) (mark_of_name q marks)
named_inserted place n q marks = named_moved (place_inserted place n) q marks

pub named_removed : (place n : ℕ) (q : List ℕ) (marks : List Mark) → HaveOwnNames marks → mark_of_name q (marks_removed place n marks) ≡ option_map (mark_removed place n) (mark_of_name q marks)
named_removed place n q marks h =
    let to : Mark → ℕ = λ m. place_removed place n m.place in
    named_in_order (map (moved to) marks) (own_moved to marks h) q ∙ named_moved to q marks

at_most : (b : Bool) (x n : ℕ) → cond b (x + n) x ≤ x + n
at_most true x n = omega arith
at_most false x n = omega arith

pub within_inserted : (place n size : ℕ) (marks : List Mark) → AllByRecursion (λ m. m.place ≤ size) marks → AllByRecursion (λ m. m.place ≤ size + n) (marks_inserted place n marks)
within_inserted place n size [] h = tt
within_inserted place n size (m ∷ marks) h = (omega (arith, at_most (is_moved_on place m.place m.gravity) m.place n, h.0), within_inserted place n size marks h.1)

removed_at_most : (place n size p : ℕ) → place + n ≤ size → p ≤ size → place_removed place n p ≤ size - n
removed_at_most place n size p h k = grind (arith, nat_tests)

each_removed : (place n size : ℕ) (marks : List Mark) → place + n ≤ size → AllByRecursion (λ m. m.place ≤ size) marks → AllByRecursion (λ m. m.place ≤ size - n) (map (mark_removed place n) marks)
each_removed place n size [] k h = tt
each_removed place n size (m ∷ marks) k h = (removed_at_most place n size m.place k h.0, each_removed place n size marks k h.1)

pub within_removed : (place n size : ℕ) (marks : List Mark) → place + n ≤ size → AllByRecursion (λ m. m.place ≤ size) marks → AllByRecursion (λ m. m.place ≤ size - n) (marks_removed place n marks)
within_removed place n size marks k h = each_in_order (λ m. m.place ≤ size - n) (map (mark_removed place n) marks) (each_removed place n size marks k h)

each_without : (P : Mark → Type 0) (name : List ℕ) (marks : List Mark) → AllByRecursion P marks → AllByRecursion P (without_mark name marks)
each_without P name [] h = tt
each_without P name (m ∷ marks) h =
    let more = each_without P name marks h.1 in
    let others = without_mark name marks in
    split (is_named name m)
    (λ t. subst (λ v. AllByRecursion P v) (sym (ap (λ b. cond (not b) (m ∷ others) others) t)) more)
    (λ f. subst (λ v. AllByRecursion P v) (sym (ap (λ b. cond (not b) (m ∷ others) others) f)) (h.0, more))

each_named : (P : Mark → Type 0) (name : List ℕ) (m : Mark) (marks : List Mark) → AllByRecursion P marks → mark_of_name name marks ≡ Some m → P m
each_named P name m [] h e = absurd (clash false (ap is_some e) refl)
each_named P name m (x ∷ marks) h e =
    let more = each_named P name m marks h.1 in
    split (is_named name x)
    (λ t. let same : Some x ≡ Some m = sym (ap (λ b. cond b (Some x) (mark_of_name name marks)) t) ∙ e in
    subst P (ap (λ o. option_map_or (λ (y : Mark). y) o x) same) h.0)
    (λ f. more (sym (ap (λ b. cond b (Some x) (mark_of_name name marks)) f) ∙ e))

pub within_set : (name : List ℕ) (place size : ℕ) (marks : List Mark) → place ≤ size → AllByRecursion (λ m. m.place ≤ size) marks → AllByRecursion (λ m. m.place ≤ size) (marks_set name place marks)
within_set name place size marks l h =
    let P : Mark → Type 0 = λ m. m.place ≤ size in
    each_with P (record { name = name; place = place; gravity = gravity_or_right name marks }) (without_mark name marks) l (each_without P name marks h)

pub within_unset : (name : List ℕ) (size : ℕ) (marks : List Mark) → AllByRecursion (λ m. m.place ≤ size) marks → AllByRecursion (λ m. m.place ≤ size) (without_mark name marks)
within_unset name size marks h = each_without (λ m. m.place ≤ size) name marks h

pub within_gravity : (name : List ℕ) (gravity : Gravity) (size : ℕ) (marks : List Mark) → AllByRecursion (λ m. m.place ≤ size) marks → AllByRecursion (λ m. m.place ≤ size) (marks_with_gravity name gravity marks)
within_gravity name gravity size marks h = by (mark_of_name name marks) refl where
  by : (o : Option Mark) → mark_of_name name marks ≡ o → AllByRecursion (λ m. m.place ≤ size) (option_map_or (λ (m : Mark). put_mark (record m { gravity = gravity }) marks) o marks)
  by None e = h
  by (Some m) e =
      each_with (λ x. x.place ≤ size) (record m { gravity = gravity }) (without_mark m.name marks) (each_named (λ x. x.place ≤ size) name m marks h e) (each_without (λ x. x.place ≤ size) m.name marks h)

pub within_more : (size most n : ℕ) (marks : List Mark) → size + n ≤ most → AllByRecursion (λ m. m.place ≤ size) marks → AllByRecursion (λ m. m.place + n ≤ most) marks
within_more size most n [] l h = tt
within_more size most n (m ∷ marks) l h = (omega (arith, l, h.0), within_more size most n marks l h.1)

-- KEPT MARKS

pub seen_map : (f : KeptMark → KeptMark) (g : Mark → Mark) → ((m : KeptMark) → seen_mark (f m) ≡ g (seen_mark m)) → (items : List KeptMark) → seen_all (map f items) ≡ map g (seen_all items)
seen_map f g e [] = refl
seen_map f g e (m ∷ items) = λ j. e m j ∷ seen_map f g e items j

pub names_moved : (place : Mark → ℕ) (marks : List Mark) → names_of_marks (map (moved place) marks) ≡ names_of_marks marks
names_moved place [] = refl
names_moved place (m ∷ marks) = ap (λ v. m.name ∷ v) (names_moved place marks)

abbrev pub replaced : (Mark → ℕ) → KeptMark → KeptMark
replaced place m = record m { place = place (seen_mark m) }

-- A LOOP THAT WRITES EACH PLACE

all_written : (f : KeptMark → KeptMark) (xs ys : List KeptMark) (i : ℕ) → length xs ≤ i → ys ≡ map f (take i xs) ++ drop i xs → ys ≡ map f xs
all_written f xs ys i l h =
    h ∙ ap (λ v. map f v ++ drop i xs) (take_all i xs l) ∙ ap (λ v. map f xs ++ v) (drop_all i xs l) ∙ append-nil (map f xs)

pub written_back : (v : Vec KeptMark Global) (f : KeptMark → KeptMark) (xs ys : List KeptMark) (i : ℕ) → length ys ≡ v.len → xs ≡ v.items → length xs ≤ i → ys ≡ map f (take i xs) ++ drop i xs → (with_items v ys).items ≡ map f v.items
written_back v f xs ys i n e l h = with_items_is v ys n ∙ all_written f xs ys i l h ∙ ap (map f) e

-- the mark that is written next is still as it was
pub unwritten : (f : KeptMark → KeptMark) (xs ys : List KeptMark) (i : ℕ) (d : KeptMark) → i < length xs → ys ≡ map f (take i xs) ++ drop i xs → get_or ys i d ≡ get_or xs i d
unwritten f xs ys i d l h =
    ap (λ v. get_or v i d) (h ∙ ap (λ v. map f (take i xs) ++ v) (drop_more xs i d l))
    ∙ get_or_at (map f (take i xs)) (get_or xs i d) (drop (i + 1) xs) d i (length-map (take i xs) f ∙ length-take-le i xs (omega (arith, l)))

pub one_written : (place : Mark → ℕ) (xs ys : List KeptMark) (i : ℕ) (x : KeptMark) (p : ℕ) → i < length xs → ys ≡ map (replaced place) (take i xs) ++ drop i xs → x ≡ get_or ys i x → p ≡ place (seen_mark (get_or ys i x)) → set ys i (record (get_or ys i x) { place = p }) ≡ map (replaced place) (take (i + 1) xs) ++ drop (i + 1) xs
one_written place xs ys i x p l h e k =
    ap (λ v. set ys i (record (get_or ys i x) { place = v })) k ∙ map_over_more (replaced place) xs ys i (get_or ys i x) l h (ap (λ v. get_or ys i v) e)

pub each_at : (P : Mark → Type 0) (items : List KeptMark) → AllByRecursion P (seen_all items) → (i : ℕ) (d : KeptMark) → i < length items → P (seen_mark (get_or items i d))
each_at P [] h i d l = absurd (omega (arith, l))
each_at P (m ∷ items) h zero d l = h.0
each_at P (m ∷ items) h (suc i) d l = each_at P items h.1 i d (omega (arith, l))
