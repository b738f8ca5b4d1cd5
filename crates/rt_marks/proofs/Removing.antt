-- The order after a removal: the marks that came to stand at one place are written anew.
use Rattle.std.proofs.Common.{◌≡◌, ℕ, suc, ◌+◌, ◌-◌, ◌<◌, ◌≤◌, ◌==◌, ◌&&◌, nat_lt, nat_le, List, [], ◌∷◌, ◌++◌, map, filter, length, take, drop, true, false, refl, sym, ap, ◌∙◌, Bool, cond, not, subst, arith, append_assoc, append-nil, take-append-drop, ◌⊎◌, inl, inr}
use Rattle.std.specs.List.{AllByRecursion}
use Rattle.std.specs.Ordering.{is_lt, ordering_then}
use Rattle.std.proofs.lemmas.Bool.{eqb-true, eq-eqb}
use Rattle.std.proofs.lemmas.Bool.Decides.{nat_tests}
use Rattle.std.proofs.Math.Seq.{take-append_seam, drop-append_seam}
use Rattle.std.proofs.lemmas.List.{map-append, take-map, drop-map, length-map, length-append, length-take-le, get_or-map}
use Rattle.std.proofs.lemmas.List.Elements.{filter-append}
use Rattle.rt_marks.specs.declared.gravity.Gravity.{Gravity}
use Rattle.rt_marks.specs.declared.gravity.Gravity.TheVariants.{Left, Right}
use Rattle.rt_marks.specs.Marks
use Rattle.rt_marks.specs.Marks.{Mark, gravity_order, name_order, comes_before, AreInOrder, AreAscending, mark_removed, marks_removed, place_removed, mark_inserted, marks_inserted}
use Rattle.rt_marks.specs.Seen.{names_of_marks, no_mark, in_slot, in_slots, slot_times, IsEachOnce, IsIndexed, MarksPartAt, same_gravity, stands, slot_stands, overwritten}
use Rattle.rt_marks.proofs.InOrder.{split, in_order_same}
use Rattle.rt_marks.proofs.Names.{clash}
use Rattle.rt_marks.proofs.Moving.{before_less, before_rest, inserted_in_order, names_moved, places_decide}
use Rattle.rt_marks.proofs.Times
use Rattle.rt_marks.proofs.Times.{each_below, each_present, each_there, not_once, once, present, same_order, same_times, tally, times_append, times_middle}
use Rattle.rt_marks.proofs.Slots.{each_also, each_both, each_first, each_from, each_of, each_second, each_weaker, order_back, order_both, order_front, same_marks}
use Rattle.rt_marks.proofs.Searching.{within}

-- NUMBERS THAT PASS A TEST

abbrev pub kept : Bool → ℕ → ℕ
kept b n = cond b n 0

kept_none : (b : Bool) → kept b 0 ≡ 0
kept_none true = refl
kept_none false = refl

pub times_filter : (t : ℕ → Bool) (s : ℕ) (xs : List ℕ) → slot_times s (filter t xs) ≡ kept (t s) (slot_times s xs)
times_filter t s [] = sym (kept_none (t s))
times_filter t s (x ∷ xs) =
    let more = times_filter t s xs in
    split (t x)
    (λ k. ap (λ b. slot_times s (cond b (x ∷ filter t xs) (filter t xs))) k ∙ ap (λ v. tally (x == s) + v) more ∙ passes k)
    (λ k. ap (λ b. slot_times s (cond b (x ∷ filter t xs) (filter t xs))) k ∙ more ∙ fails k)
  where
    one : (b : Bool) (c r : ℕ) → b ≡ true → c + kept b r ≡ kept b (c + r)
    one b c r h = ap (λ v. c + kept v r) h ∙ sym (ap (λ v. kept v (c + r)) h)

    zeros : (r : ℕ) → r ≡ tally false + r
    zeros r = omega arith

    two : (b : Bool) (r : ℕ) → kept b r ≡ kept b (tally false + r)
    two b r = ap (kept b) (zeros r)

    three : (b : Bool) (r : ℕ) → tally false + kept b r ≡ kept b (tally false + r)
    three b r = sym (zeros (kept b r)) ∙ two b r

    passes : t x ≡ true → tally (x == s) + kept (t s) (slot_times s xs) ≡ kept (t s) (slot_times s (x ∷ xs))
    passes k = split (x == s)
        (λ e. one (t s) (tally (x == s)) (slot_times s xs) (ap t (sym (eqb-true x s e)) ∙ k))
        (λ f. ap (λ v. tally v + kept (t s) (slot_times s xs)) f ∙ three (t s) (slot_times s xs) ∙ sym (ap (λ v. kept (t s) (tally v + slot_times s xs)) f))

    fails : t x ≡ false → kept (t s) (slot_times s xs) ≡ kept (t s) (slot_times s (x ∷ xs))
    fails k = split (x == s)
        (λ e. let f : t s ≡ false = ap t (sym (eqb-true x s e)) ∙ k in ap (λ v. kept v (slot_times s xs)) f ∙ sym (ap (λ v. kept v (slot_times s (x ∷ xs))) f))
        (λ f. two (t s) (slot_times s xs) ∙ sym (ap (λ v. kept (t s) (tally v + slot_times s xs)) f))

filter_same : (t : ℕ → Bool) (xs ys : List ℕ) → ((s : ℕ) → slot_times s xs ≡ slot_times s ys) → (s : ℕ) → slot_times s (filter t xs) ≡ slot_times s (filter t ys)
filter_same t xs ys h s = times_filter t s xs ∙ ap (kept (t s)) (h s) ∙ sym (times_filter t s ys)

-- numbers that stand as often are as many
same_length : (xs ys : List ℕ) → ((s : ℕ) → slot_times s xs ≡ slot_times s ys) → length xs ≡ length ys
same_length [] [] h = refl
same_length [] (y ∷ ys) h = absurd (omega (arith, h y, once y))
same_length (x ∷ xs) ys h =
    let r = present x ys (omega (arith, h x, once x)) in
    let fewer : (s : ℕ) → slot_times s xs ≡ slot_times s (r.front ++ r.back) = λ s. omega (arith, h s, times_middle s r.front x r.back, ap (slot_times s) r.is) in
    omega (arith, same_length xs (r.front ++ r.back) fewer, length-append r.front r.back, ap length r.is, length-append r.front (x ∷ r.back))

none_pass : (t : ℕ → Bool) (xs : List ℕ) → AllByRecursion (λ s. t s ≡ false) xs → filter t xs ≡ []
none_pass t [] h = refl
none_pass t (x ∷ xs) h = ap (λ b. cond b (x ∷ filter t xs) (filter t xs)) h.0 ∙ none_pass t xs h.1

pub each_passes : (t : ℕ → Bool) (P : ℕ → Type 0) (xs : List ℕ) → ((s : ℕ) → t s ≡ true → P s) → AllByRecursion P (filter t xs)
each_passes t P [] h = tt
each_passes t P (x ∷ xs) h =
    let more = each_passes t P xs h in
    split (t x)
    (λ k. subst (λ b. AllByRecursion P (cond b (x ∷ filter t xs) (filter t xs))) (sym k) (h x k, more))
    (λ k. subst (λ b. AllByRecursion P (cond b (x ∷ filter t xs) (filter t xs))) (sym k) more)

pub each_filter : (t : ℕ → Bool) (P : ℕ → Type 0) (xs : List ℕ) → AllByRecursion P xs → AllByRecursion P (filter t xs)
each_filter t P [] h = tt
each_filter t P (x ∷ xs) h =
    let more = each_filter t P xs h.1 in
    split (t x)
    (λ k. subst (λ b. AllByRecursion P (cond b (x ∷ filter t xs) (filter t xs))) (sym k) (h.0, more))
    (λ k. subst (λ b. AllByRecursion P (cond b (x ∷ filter t xs) (filter t xs))) (sym k) more)

-- of numbers that pass one of two tests, none both
both_tests : (t u : ℕ → Bool) (xs : List ℕ) → AllByRecursion (λ s. u s ≡ not (t s)) xs → (s : ℕ) → slot_times s (filter t xs) + slot_times s (filter u xs) ≡ slot_times s xs
both_tests t u [] h s = refl
both_tests t u (x ∷ xs) h s =
    let more = both_tests t u xs h.1 s in
    split (t x)
    (λ k. let j : u x ≡ false = h.0 ∙ ap not k in
    ap (λ b. slot_times s (cond b (x ∷ filter t xs) (filter t xs)) + slot_times s (filter u (x ∷ xs))) k ∙ ap (λ b. slot_times s (x ∷ filter t xs) + slot_times s (cond b (x ∷ filter u xs) (filter u xs))) j
    ∙ first (tally (x == s)) (slot_times s (filter t xs)) (slot_times s (filter u xs)) (slot_times s xs) more)
    (λ k. let j : u x ≡ true = h.0 ∙ ap not k in
    ap (λ b. slot_times s (cond b (x ∷ filter t xs) (filter t xs)) + slot_times s (filter u (x ∷ xs))) k ∙ ap (λ b. slot_times s (filter t xs) + slot_times s (cond b (x ∷ filter u xs) (filter u xs))) j
    ∙ second (tally (x == s)) (slot_times s (filter t xs)) (slot_times s (filter u xs)) (slot_times s xs) more)
  where
    first : (c a b r : ℕ) → a + b ≡ r → (c + a) + b ≡ c + r
    first c a b r h = omega (arith, h)

    second : (c a b r : ℕ) → a + b ≡ r → a + (c + b) ≡ c + r
    second c a b r h = omega (arith, h)

-- WHICH COMES FIRST

place_before : (a b : Mark) → a.place < b.place → comes_before a b ≡ true
place_before a b l = before_less a.place b.place (ordering_then (gravity_order a.gravity b.gravity) (name_order a.name b.name)) l

gravity_before : (a b : Mark) → a.place ≤ b.place → a.gravity ≡ Left → b.gravity ≡ Right → comes_before a b ≡ true
gravity_before a b l g h =
    before_rest a.place b.place (ordering_then (gravity_order a.gravity b.gravity) (name_order a.name b.name)) l
    ((λ i. is_lt (ordering_then (gravity_order (g i) (h i)) (name_order a.name b.name))))

name_before : (a b : Mark) (g : Gravity) → a.place ≤ b.place → a.gravity ≡ g → b.gravity ≡ g → is_lt (name_order a.name b.name) ≡ true → comes_before a b ≡ true
name_before a b g l ga gb n =
    before_rest a.place b.place (ordering_then (gravity_order a.gravity b.gravity) (name_order a.name b.name)) l
    ((λ i. is_lt (ordering_then (gravity_order (ga i) (gb i)) (name_order a.name b.name))) ∙ tied g ∙ n)
  where
    tied : (g : Gravity) → is_lt (ordering_then (gravity_order g g) (name_order a.name b.name)) ≡ is_lt (name_order a.name b.name)
    tied Left = refl
    tied Right = refl

crossing : (P Q : Mark → Type 0) (xs ys : List Mark) → ((a b : Mark) → P a → Q b → comes_before a b ≡ true) → AllByRecursion P xs → AllByRecursion Q ys → AllByRecursion (λ x. AllByRecursion (λ y. comes_before x y ≡ true) ys) xs
crossing P Q [] ys f h k = tt
crossing P Q (x ∷ xs) ys f h k = (each_weaker Q (λ y. comes_before x y ≡ true) ys (λ y q. f x y h.0 q) k, crossing P Q xs ys f h.1 k)

-- a mark at a place with a gravity
pub record IsAt (place : ℕ) (gravity : Gravity) (m : Mark) : Type 0 where
  pub place_is : m.place ≡ place
  pub gravity_is : m.gravity ≡ gravity

one_gravity : (a b : Gravity) → same_gravity a b ≡ true → a ≡ b
one_gravity Left Left h = refl
one_gravity Left Right h = absurd (clash false h refl)
one_gravity Right Left h = absurd (clash false h refl)
one_gravity Right Right h = refl

both_true : (a b : Bool) → (a && b) ≡ true → (a ≡ true) × (b ≡ true)
both_true true b h = (refl, h)
both_true false b h = absurd (clash false h refl)

is_at : (place : ℕ) (gravity : Gravity) (marks : List Mark) (s : ℕ) → slot_stands place gravity marks s ≡ true → IsAt place gravity (in_slot marks s)
is_at place gravity marks s h =
    let k = both_true (nat_lt s (length marks)) (stands place gravity (in_slot marks s)) h in
    let j = both_true ((in_slot marks s).place == place) (same_gravity (in_slot marks s).gravity gravity) k.1 in
    record { place_is = eqb-true (in_slot marks s).place place j.0; gravity_is = one_gravity (in_slot marks s).gravity gravity j.1 }

-- marks of one place and gravity, by their names
by_names_in_order : (f : ℕ → Mark) (t : ℕ → Bool) (place : ℕ) (g : Gravity) (xs : List ℕ) → ((s : ℕ) → t s ≡ true → IsAt place g (f s)) → AreAscending (names_of_marks (map f xs)) → AreInOrder (map f (filter t xs))
by_names_in_order f t place g [] h a = tt
by_names_in_order f t place g (x ∷ xs) h a =
    let more = by_names_in_order f t place g xs h a.1 in
    split (t x)
    (λ k. subst (λ b. AreInOrder (map f (cond b (x ∷ filter t xs) (filter t xs)))) (sym k) (
      each_of f (λ y. comes_before (f x) y ≡ true) (filter t xs)
          (each_also (λ s. is_lt (name_order (f x).name (f s).name) ≡ true) (λ s. IsAt place g (f s)) (λ s. comes_before (f x) (f s) ≡ true) (filter t xs)
          (λ s n at. name_before (f x) (f s) g (omega (arith, (h x k).place_is, at.place_is)) (h x k).gravity_is at.gravity_is n)
          (each_filter t (λ s. is_lt (name_order (f x).name (f s).name) ≡ true) xs (named_of xs a.0))
          (each_passes t (λ s. IsAt place g (f s)) xs h)),
      more,
    ))
    (λ k. subst (λ b. AreInOrder (map f (cond b (x ∷ filter t xs) (filter t xs)))) (sym k) more)
  where
    named_of : (ys : List ℕ) → AllByRecursion (λ n. is_lt (name_order (f x).name n) ≡ true) (names_of_marks (map f ys)) → AllByRecursion (λ s. is_lt (name_order (f x).name (f s).name) ≡ true) ys
    named_of [] h = tt
    named_of (y ∷ ys) h = (h.0, named_of ys h.1)

-- A LIST IN ORDER, PARTED BY PLACES

no_less : (a b : Mark) → comes_before a b ≡ true → a.place ≤ b.place
no_less a b h = elim (places_decide a.place b.place _ h) as (λ _. a.place ≤ b.place) [
  | inl less ↦ omega (arith, less)
  | inr same ↦ omega (arith, same.0)
]

record Splits (f : ℕ → Mark) (top : ℕ) (xs : List ℕ) : Type 0 where
  middle : List ℕ
  back : List ℕ
  is : xs ≡ middle ++ back
  low : AllByRecursion (λ s. (f s).place ≤ top) middle
  high : AllByRecursion (λ s. top < (f s).place) back

le_from : (a b : ℕ) → nat_le a b ≡ true → a ≤ b
le_from a b h = grind (arith, nat_tests)

lt_from : (a b : ℕ) → nat_le a b ≡ false → b < a
lt_from a b h = grind (arith, nat_tests)

splits : (f : ℕ → Mark) (top : ℕ) (xs : List ℕ) → AreInOrder (map f xs) → Splits f top xs
splits f top [] h = record { middle = []; back = []; is = refl; low = tt; high = tt }
splits f top (x ∷ xs) h =
    let r = splits f top xs h.1 in
    split (nat_le (f x).place top)
    (λ t. record { middle = x ∷ r.middle; back = r.back; is = ap (λ v. x ∷ v) r.is; low = (le_from (f x).place top t, r.low); high = r.high })
    (λ t. let over = lt_from (f x).place top t in
    record { middle = []; back = x ∷ xs; is = refl; low = tt; high = (over, each_weaker (λ s. comes_before (f x) (f s) ≡ true) (λ s. top < (f s).place) xs (λ s b. omega (arith, over, no_less (f x) (f s) b)) (each_from f (λ y. comes_before (f x) y ≡ true) xs h.0)) })

-- WHERE MARKS STAND THEN

stays_place : (place n p : ℕ) → p < place → place_removed place n p ≡ p
stays_place place n p l = grind (arith, nat_tests)

comes_place : (place n p : ℕ) → place ≤ p → p ≤ place + n → place_removed place n p ≡ place
comes_place place n p l k = grind (arith, nat_tests)

behind_place : (place n p : ℕ) → place + n < p → place_removed place n p ≡ p - n
behind_place place n p l = grind (arith, nat_tests)

-- marks behind the stretch keep their order
behind_before : (place n : ℕ) (a b : Mark) → place + n < a.place → place + n < b.place → comes_before a b ≡ true → comes_before (mark_removed place n a) (mark_removed place n b) ≡ true
behind_before place n a b la lb h =
    let rest = ordering_then (gravity_order a.gravity b.gravity) (name_order a.name b.name) in
    let ea = behind_place place n a.place la in
    let eb = behind_place place n b.place lb in
    elim (places_decide a.place b.place rest h) as (λ _. comes_before (mark_removed place n a) (mark_removed place n b) ≡ true) [
      | inl less ↦ before_less (place_removed place n a.place) (place_removed place n b.place) rest (omega (arith, ea, eb, less, la))
      | inr same ↦ before_rest (place_removed place n a.place) (place_removed place n b.place) rest (omega (arith, ea, eb, same.0)) same.1
    ]

behind_order : (place n : ℕ) (marks : List Mark) → AllByRecursion (λ m. place + n < m.place) marks → AreInOrder marks → AreInOrder (map (mark_removed place n) marks)
behind_order place n [] l h = tt
behind_order place n (m ∷ marks) l h = (behind_each marks l.1 h.0, behind_order place n marks l.1 h.1) where
  behind_each : (ys : List Mark) → AllByRecursion (λ y. place + n < y.place) ys → AllByRecursion (λ y. comes_before m y ≡ true) ys → AllByRecursion (λ y. comes_before (mark_removed place n m) y ≡ true) (map (mark_removed place n) ys)
  behind_each [] k b = tt
  behind_each (y ∷ ys) k b = (behind_before place n m y l.0 k.0 b.0, behind_each ys k.1 b.1)

-- EACH MARK MAPPED, SEEN BY THE NUMBERS

pub mapped : (g : Mark → Mark) (marks : List Mark) (slots : List ℕ) → AllByRecursion (λ s. s < length marks) slots → in_slots (map g marks) slots ≡ map g (in_slots marks slots)
mapped g marks [] h = refl
mapped g marks (s ∷ slots) h = let more = mapped g marks slots h.1 in λ i. get_or-map g marks s no_mark no_mark h.0 i ∷ more i

pub inserted_table : (S S' : List Mark) (N O : List ℕ) (place n : ℕ) → IsIndexed S N O → S' ≡ marks_inserted place n S → IsIndexed S' N O × (in_slots S' O ≡ marks_inserted place n (in_slots S O))
inserted_table S S' N O place n x e =
    let g = mark_inserted place n in
    let size : length S' ≡ length S = ap length e ∙ length-map S g in
    let names = mapped g S N (each_below (length S) N x.names_once) in
    let order = mapped g S O (each_below (length S) O x.order_once) in (
      record {
        names_once = subst (λ w. IsEachOnce w N) (sym size) x.names_once;
        order_once = subst (λ w. IsEachOnce w O) (sym size) x.order_once;
        ascending = subst AreAscending (sym (ap names_of_marks (ap (λ v. in_slots v N) e ∙ names) ∙ names_moved (Marks.place_inserted place n) (in_slots S N))) x.ascending;
        ordered = subst AreInOrder (sym (ap (λ v. in_slots v O) e ∙ order)) (inserted_in_order place n (in_slots S O) x.ordered);
      },
      ap (λ v. in_slots v O) e ∙ order,
    )

-- what holds of each mark in the order holds of each slot's
pub each_slot : (P : Mark → Type 0) (S : List Mark) (O : List ℕ) → IsEachOnce (length S) O → AllByRecursion P (in_slots S O) → AllByRecursion P S
each_slot P S O once h = by S (λ i l. each_there (λ s. P (in_slot S s)) O i (each_from (in_slot S) P O h) (omega (arith, Times.once_below (length S) O once i l))) where
  by : (marks : List Mark) → ((i : ℕ) → i < length marks → P (in_slot marks i)) → AllByRecursion P marks
  by [] k = tt
  by (m ∷ marks) k = (k 0 (omega arith), by marks (λ i l. k (suc i) (omega (arith, l))))

-- REMOVED

pub record Rewritten (S S' : List Mark) (N O : List ℕ) (start place n : ℕ) : Type 0 where
  pub room_left : start + length (filter (slot_stands place Left S') N) ≤ length O
  pub room_right : start + length (filter (slot_stands place Left S') N) + length (filter (slot_stands place Right S') N) ≤ length (overwritten start (filter (slot_stands place Left S') N) O)
  pub indexed : IsIndexed S' N (overwritten (start + length (filter (slot_stands place Left S') N)) (filter (slot_stands place Right S') N) (overwritten start (filter (slot_stands place Left S') N) O))
  pub view : in_slots S' (overwritten (start + length (filter (slot_stands place Left S') N)) (filter (slot_stands place Right S') N) (overwritten start (filter (slot_stands place Left S') N) O)) ≡ marks_removed place n (in_slots S O)

-- the parts of the order, and the tests on them
record Parts (S S' : List Mark) (O : List ℕ) (start place n : ℕ) : Type 0 where
  front : List ℕ
  middle : List ℕ
  back : List ℕ
  is : O ≡ (front ++ middle) ++ back
  size : length front ≡ start
  front_in : AllByRecursion (λ s. s < length S) front
  middle_in : AllByRecursion (λ s. s < length S) middle
  back_in : AllByRecursion (λ s. s < length S) back
  front_at : AllByRecursion (λ s. (in_slot S s).place < place) front
  middle_from : AllByRecursion (λ s. place ≤ (in_slot S s).place) middle
  middle_to : AllByRecursion (λ s. (in_slot S s).place ≤ place + n) middle
  back_at : AllByRecursion (λ s. place + n < (in_slot S s).place) back

lt_true : (a b : ℕ) → nat_lt a b ≡ true → a < b
lt_true a b h = grind (arith, nat_tests)

lt_false : (a b : ℕ) → nat_lt a b ≡ false → b ≤ a
lt_false a b h = grind (arith, nat_tests)

parts : (S S' : List Mark) (N O : List ℕ) (start place n : ℕ) → IsIndexed S N O → MarksPartAt (λ m. nat_lt m.place place) (in_slots S O) start → Parts S S' O start place n
parts S S' N O start place n x p =
    let f = in_slot S in
    let front = take start O in
    let rest = drop start O in
    let whole : front ++ rest ≡ O = take-append-drop start O in
    let ordered : AreInOrder (map f rest) = order_back (map f front) (map f rest) (subst AreInOrder (ap (map f) (sym whole) ∙ map-append f front rest) x.ordered) in
    let r = splits f (place + n) rest ordered in
    let there : AllByRecursion (λ s. s < length S) (front ++ rest) = subst (λ v. AllByRecursion (λ s. s < length S) v) (sym whole) (each_below (length S) O x.order_once) in
    let there_rest : AllByRecursion (λ s. s < length S) (r.middle ++ r.back) = subst (λ v. AllByRecursion (λ s. s < length S) v) r.is (each_second (λ s. s < length S) front rest there) in
    let far : AllByRecursion (λ s. place ≤ (f s).place) (r.middle ++ r.back) = subst (λ v. AllByRecursion (λ s. place ≤ (f s).place) v) r.is
    (each_weaker (λ s. nat_lt (f s).place place ≡ false) (λ s. place ≤ (f s).place) rest (λ s h. lt_false (f s).place place h)
    (each_from f (λ m. nat_lt m.place place ≡ false) rest (subst (λ v. AllByRecursion (λ m. nat_lt m.place place ≡ false) v) (drop-map f start O) p.back))) in
    record {
      front = front;
      middle = r.middle;
      back = r.back;
      is = sym whole ∙ ap (λ v. front ++ v) r.is ∙ sym (append_assoc front r.middle r.back);
      size = length-take-le start O (subst (λ v. start ≤ v) (length-map O f) p.within);
      front_in = each_first (λ s. s < length S) front rest there;
      middle_in = each_first (λ s. s < length S) r.middle r.back there_rest;
      back_in = each_second (λ s. s < length S) r.middle r.back there_rest;
      front_at = each_weaker (λ s. nat_lt (f s).place place ≡ true) (λ s. (f s).place < place) front (λ s h. lt_true (f s).place place h)
          (each_from f (λ m. nat_lt m.place place ≡ true) front (subst (λ v. AllByRecursion (λ m. nat_lt m.place place ≡ true) v) (take-map f start O) p.front));
      middle_from = each_first (λ s. place ≤ (f s).place) r.middle r.back far;
      middle_to = r.low;
      back_at = r.high;
    }

take_seam : {X : Type 0} (xs ys : List X) (k : ℕ) → length xs ≡ k → take k (xs ++ ys) ≡ xs
take_seam xs ys k e = ap (λ v. take v (xs ++ ys)) (sym e) ∙ take-append_seam xs ys

drop_seam : {X : Type 0} (xs ys : List X) (k : ℕ) → length xs ≡ k → drop k (xs ++ ys) ≡ ys
drop_seam xs ys k e = ap (λ v. drop v (xs ++ ys)) (sym e) ∙ drop-append_seam xs ys

-- as many are written as stood there
overwriting : (front middle back new : List ℕ) (at : ℕ) → length front ≡ at → length new ≡ length middle → overwritten at new ((front ++ middle) ++ back) ≡ (front ++ new) ++ back
overwriting front middle back new at e l =
    let all : length (front ++ middle) ≡ at + length new = length-append front middle ∙ (λ i. e i + sym l i) in
    (λ i. (head i ++ new) ++ drop_seam (front ++ middle) back (at + length new) all i)
  where
    head : take at ((front ++ middle) ++ back) ≡ front
    head = ap (take at) (append_assoc front middle back) ∙ take_seam front (middle ++ back) at e

-- a list of some length parts at an index within it
cut_length : (xs : List ℕ) (a b : ℕ) → length xs ≡ a + b → (length (take a xs) ≡ a) × (length (drop a xs) ≡ b)
cut_length xs a b e =
    let one : length (take a xs) ≡ a = length-take-le a xs (omega (arith, e)) in
    let two : length (take a xs ++ drop a xs) ≡ length xs = ap length (take-append-drop a xs) in
    (one, omega (arith, one, two, e, length-append (take a xs) (drop a xs)))

-- two runs written one behind the other
both_written : (front middle back left right : List ℕ) (at : ℕ) → length front ≡ at → length middle ≡ length left + length right → overwritten (at + length left) right (overwritten at left ((front ++ middle) ++ back)) ≡ ((front ++ left) ++ right) ++ back
both_written front middle back left right at e l =
    let first = take (length left) middle in
    let second = drop (length left) middle in
    let cut = cut_length middle (length left) (length right) l in
    let whole : (front ++ middle) ++ back ≡ (front ++ first) ++ (second ++ back) =
    ap (λ v. (front ++ v) ++ back) (sym (take-append-drop (length left) middle)) ∙ ap (λ v. v ++ back) (sym (append_assoc front first second)) ∙ append_assoc (front ++ first) second back in
    let one : overwritten at left ((front ++ middle) ++ back) ≡ ((front ++ left) ++ second) ++ back =
    ap (overwritten at left) whole ∙ overwriting front first (second ++ back) left at e (sym cut.0) ∙ sym (append_assoc (front ++ left) second back) in
    ap (overwritten (at + length left) right) one
    ∙ overwriting (front ++ left) second back right (at + length left) (length-append front left ∙ ap (λ v. v + length left) e) (sym cut.1)

-- the length of what is written over
first_length : (front middle back left : List ℕ) (at k : ℕ) → length front ≡ at → length middle ≡ length left + k → length (overwritten at left ((front ++ middle) ++ back)) ≡ at + length left + k + length back
first_length front middle back left at k e l =
    let first = take (length left) middle in
    let second = drop (length left) middle in
    let cut = cut_length middle (length left) k l in
    let whole : (front ++ middle) ++ back ≡ (front ++ first) ++ (second ++ back) =
    ap (λ v. (front ++ v) ++ back) (sym (take-append-drop (length left) middle)) ∙ ap (λ v. v ++ back) (sym (append_assoc front first second)) ∙ append_assoc (front ++ first) second back in
    ap length (ap (overwritten at left) whole ∙ overwriting front first (second ++ back) left at e (sym cut.0))
    ∙ omega (arith, length-append (front ++ left) (second ++ back), length-append front left, length-append second back, cut.1, e)

and_false : (a b c : Bool) → b ≡ false → (a && (b && c)) ≡ false
and_false true b c h = ap (λ v. v && c) h
and_false false b c h = refl

differs : (p q : ℕ) → (p < q) ⊎ (q < p) → (p == q) ≡ false
differs p q (inl l) = grind (arith, nat_tests)
differs p q (inr l) = grind (arith, nat_tests)

other_gravity : (a b : Bool) (g : Gravity) → a ≡ true → b ≡ true → (a && (b && same_gravity g Right)) ≡ not (a && (b && same_gravity g Left))
other_gravity true true Left h k = refl
other_gravity true true Right h k = refl
other_gravity true false g h k = absurd (clash false k refl)
other_gravity false b g h k = absurd (clash false h refl)

pub rewritten : (S S' : List Mark) (N O : List ℕ) (start place n : ℕ) → IsIndexed S N O → MarksPartAt (λ m. nat_lt m.place place) (in_slots S O) start → S' ≡ map (mark_removed place n) S → Rewritten S S' N O start place n
rewritten S S' N O start place n x p e =
    let f = in_slot S in
    let h = in_slot S' in
    let g = mark_removed place n in
    let q = parts S S' N O start place n x p in
    let size : length S' ≡ length S = ap length e ∙ length-map S g in
    let left = filter (slot_stands place Left S') N in
    let right = filter (slot_stands place Right S') N in
    let one : (s : ℕ) → s < length S → h s ≡ g (f s) = λ s l. ap (λ v. in_slot v s) e ∙ get_or-map g S s no_mark no_mark l in
    let place_of : (s : ℕ) → s < length S → (h s).place ≡ place_removed place n (f s).place = λ s l. ap (λ (m : Mark). m.place) (one s l) in
    let front_then : AllByRecursion (λ s. (h s).place < place) q.front =
    each_also (λ s. s < length S) (λ s. (f s).place < place) (λ s. (h s).place < place) q.front (λ s l k. subst (λ v. v < place) (sym (place_of s l ∙ stays_place place n (f s).place k)) k) q.front_in q.front_at in
    let middle_then : AllByRecursion (λ s. (h s).place ≡ place) q.middle =
    each_also (λ s. (s < length S) × (place ≤ (f s).place)) (λ s. (f s).place ≤ place + n) (λ s. (h s).place ≡ place) q.middle (λ s l k. place_of s l.0 ∙ comes_place place n (f s).place l.1 k)
    (each_also (λ s. s < length S) (λ s. place ≤ (f s).place) (λ s. (s < length S) × (place ≤ (f s).place)) q.middle (λ s l k. (l, k)) q.middle_in q.middle_from) q.middle_to in
    let back_then : AllByRecursion (λ s. place < (h s).place) q.back =
    each_also (λ s. s < length S) (λ s. place + n < (f s).place) (λ s. place < (h s).place) q.back (λ s l k. omega (arith, k, place_of s l, behind_place place n (f s).place k)) q.back_in q.back_at in
    let apart_front : (v : Gravity) → filter (slot_stands place v S') q.front ≡ [] = λ v. none_pass (slot_stands place v S') q.front
    (each_weaker (λ s. (h s).place < place) (λ s. slot_stands place v S' s ≡ false) q.front (λ s k. and_false (nat_lt s (length S')) ((h s).place == place) (same_gravity (h s).gravity v) (differs (h s).place place (inl k))) front_then) in
    let apart_back : (v : Gravity) → filter (slot_stands place v S') q.back ≡ [] = λ v. none_pass (slot_stands place v S') q.back
    (each_weaker (λ s. place < (h s).place) (λ s. slot_stands place v S' s ≡ false) q.back (λ s k. and_false (nat_lt s (length S')) ((h s).place == place) (same_gravity (h s).gravity v) (differs (h s).place place (inr k))) back_then) in
    let those : (v : Gravity) → filter (slot_stands place v S') O ≡ filter (slot_stands place v S') q.middle = λ v.
    ap (filter (slot_stands place v S')) q.is ∙ filter-append (slot_stands place v S') (q.front ++ q.middle) q.back ∙ ap (λ w. w ++ filter (slot_stands place v S') q.back) (filter-append (slot_stands place v S') q.front q.middle)
    ∙ (λ i. (apart_front v i ++ filter (slot_stands place v S') q.middle) ++ apart_back v i) ∙ append-nil (filter (slot_stands place v S') q.middle) in
    let counted : (v : Gravity) (s : ℕ) → slot_times s (filter (slot_stands place v S') N) ≡ slot_times s (filter (slot_stands place v S') q.middle) = λ v s.
    filter_same (slot_stands place v S') N O (same_times (length S) N O x.names_once x.order_once) s ∙ ap (slot_times s) (those v) in
    let turned : AllByRecursion (λ s. slot_stands place Right S' s ≡ not (slot_stands place Left S' s)) q.middle =
    each_also (λ s. s < length S) (λ s. (h s).place ≡ place) (λ s. slot_stands place Right S' s ≡ not (slot_stands place Left S' s)) q.middle
    (λ s l k. other_gravity (nat_lt s (length S')) ((h s).place == place) (h s).gravity (within s (length S') (subst (λ v. s < v) (sym size) l)) (eq-eqb (h s).place place k)) q.middle_in middle_then in
    let halves : (s : ℕ) → slot_times s left + slot_times s right ≡ slot_times s q.middle = λ s.
    (λ i. counted Left s i + counted Right s i) ∙ both_tests (slot_stands place Left S') (slot_stands place Right S') q.middle turned s in
    let long : length q.middle ≡ length left + length right =
    same_length q.middle (left ++ right) (λ s. sym (times_append s left right ∙ halves s)) ∙ length-append left right in
    let order : overwritten (start + length left) right (overwritten start left O) ≡ ((q.front ++ left) ++ right) ++ q.back =
    ap (λ v. overwritten (start + length left) right (overwritten start left v)) q.is ∙ both_written q.front q.middle q.back left right start q.size long in
    let all : length O ≡ start + length q.middle + length q.back = omega (arith, ap length q.is, length-append (q.front ++ q.middle) q.back, length-append q.front q.middle, q.size) in
    let first : length (overwritten start left O) ≡ start + length left + length right + length q.back =
    ap (λ v. length (overwritten start left v)) q.is ∙ first_length q.front q.middle q.back left start (length right) q.size long in
    let same : (s : ℕ) → slot_times s (((q.front ++ left) ++ right) ++ q.back) ≡ slot_times s O = λ s.
    omega (arith, halves s, ap (slot_times s) q.is, times_append s ((q.front ++ left) ++ right) q.back, times_append s (q.front ++ left) right, times_append s q.front left, times_append s (q.front ++ q.middle) q.back, times_append s q.front q.middle) in
    let names : names_of_marks (in_slots S' N) ≡ names_of_marks (in_slots S N) =
    ap (λ v. names_of_marks (in_slots v N)) e ∙ ap names_of_marks (mapped g S N (each_below (length S) N x.names_once)) ∙ names_moved (λ m. place_removed place n m.place) (in_slots S N) in
    let ascending : AreAscending (names_of_marks (in_slots S' N)) = subst AreAscending (sym names) x.ascending in
    let front_order : AreInOrder (map h q.front) =
    subst AreInOrder (sym (same_marks h f q.front (each_also (λ s. s < length S) (λ s. (f s).place < place) (λ s. h s ≡ f s) q.front (λ s l k. one s l ∙ stays (f s) (stays_place place n (f s).place k)) q.front_in q.front_at)))
    (order_front (map f q.front) (map f (q.middle ++ q.back)) (subst AreInOrder (ap (map f) (q.is ∙ append_assoc q.front q.middle q.back) ∙ map-append f q.front (q.middle ++ q.back)) x.ordered)) in
    let back_before : AreInOrder (map f q.back) = order_back (map f (q.front ++ q.middle)) (map f q.back) (subst AreInOrder (ap (map f) q.is ∙ map-append f (q.front ++ q.middle) q.back) x.ordered) in
    let back_order : AreInOrder (map h q.back) =
    subst AreInOrder (sym (ap (λ v. in_slots v q.back) e ∙ mapped g S q.back q.back_in)) (behind_order place n (map f q.back) (each_of f (λ m. place + n < m.place) q.back q.back_at) back_before) in
    let left_at : AllByRecursion (IsAt place Left) (map h left) = each_of h (IsAt place Left) left (each_passes (slot_stands place Left S') (λ s. IsAt place Left (h s)) N (is_at place Left S')) in
    let right_at : AllByRecursion (IsAt place Right) (map h right) = each_of h (IsAt place Right) right (each_passes (slot_stands place Right S') (λ s. IsAt place Right (h s)) N (is_at place Right S')) in
    let front_at : AllByRecursion (λ m. m.place < place) (map h q.front) = each_of h (λ m. m.place < place) q.front front_then in
    let back_at : AllByRecursion (λ m. place < m.place) (map h q.back) = each_of h (λ m. place < m.place) q.back back_then in
    let ordered_left : AreInOrder (map h q.front ++ map h left) = order_both (map h q.front) (map h left) front_order
    (by_names_in_order h (slot_stands place Left S') place Left N (is_at place Left S') ascending)
    (crossing (λ m. m.place < place) (IsAt place Left) (map h q.front) (map h left) (λ a b k l. place_before a b (omega (arith, k, l.place_is))) front_at left_at) in
    let ordered_right : AreInOrder ((map h q.front ++ map h left) ++ map h right) = order_both (map h q.front ++ map h left) (map h right) ordered_left
    (by_names_in_order h (slot_stands place Right S') place Right N (is_at place Right S') ascending)
    (each_both (λ a. AllByRecursion (λ b. comes_before a b ≡ true) (map h right)) (map h q.front) (map h left)
    (crossing (λ m. m.place < place) (IsAt place Right) (map h q.front) (map h right) (λ a b k l. place_before a b (omega (arith, k, l.place_is))) front_at right_at)
    (crossing (IsAt place Left) (IsAt place Right) (map h left) (map h right) (λ a b k l. gravity_before a b (omega (arith, k.place_is, l.place_is)) k.gravity_is l.gravity_is) left_at right_at)) in
    let upto : AllByRecursion (λ m. m.place ≤ place) ((map h q.front ++ map h left) ++ map h right) =
    each_both (λ m. m.place ≤ place) (map h q.front ++ map h left) (map h right)
    (each_both (λ m. m.place ≤ place) (map h q.front) (map h left) (each_weaker (λ m. m.place < place) (λ m. m.place ≤ place) (map h q.front) (λ m k. omega (arith, k)) front_at) (each_weaker (IsAt place Left) (λ m. m.place ≤ place) (map h left) (λ m k. omega (arith, k.place_is)) left_at))
    (each_weaker (IsAt place Right) (λ m. m.place ≤ place) (map h right) (λ m k. omega (arith, k.place_is)) right_at) in
    let ordered_all : AreInOrder (((map h q.front ++ map h left) ++ map h right) ++ map h q.back) =
    order_both ((map h q.front ++ map h left) ++ map h right) (map h q.back) ordered_right back_order
    (crossing (λ m. m.place ≤ place) (λ m. place < m.place) ((map h q.front ++ map h left) ++ map h right) (map h q.back) (λ a b k l. place_before a b (omega (arith, k, l))) upto back_at) in
    let seen_all : in_slots S' (((q.front ++ left) ++ right) ++ q.back) ≡ ((map h q.front ++ map h left) ++ map h right) ++ map h q.back =
    map-append h ((q.front ++ left) ++ right) q.back ∙ ap (λ v. v ++ map h q.back) (map-append h (q.front ++ left) right ∙ ap (λ v. v ++ map h right) (map-append h q.front left)) in
    let ordered : AreInOrder (in_slots S' (((q.front ++ left) ++ right) ++ q.back)) = subst AreInOrder (sym seen_all) ordered_all in
    record {
      room_left = omega (arith, all, long);
      room_right = omega (arith, first);
      indexed = subst (λ v. IsIndexed S' N v) (sym order) (record {
        names_once = subst (λ w. IsEachOnce w N) (sym size) x.names_once;
        order_once = subst (λ w. IsEachOnce w (((q.front ++ left) ++ right) ++ q.back)) (sym size) (λ s. same s ∙ x.order_once s);
        ascending = ascending;
        ordered = ordered;
      });
      view = ap (in_slots S') order ∙ sym (in_order_same (in_slots S' (((q.front ++ left) ++ right) ++ q.back)) ordered) ∙ same_order h (((q.front ++ left) ++ right) ++ q.back) O same
          ∙ ap (λ v. Marks.in_order (in_slots v O)) e ∙ ap Marks.in_order (mapped g S O (each_below (length S) O x.order_once));
    }
  where
    stays : (m : Mark) → place_removed place n m.place ≡ m.place → mark_removed place n m ≡ m
    stays m k = λ i. record m { place = k i }

-- the table after each of the two runs

pub right_room : (S S' S2 : List Mark) (N N2 O O2 : List ℕ) (start place n r : ℕ) → Rewritten S S' N O start place n → S2 ≡ S' → N2 ≡ N → r ≡ start + length (filter (slot_stands place Left S') N) → O2 ≡ overwritten start (filter (slot_stands place Left S') N) O → r + length (filter (slot_stands place Right S2) N2) ≤ length O2
right_room S S' S2 N N2 O O2 start place n r w es en er eo =
    let same : r + length (filter (slot_stands place Right S2) N2) ≡ start + length (filter (slot_stands place Left S') N) + length (filter (slot_stands place Right S') N) =
    λ i. er i + length (filter (slot_stands place Right (es i)) (en i)) in
    omega (arith, same, ap length eo, w.room_right)

pub rewritten_table : (S S' S2 S3 : List Mark) (N N2 N3 O O2 O3 : List ℕ) (start place n r : ℕ) → Rewritten S S' N O start place n → S2 ≡ S' → N2 ≡ N → r ≡ start + length (filter (slot_stands place Left S') N) → O2 ≡ overwritten start (filter (slot_stands place Left S') N) O → S3 ≡ S2 → N3 ≡ N2 → O3 ≡ overwritten r (filter (slot_stands place Right S2) N2) O2 → IsIndexed S3 N3 O3 × (in_slots S3 O3 ≡ marks_removed place n (in_slots S O))
rewritten_table S S' S2 S3 N N2 N3 O O2 O3 start place n r w es en er eo es3 en3 eo3 =
    let order = eo3 ∙ (λ i. overwritten (er i) (filter (slot_stands place Right (es i)) (en i)) (eo i)) in
    let marks : S3 ≡ S' = es3 ∙ es in
    let names : N3 ≡ N = en3 ∙ en in (
      subst (λ v. IsIndexed v N3 O3) (sym marks) (subst (λ v. IsIndexed S' v O3) (sym names) (subst (λ v. IsIndexed S' N v) (sym order) w.indexed)),
      (λ i. in_slots (marks i) (order i)) ∙ w.view,
    )
