-- Marks in slots, read by lists of the slots' numbers.
use Rattle.std.proofs.Common.{◌≡◌, ℕ, zero, suc, ◌<◌, ◌≤◌, ◌==◌, List, [], ◌∷◌, ◌++◌, map, length, get_or, take, drop, true, false, refl, sym, ap, ◌∙◌, Bool, cond, not, subst, arith, None}
use Rattle.std.specs.List.{insert, remove, AllByRecursion}
use Rattle.std.specs.Str.{bytes_eq}
use Rattle.std.proofs.lemmas.Bool.{eqb-true}
use Rattle.std.proofs.lemmas.List.{map-append, take-map, drop-map, get_or-map, get_or_at, length-append, length-map}
use Rattle.rt_marks.specs.declared.mark.Mark.{Mark as KeptMark}
use Rattle.rt_marks.specs.Marks.{Mark, name_order, comes_before, AreInOrder, with_mark, mark_of_name, without_mark, HaveOwnNames, AreAscending, put_mark}
use Rattle.rt_marks.specs.Marks
use Rattle.rt_marks.specs.Seen.{seen_mark, seen_all, names_of_marks, no_mark, in_slot, in_slots, slot_times, IsEachOnce, IsOrder, IsIndexed, MarksPartAt}
use Rattle.rt_marks.proofs.Order.{before_irrefl}
use Rattle.rt_marks.proofs.InOrder.{split, in_order_same, with_passing, with_here}
use Rattle.rt_marks.proofs.Names.{clash, own_ascending, own_in_order, named_in_order, none_middle, differ_back, without_none, name_itself}
use Rattle.rt_marks.proofs.Times.{present, each_below, each_present, once_below, same_order, same_times}

-- READING

pub slot_kept : (items : List KeptMark) (i : ℕ) (d : KeptMark) → i < length items → in_slot (seen_all items) i ≡ seen_mark (get_or items i d)
slot_kept items i d l = get_or-map seen_mark items i d no_mark l

pub same_marks : (f g : ℕ → Mark) (xs : List ℕ) → AllByRecursion (λ s. f s ≡ g s) xs → map f xs ≡ map g xs
same_marks f g [] h = refl
same_marks f g (x ∷ xs) h = let more = same_marks f g xs h.1 in λ i. h.0 i ∷ more i

pub same_names : (f g : ℕ → Mark) (xs : List ℕ) → ((s : ℕ) → (f s).name ≡ (g s).name) → names_of_marks (map f xs) ≡ names_of_marks (map g xs)
same_names f g [] h = refl
same_names f g (x ∷ xs) h = let more = same_names f g xs h in λ i. h x i ∷ more i

pub each_of : (f : ℕ → Mark) (P : Mark → Type 0) (xs : List ℕ) → AllByRecursion (λ s. P (f s)) xs → AllByRecursion P (map f xs)
each_of f P [] h = tt
each_of f P (x ∷ xs) h = (h.0, each_of f P xs h.1)

pub each_from : (f : ℕ → Mark) (P : Mark → Type 0) (xs : List ℕ) → AllByRecursion P (map f xs) → AllByRecursion (λ s. P (f s)) xs
each_from f P [] h = tt
each_from f P (x ∷ xs) h = (h.0, each_from f P xs h.1)

pub each_also : {X : Type 0} (P Q R : X → Type 0) (xs : List X) → ((x : X) → P x → Q x → R x) → AllByRecursion P xs → AllByRecursion Q xs → AllByRecursion R xs
each_also P Q R [] f h k = tt
each_also P Q R (x ∷ xs) f h k = (f x h.0 k.0, each_also P Q R xs f h.1 k.1)

pub each_weaker : {X : Type 0} (P Q : X → Type 0) (xs : List X) → ((x : X) → P x → Q x) → AllByRecursion P xs → AllByRecursion Q xs
each_weaker P Q [] f h = tt
each_weaker P Q (x ∷ xs) f h = (f x h.0, each_weaker P Q xs f h.1)

pub each_both : {X : Type 0} (P : X → Type 0) (xs ys : List X) → AllByRecursion P xs → AllByRecursion P ys → AllByRecursion P (xs ++ ys)
each_both P [] ys h k = k
each_both P (x ∷ xs) ys h k = (h.0, each_both P xs ys h.1 k)

pub each_first : {X : Type 0} (P : X → Type 0) (xs ys : List X) → AllByRecursion P (xs ++ ys) → AllByRecursion P xs
each_first P [] ys h = tt
each_first P (x ∷ xs) ys h = (h.0, each_first P xs ys h.1)

pub each_second : {X : Type 0} (P : X → Type 0) (xs ys : List X) → AllByRecursion P (xs ++ ys) → AllByRecursion P ys
each_second P [] ys h = h
each_second P (x ∷ xs) ys h = each_second P xs ys h.1

pub each_index : {X : Type 0} (P : X → Type 0) (xs : List X) (i : ℕ) (d : X) → i < length xs → AllByRecursion P xs → P (get_or xs i d)
each_index P [] i d l h = absurd (omega (arith, l))
each_index P (x ∷ xs) zero d l h = h.0
each_index P (x ∷ xs) (suc i) d l h = each_index P xs i d (omega (arith, l)) h.1

-- a number that isn't in a list
pub each_other : (s : ℕ) (xs : List ℕ) → slot_times s xs ≡ 0 → AllByRecursion (λ x. (x == s) ≡ false) xs
each_other s xs h = each_present (λ x. (x == s) ≡ false) xs (λ x k. split (x == s)
    (λ t. absurd (clash_of x k t))
    (λ f. f)) where
      clash_of : (x : ℕ) → 1 ≤ slot_times x xs → (x == s) ≡ true → ⊥
      clash_of x k t = let e : slot_times x xs ≡ slot_times s xs = ap (λ v. slot_times v xs) (eqb-true x s t) in omega (arith, h, k, e)

-- IN ORDER

pub order_front : (xs ys : List Mark) → AreInOrder (xs ++ ys) → AreInOrder xs
order_front [] ys h = tt
order_front (x ∷ xs) ys h = (each_first (λ y. comes_before x y ≡ true) xs ys h.0, order_front xs ys h.1)

pub order_back : (xs ys : List Mark) → AreInOrder (xs ++ ys) → AreInOrder ys
order_back [] ys h = h
order_back (x ∷ xs) ys h = order_back xs ys h.1

-- those before a mark, and those behind it
pub before_middle : (xs : List Mark) (m : Mark) (ys : List Mark) → AreInOrder (xs ++ m ∷ ys) → AllByRecursion (λ x. comes_before x m ≡ true) xs
before_middle [] m ys h = tt
before_middle (x ∷ xs) m ys h = ((each_second (λ y. comes_before x y ≡ true) xs (m ∷ ys) h.0).0, before_middle xs m ys h.1)

pub order_both : (xs ys : List Mark) → AreInOrder xs → AreInOrder ys → AllByRecursion (λ x. AllByRecursion (λ y. comes_before x y ≡ true) ys) xs → AreInOrder (xs ++ ys)
order_both [] ys h k b = k
order_both (x ∷ xs) ys h k b = (each_both (λ y. comes_before x y ≡ true) xs ys h.0 b.0, order_both xs ys h.1 k b.1)

-- a mark that is put in stands behind those that come before it
pub with_at : (m : Mark) (marks : List Mark) (i : ℕ) → MarksPartAt (λ x. comes_before x m) marks i → with_mark m marks ≡ take i marks ++ m ∷ drop i marks
with_at m marks i h = by marks i h.front h.back where
  by : (marks : List Mark) (i : ℕ) → AllByRecursion (λ x. comes_before x m ≡ true) (take i marks) → AllByRecursion (λ x. comes_before x m ≡ false) (drop i marks) → with_mark m marks ≡ take i marks ++ m ∷ drop i marks
  by [] zero f b = refl
  by [] (suc i) f b = refl
  by (x ∷ marks) zero f b = with_here m x marks b.0
  by (x ∷ marks) (suc i) f b = with_passing m x marks f.0 ∙ ap (λ v. x ∷ v) (by marks i f.1 b)

-- where a list parts whose front passes a test and whose next doesn't
pub parts_here : (test : Mark → Bool) (xs : List Mark) (m : Mark) (ys : List Mark) (i : ℕ) → AllByRecursion (λ x. test x ≡ true) xs → test m ≡ false → MarksPartAt test (xs ++ m ∷ ys) i → i ≡ length xs
parts_here test xs m ys i h k p = by xs i h p.front p.back where
  by : (xs : List Mark) (i : ℕ) → AllByRecursion (λ x. test x ≡ true) xs → AllByRecursion (λ x. test x ≡ true) (take i (xs ++ m ∷ ys)) → AllByRecursion (λ x. test x ≡ false) (drop i (xs ++ m ∷ ys)) → i ≡ length xs
  by [] zero h f b = refl
  by [] (suc i) h f b = absurd (clash (test m) f.0 k)
  by (x ∷ xs) zero h f b = absurd (clash (test x) h.0 b.0)
  by (x ∷ xs) (suc i) h f b = let e = by xs i h.1 f.1 b in omega (arith, e)

-- without its name a mark is gone
pub without_middle : (q : List ℕ) (xs : List Mark) (m : Mark) (ys : List Mark) → HaveOwnNames (xs ++ m ∷ ys) → m.name ≡ q → without_mark q (xs ++ m ∷ ys) ≡ xs ++ ys
without_middle q [] m ys own e =
    let t : bytes_eq m.name q ≡ true = subst (λ v. bytes_eq m.name v ≡ true) e (name_itself m.name) in
    let none : mark_of_name q ys ≡ None = subst (λ v. mark_of_name v ys ≡ None) e own.0 in
    ap (λ b. cond (not b) (m ∷ without_mark q ys) (without_mark q ys)) t ∙ without_none q ys none
without_middle q (x ∷ xs) m ys own e =
    let apart : bytes_eq x.name q ≡ false = subst (λ v. bytes_eq x.name v ≡ false) e (differ_back m.name x.name (none_middle x.name xs m ys own.0)) in
    let rest = without_mark q (xs ++ m ∷ ys) in
    ap (λ b. cond (not b) (x ∷ rest) rest) apart ∙ ap (λ v. x ∷ v) (without_middle q xs m ys own.1 e)

pub order_without : (xs : List Mark) (m : Mark) (ys : List Mark) → AreInOrder (xs ++ m ∷ ys) → AreInOrder (xs ++ ys)
order_without [] m ys h = h.1
order_without (x ∷ xs) m ys h =
    let P : Mark → Type 0 = λ y. comes_before x y ≡ true in
    (each_both P xs ys (each_first P xs (m ∷ ys) h.0) (each_second P xs (m ∷ ys) h.0).1, order_without xs m ys h.1)

pub remove_middle : (front : List ℕ) (x : ℕ) (back : List ℕ) → remove (front ++ x ∷ back) (length front) ≡ front ++ back
remove_middle [] x back = refl
remove_middle (y ∷ front) x back = ap (λ v. y ∷ v) (remove_middle front x back)

-- INDEXED MARKS

pub view_is : (marks : List Mark) (by_name in_order : List ℕ) → IsIndexed marks by_name in_order → Marks.in_order (in_slots marks by_name) ≡ in_slots marks in_order
view_is marks by_name in_order h =
    same_order (in_slot marks) by_name in_order (same_times (length marks) by_name in_order h.names_once h.order_once) ∙ in_order_same (in_slots marks in_order) h.ordered

pub own_by_name : (marks : List Mark) (by_name in_order : List ℕ) → IsIndexed marks by_name in_order → HaveOwnNames (in_slots marks by_name)
own_by_name marks by_name in_order h = own_ascending (in_slots marks by_name) h.ascending

pub view_own : (marks : List Mark) (by_name in_order : List ℕ) → IsIndexed marks by_name in_order → HaveOwnNames (in_slots marks in_order)
view_own marks by_name in_order h = subst HaveOwnNames (view_is marks by_name in_order h) (own_in_order (in_slots marks by_name) (own_by_name marks by_name in_order h))

pub view_named : (q : List ℕ) (marks : List Mark) (by_name in_order : List ℕ) → IsIndexed marks by_name in_order → mark_of_name q (in_slots marks in_order) ≡ mark_of_name q (in_slots marks by_name)
view_named q marks by_name in_order h =
    sym (ap (mark_of_name q) (view_is marks by_name in_order h)) ∙ named_in_order (in_slots marks by_name) (own_by_name marks by_name in_order h) q

pub are_ordered : (marks : List Mark) (by_name in_order : List ℕ) → IsIndexed marks by_name in_order → IsOrder marks in_order
are_ordered marks by_name in_order h = record { there = each_below (length marks) in_order h.order_once; ordered = h.ordered }

-- where a slot's number stands in the order
pub record StandsAt (slot : ℕ) (slots : List ℕ) (i : ℕ) : Type 0 where
  pub front : List ℕ
  pub back : List ℕ
  pub is : slots ≡ front ++ slot ∷ back
  pub at : i ≡ length front

pub stands_at : (marks : List Mark) (slots : List ℕ) (slot i : ℕ) → IsEachOnce (length marks) slots → AreInOrder (in_slots marks slots) → slot < length marks → MarksPartAt (λ m. comes_before m (in_slot marks slot)) (in_slots marks slots) i → StandsAt slot slots i
stands_at marks slots slot i once o l p =
    let r = present slot slots (omega (arith, once_below (length marks) slots once slot l)) in
    let f = in_slot marks in
    let parted : in_slots marks slots ≡ map f r.front ++ f slot ∷ map f r.back = ap (map f) r.is ∙ map-append f r.front (slot ∷ r.back) in
    let test : Mark → Bool = λ m. comes_before m (f slot) in
    let e = parts_here test (map f r.front) (f slot) (map f r.back) i
    (before_middle (map f r.front) (f slot) (map f r.back) (subst AreInOrder parted o)) (before_irrefl (f slot)) (subst (λ v. MarksPartAt test v i) parted p) in
    record { front = r.front; back = r.back; is = r.is; at = e ∙ length-map r.front f }

pub stands_within : (slot : ℕ) (slots : List ℕ) (i : ℕ) → StandsAt slot slots i → i < length slots
stands_within slot slots i s = let e = ap length s.is ∙ length-append s.front (slot ∷ s.back) in let a = s.at in omega (arith, e, a)

pub stands_read : (slot : ℕ) (slots : List ℕ) (i d : ℕ) → StandsAt slot slots i → get_or slots i d ≡ slot
stands_read slot slots i d s = ap (λ v. get_or v i d) s.is ∙ get_or_at s.front slot s.back d i (sym s.at)

pub stands_taken : (slot : ℕ) (slots : List ℕ) (i : ℕ) → (s : StandsAt slot slots i) → remove slots i ≡ s.front ++ s.back
stands_taken slot slots i s = (λ j. remove (s.is j) (s.at j)) ∙ remove_middle s.front slot s.back

-- A MARK AT ANOTHER PLACE

-- a number is put into a list where its mark belongs
pub put_view : (f : ℕ → Mark) (slots : List ℕ) (i slot : ℕ) (m : Mark) → f slot ≡ m → MarksPartAt (λ x. comes_before x m) (map f slots) i → map f (insert slots i slot) ≡ with_mark m (map f slots)
put_view f slots i slot m e p =
    map-append f (take i slots) (slot ∷ drop i slots)
    ∙ (λ j. sym (take-map f i slots) j ++ e j ∷ sym (drop-map f i slots) j)
    ∙ sym (with_at m (map f slots) i p)
