-- Marks are put behind the others, and cut off there.
use Rattle.std.proofs.Common.{◌≡◌, ◌≢◌, ℕ, ◌+◌, ◌-◌, ◌<◌, ◌≤◌, ◌==◌, ◌&&◌, ◌||◌, nat_lt, List, [], ◌∷◌, ◌++◌, map, filter, length, get_or, take, String, Global, true, false, refl, sym, ap, ◌∙◌, Bool, cond, not, subst, arith, None, string_bytes}
use Rattle.std.specs.List.{swap, AllByRecursion}
use Rattle.std.specs.Str.{bytes_eq}
use Rattle.std.proofs.lemmas.Bool.{eqb-true}
use Rattle.std.proofs.lemmas.Bool.Decides.{nat_tests}
use Rattle.std.proofs.lemmas.List.{get_or-take, get_or_at, length-append, length-take-le, map-append, map_more}
use Rattle.std.proofs.lemmas.List.Folds.{list_any-append}
use Rattle.rt_marks.specs.Marks.{Mark, AreAscending, AreInOrder, comes_before, is_named, is_one_of, name_order, mark_of_name}
use Rattle.std.specs.Ordering.{is_lt}
use Rattle.rt_stamps.specs.Words.{as_words}
use Rattle.rt_marks.specs.Seen.{IsEachOnce, IsIndexed, SlotsPart, in_slot, in_slots, names_of_marks, no_mark}
use Rattle.rt_marks.proofs.Changes.{apart}
use Rattle.rt_marks.proofs.Exchanging.{traded, traded_first, traded_is, traded_last, traded_length, traded_other}
use Rattle.rt_marks.proofs.InOrder.{split}
use Rattle.rt_marks.proofs.Names.{name_itself, none_middle, same_name}
use Rattle.rt_marks.proofs.Removing.{each_filter, each_passes, kept, times_filter}
use Rattle.rt_marks.proofs.Searching.{same_slot, within}
use Rattle.rt_marks.proofs.Slots.{each_from, each_of, each_weaker, same_marks}
use Rattle.rt_marks.proofs.Times.{each_below, once_below, present, tally}

-- THE MARK OF A NAME

-- another slot's mark has another name
other_name : (S : List Mark) (N O : List ℕ) (q : List ℕ) (slot t : ℕ) → IsIndexed S N O → slot < length S → t < length S → (in_slot S slot).name ≡ q → t ≢ slot → is_named q (in_slot S t) ≡ false
other_name S N O q slot t x l k e n =
    let r = present t N (omega (arith, once_below (length S) N x.names_once t k)) in
    let read : get_or N (length r.front) 0 ≡ t = ap (λ v. get_or v (length r.front) 0) r.is ∙ get_or_at r.front t r.back 0 (length r.front) refl in
    let size = ap length r.is ∙ length-append r.front (t ∷ r.back) in
    split (is_named q (in_slot S t))
    (λ b. let name : (in_slot S (get_or N (length r.front) 0)).name ≡ (in_slot S slot).name = ap (λ v. (in_slot S v).name) read ∙ same_name (in_slot S t).name q b ∙ sym e in
    absurd (n (sym read ∙ same_slot S N O (length r.front) 0 slot x (omega (arith, size)) l name)))
    (λ b. b)

-- no slot's mark has a name that no mark has
no_name : (S : List Mark) (N O : List ℕ) (q : List ℕ) (t : ℕ) → IsIndexed S N O → t < length S → mark_of_name q (in_slots S O) ≡ None → is_named q (in_slot S t) ≡ false
no_name S N O q t x l h =
    let r = present t O (omega (arith, once_below (length S) O x.order_once t l)) in
    let f = in_slot S in
    let parted : in_slots S O ≡ map f r.front ++ f t ∷ map f r.back = ap (map f) r.is ∙ map-append f r.front (t ∷ r.back) in
    none_middle q (map f r.front) (f t) (map f r.back) (subst (λ v. mark_of_name q v ≡ None) parted h)

-- PUT BEHIND

and_true : (b : Bool) → (b && true) ≡ b
and_true true = refl
and_true false = refl

and_false : (b : Bool) → (b && false) ≡ false
and_false true = refl
and_false false = refl

unnamed : (test : Mark → Bool) (q : List ℕ) (m : Mark) (b : Bool) → test m ≡ b → is_named q m ≡ false → (test m && not (is_named q m)) ≡ b
unnamed test q m b h k = (λ i. h i && not (k i)) ∙ and_true b

its_name : (test : Mark → Bool) (q : List ℕ) (m : Mark) → m.name ≡ q → (test m && not (is_named q m)) ≡ false
its_name test q m e = ap (λ b. test m && not b) (subst (λ v. bytes_eq m.name v ≡ true) e (name_itself m.name)) ∙ and_false (test m)

not_less : (a b : ℕ) → a ≡ b → false ≡ nat_lt a b
not_less a b e = grind (arith, nat_tests)

less_still : (s n : ℕ) → s ≢ n - 1 → 0 < n → nat_lt s n ≡ nat_lt s (n - 1)
less_still s n h l = grind (arith, nat_tests)

less_now : (s n : ℕ) → s ≢ n - 1 → s < n → true ≡ nat_lt s (n - 1)
less_now s n h l = grind (arith, nat_tests)

pub parted_behind : (S S' : List Mark) (N O : List ℕ) (q : List ℕ) (slot n : ℕ) → IsIndexed S N O → slot < length S → n ≤ length S → slot < n → (in_slot S slot).name ≡ q → S' ≡ swap S slot (n - 1) → (test : Mark → Bool) → SlotsPart test S n → SlotsPart (λ m. test m && not (is_named q m)) S' (n - 1)
parted_behind S S' N O q slot n x l w k e es test h =
    subst (λ v. SlotsPart (λ m. test m && not (is_named q m)) v (n - 1)) (sym (es ∙ traded_is S slot (n - 1) l last)) (λ s b. parted s (subst (λ v. s < v) size b))
  where
    after : Mark → Bool
    after m = test m && not (is_named q m)

    last : n - 1 < length S
    last = omega (arith, w, k)

    size : length (traded S slot (n - 1)) ≡ length S
    size = traded_length S slot (n - 1)

    parted : (s : ℕ) → s < length S → after (in_slot (traded S slot (n - 1)) s) ≡ nat_lt s (n - 1)
    parted s b = split (s == n - 1)
        (λ t. let same = eqb-true s (n - 1) t in
        ap after (ap (in_slot (traded S slot (n - 1))) same ∙ traded_last S slot (n - 1) last) ∙ its_name test q (in_slot S slot) e ∙ not_less s (n - 1) same)
        (λ f. split (s == slot)
        (λ t. let same = eqb-true s slot t in
        let other : n - 1 ≢ slot = λ d. apart s (n - 1) f (same ∙ sym d) in
        ap after (ap (in_slot (traded S slot (n - 1))) same ∙ traded_first S slot (n - 1) l last)
        ∙ unnamed test q (in_slot S (n - 1)) true (h (n - 1) last ∙ within (n - 1) n (omega (arith, k))) (other_name S N O q slot (n - 1) x l last e other)
        ∙ less_now s n (apart s (n - 1) f) (subst (λ v. v < n) (sym same) k))
        (λ g. ap after (traded_other S slot (n - 1) s (apart s slot g) (apart s (n - 1) f))
        ∙ unnamed test q (in_slot S s) (nat_lt s n) (h s b) (other_name S N O q slot s x l b e (apart s slot g))
        ∙ less_still s n (apart s (n - 1) f) (omega (arith, k))))

pub behind_already : (S : List Mark) (N O : List ℕ) (q : List ℕ) (slot n : ℕ) → IsIndexed S N O → slot < length S → n ≤ slot → (in_slot S slot).name ≡ q → (test : Mark → Bool) → SlotsPart test S n → SlotsPart (λ m. test m && not (is_named q m)) S n
behind_already S N O q slot n x l k e test h = λ s b. split (s == slot)
    (λ t. let same = eqb-true s slot t in
    its_name test q (in_slot S s) (ap (λ v. (in_slot S v).name) same ∙ e) ∙ beyond s n (subst (λ v. n ≤ v) (sym same) k))
    (λ f. unnamed test q (in_slot S s) (nat_lt s n) (h s b) (other_name S N O q slot s x l b e (apart s slot f)))
  where
    beyond : (a b : ℕ) → b ≤ a → false ≡ nat_lt a b
    beyond a b l = grind (arith, nat_tests)

pub none_behind : (S : List Mark) (N O : List ℕ) (q : List ℕ) (n : ℕ) → IsIndexed S N O → mark_of_name q (in_slots S O) ≡ None → (test : Mark → Bool) → SlotsPart test S n → SlotsPart (λ m. test m && not (is_named q m)) S n
none_behind S N O q n x none test h = λ s b. unnamed test q (in_slot S s) (nat_lt s n) (h s b) (no_name S N O q s x b none)

-- ONE NAME MORE

neither : (a b : Bool) → (not a && not b) ≡ not (a || (b || false))
neither true b = refl
neither false true = refl
neither false false = refl

pub one_name_more : (names : List (String Global)) (i : ℕ) (name : String Global) (bytes : List ℕ) (marks : List Mark) (n : ℕ) → i < length names → name ≡ get_or names i name → bytes ≡ string_bytes name → SlotsPart (λ m. not (is_one_of (as_words (take i names)) m) && not (is_named bytes m)) marks n → SlotsPart (λ m. not (is_one_of (as_words (take (i + 1) names)) m)) marks n
one_name_more names i name bytes marks n l e b h = λ s k. sym (grown (in_slot marks s)) ∙ h s k where
  grown : (m : Mark) → (not (is_one_of (as_words (take i names)) m) && not (is_named bytes m)) ≡ not (is_one_of (as_words (take (i + 1) names)) m)
  grown m =
      neither (is_one_of (as_words (take i names)) m) (is_named bytes m)
      ∙ ap not (sym (list_any-append (λ name. is_named name m) (as_words (take i names)) (bytes ∷ [])))
      ∙ ap (λ (v : List ℕ). not (is_one_of (as_words (take i names) ++ v ∷ []) m)) (b ∙ ap (λ (w : String Global). string_bytes w) e)
      ∙ ap (λ v. not (is_one_of v m)) (sym (map_more (λ w. string_bytes w) names i name l))

pub all_there : (marks : List Mark) (n : ℕ) → length marks ≤ n → SlotsPart (λ m. not (is_one_of [] m)) marks n
all_there marks n l = λ s k. sym (within s n (omega (arith, l, k)))

-- CUT OFF

abbrev first : ℕ → ℕ → Bool
first n s = nat_lt s n

below : (s n : ℕ) → nat_lt s n ≡ true → s < n
below s n h = grind (arith, nat_tests)

once_cut : (n size : ℕ) (xs : List ℕ) → n ≤ size → IsEachOnce size xs → IsEachOnce n (filter (first n) xs)
once_cut n size xs l once = λ s. times_filter (first n) s xs ∙ ap (kept (nat_lt s n)) (once s) ∙ fewer s where
  fewer : (s : ℕ) → kept (nat_lt s n) (tally (nat_lt s size)) ≡ tally (nat_lt s n)
  fewer s = grind (arith, nat_tests)

view_cut : (S : List Mark) (n : ℕ) (xs : List ℕ) → in_slots (take n S) (filter (first n) xs) ≡ in_slots S (filter (first n) xs)
view_cut S n xs =
    same_marks (in_slot (take n S)) (in_slot S) (filter (first n) xs)
    (each_passes (first n) (λ s. in_slot (take n S) s ≡ in_slot S s) xs (λ s t. get_or-take n S s no_mark (below s n t)))

names_cut : (f : ℕ → Mark) (p : ℕ → Bool) (P : List ℕ → Type 0) (xs : List ℕ) → AllByRecursion P (names_of_marks (map f xs)) → AllByRecursion P (names_of_marks (map f (filter p xs)))
names_cut f p P [] h = tt
names_cut f p P (x ∷ xs) h =
    let more = names_cut f p P xs h.1 in
    split (p x)
    (λ t. subst (λ b. AllByRecursion P (names_of_marks (map f (cond b (x ∷ filter p xs) (filter p xs))))) (sym t) (h.0, more))
    (λ t. subst (λ b. AllByRecursion P (names_of_marks (map f (cond b (x ∷ filter p xs) (filter p xs))))) (sym t) more)

ascending_cut : (f : ℕ → Mark) (p : ℕ → Bool) (xs : List ℕ) → AreAscending (names_of_marks (map f xs)) → AreAscending (names_of_marks (map f (filter p xs)))
ascending_cut f p [] h = tt
ascending_cut f p (x ∷ xs) h =
    let more = ascending_cut f p xs h.1 in
    split (p x)
    (λ t. subst (λ b. AreAscending (names_of_marks (map f (cond b (x ∷ filter p xs) (filter p xs))))) (sym t) (names_cut f p (λ y. is_lt (name_order (f x).name y) ≡ true) xs h.0, more))
    (λ t. subst (λ b. AreAscending (names_of_marks (map f (cond b (x ∷ filter p xs) (filter p xs))))) (sym t) more)

order_cut : (f : ℕ → Mark) (p : ℕ → Bool) (xs : List ℕ) → AreInOrder (map f xs) → AreInOrder (map f (filter p xs))
order_cut f p [] h = tt
order_cut f p (x ∷ xs) h =
    let more = order_cut f p xs h.1 in
    let P : Mark → Type 0 = λ y. comes_before (f x) y ≡ true in
    split (p x)
    (λ t. subst (λ b. AreInOrder (map f (cond b (x ∷ filter p xs) (filter p xs)))) (sym t) (each_of f P (filter p xs) (each_filter p (λ s. P (f s)) xs (each_from f P xs h.0)), more))
    (λ t. subst (λ b. AreInOrder (map f (cond b (x ∷ filter p xs) (filter p xs)))) (sym t) more)

marks_cut : (f : ℕ → Mark) (test : Mark → Bool) (p : ℕ → Bool) (xs : List ℕ) → AllByRecursion (λ s. test (f s) ≡ p s) xs → map f (filter p xs) ≡ filter test (map f xs)
marks_cut f test p [] h = refl
marks_cut f test p (x ∷ xs) h =
    let more = marks_cut f test p xs h.1 in
    let rest = filter test (map f xs) in
    split (p x)
    (λ t. ap (λ b. map f (cond b (x ∷ filter p xs) (filter p xs))) t ∙ ap (λ v. f x ∷ v) more ∙ sym (ap (λ b. cond b (f x ∷ rest) rest) (h.0 ∙ t)))
    (λ t. ap (λ b. map f (cond b (x ∷ filter p xs) (filter p xs))) t ∙ more ∙ sym (ap (λ b. cond b (f x ∷ rest) rest) (h.0 ∙ t)))

pub cut_indexed : (S S' : List Mark) (N N' O O' : List ℕ) (n : ℕ) → IsIndexed S N O → n ≤ length S → S' ≡ take n S → N' ≡ filter (first n) N → O' ≡ filter (first n) O → IsIndexed S' N' O'
cut_indexed S S' N N' O O' n x l es en eo =
    let size = length-take-le n S l in
    let indexed : IsIndexed (take n S) (filter (first n) N) (filter (first n) O) = record {
      names_once = subst (λ v. IsEachOnce v (filter (first n) N)) (sym size) (once_cut n (length S) N l x.names_once);
      order_once = subst (λ v. IsEachOnce v (filter (first n) O)) (sym size) (once_cut n (length S) O l x.order_once);
      ascending = subst (λ v. AreAscending (names_of_marks v)) (sym (view_cut S n N)) (ascending_cut (in_slot S) (first n) N x.ascending);
      ordered = subst AreInOrder (sym (view_cut S n O)) (order_cut (in_slot S) (first n) O x.ordered);
    } in
    subst (λ v. IsIndexed v N' O') (sym es) (subst (λ v. IsIndexed (take n S) v O') (sym en) (subst (λ v. IsIndexed (take n S) (filter (first n) N) v) (sym eo) indexed))

pub cut_view : (S S' : List Mark) (N O O' : List ℕ) (n : ℕ) → IsIndexed S N O → S' ≡ take n S → O' ≡ filter (first n) O → (test : Mark → Bool) → SlotsPart test S n → in_slots S' O' ≡ filter test (in_slots S O)
cut_view S S' N O O' n x es eo test h =
    (λ i. in_slots (es i) (eo i)) ∙ view_cut S n O
    ∙ marks_cut (in_slot S) test (first n) O (each_weaker (λ s. s < length S) (λ s. test (in_slot S s) ≡ first n s) O (λ s l. h s l) (each_below (length S) O x.order_once))
