-- The marks of two slots are exchanged, and their numbers with them: no mark changes.
use Rattle.std.proofs.Common.{◌≡◌, ◌≢◌, ℕ, zero, suc, ◌+◌, ◌<◌, ◌==◌, List, [], ◌∷◌, map, length, get_or, set, refl, sym, ap, ◌∙◌, subst, arith}
use Rattle.std.specs.List.{swap}
use Rattle.std.proofs.lemmas.Bool.{eqb-true, eq-eqb}
use Rattle.std.proofs.lemmas.List.{get_or-map, get_or-set_other, get_or-set_same, length-map, length-set, map-set, same_lists}
use Rattle.std.proofs.lemmas.List.Edits.{swap_is}
use Rattle.rt_marks.specs.declared.mark.Mark.{Mark as KeptMark}
use Rattle.rt_marks.specs.Marks.{Mark, AreAscending, AreInOrder, comes_before}
use Rattle.rt_marks.specs.Seen.{IsEachOnce, IsIndexed, MarksPartAt, in_slot, in_slots, names_of_marks, no_mark, seen_mark, seen_all, slot_times}
use Rattle.rt_marks.proofs.Changes.{apart}
use Rattle.rt_marks.proofs.InOrder.{split}
use Rattle.rt_marks.proofs.Slots.{slot_kept, stands_at, stands_read, stands_within}
use Rattle.rt_marks.proofs.Tables.{seen_length}
use Rattle.rt_marks.proofs.Times.{not_here, not_once, once_below, tally, times_at}

-- NUMBERS

-- two numbers stand at two indexes
pub record StandAt (xs : List ℕ) (a b i j : ℕ) : Type 0 where
  pub i_within : i < length xs
  pub j_within : j < length xs
  pub i_read : get_or xs i 0 ≡ a
  pub j_read : get_or xs j 0 ≡ b

times_set : (s : ℕ) (xs : List ℕ) (i y d : ℕ) → i < length xs → tally (get_or xs i d == s) + slot_times s (set xs i y) ≡ tally (y == s) + slot_times s xs
times_set s [] i y d l = absurd (omega (arith, l))
times_set s (x ∷ xs) zero y d l = omega arith
times_set s (x ∷ xs) (suc i) y d l = omega (arith, times_set s xs i y d (omega (arith, l)))

numbers_swapped : (xs : List ℕ) (a b i j : ℕ) → StandAt xs a b i j → swap xs i j ≡ set (set xs i b) j a
numbers_swapped xs a b i j h = sym (swap_is xs i j 0 h.i_within h.j_within) ∙ (λ k. set (set xs i (h.j_read k)) j (h.i_read k))

written_after : (xs : List ℕ) (i j b : ℕ) → j < length xs → get_or xs j 0 ≡ b → get_or (set xs i b) j 0 ≡ b
written_after xs i j b l e = split (j == i)
    (λ t. let same = eqb-true j i t in ap (λ v. get_or (set xs i b) v 0) same ∙ get_or-set_same xs i b 0 (subst (λ v. v < length xs) same l))
    (λ f. get_or-set_other xs i j b 0 (apart j i f) ∙ e)

times_swapped : (s : ℕ) (xs : List ℕ) (a b i j : ℕ) → StandAt xs a b i j → slot_times s (swap xs i j) ≡ slot_times s xs
times_swapped s xs a b i j h =
    let first = times_set s xs i b 0 h.i_within in
    let second = times_set s (set xs i b) j a 0 (subst (λ v. j < v) (sym (length-set xs i b)) h.j_within) in
    let at_i = ap (λ v. tally (v == s)) h.i_read in
    let at_j = ap (λ v. tally (v == s)) (written_after xs i j b h.j_within h.j_read) in
    ap (slot_times s) (numbers_swapped xs a b i j h) ∙ omega (arith, first, second, at_i, at_j)

-- a number that stands once in a list stands at one index
only_once : (a : ℕ) (xs : List ℕ) (i k d : ℕ) → slot_times a xs ≡ 1 → i < length xs → k < length xs → get_or xs i d ≡ a → get_or xs k d ≡ a → i ≡ k
only_once a [] i k d h li lk ei ek = absurd (omega (arith, li))
only_once a (x ∷ xs) zero zero d h li lk ei ek = refl
only_once a (x ∷ xs) zero (suc k) d h li lk ei ek = absurd (omega (arith, h, ap tally (eq-eqb x a ei), times_at xs k a d (omega (arith, lk)) ek))
only_once a (x ∷ xs) (suc i) zero d h li lk ei ek = absurd (omega (arith, h, ap tally (eq-eqb x a ek), times_at xs i a d (omega (arith, li)) ei))
only_once a (x ∷ xs) (suc i) (suc k) d h li lk ei ek =
    let f = not_here a x xs i d (omega (arith, li)) ei h in
    let e = only_once a xs i k d (omega (arith, h, not_once x a f)) (omega (arith, li)) (omega (arith, lk)) ei ek in
    omega (arith, e)

-- MARKS

abbrev pub traded : List Mark → ℕ → ℕ → List Mark
traded marks a b = set (set marks a (in_slot marks b)) b (in_slot marks a)

pub traded_is : (marks : List Mark) (a b : ℕ) → a < length marks → b < length marks → swap marks a b ≡ traded marks a b
traded_is marks a b la lb = sym (swap_is marks a b no_mark la lb)

pub traded_last : (marks : List Mark) (a b : ℕ) → b < length marks → in_slot (traded marks a b) b ≡ in_slot marks a
traded_last marks a b lb = get_or-set_same (set marks a (in_slot marks b)) b (in_slot marks a) no_mark (subst (λ v. b < v) (sym (length-set marks a (in_slot marks b))) lb)

pub traded_first : (marks : List Mark) (a b : ℕ) → a < length marks → b < length marks → in_slot (traded marks a b) a ≡ in_slot marks b
traded_first marks a b la lb = split (a == b)
    (λ t. let same = eqb-true a b t in ap (in_slot (traded marks a b)) same ∙ traded_last marks a b lb ∙ ap (in_slot marks) same)
    (λ f. get_or-set_other (set marks a (in_slot marks b)) b a (in_slot marks a) no_mark (apart a b f) ∙ get_or-set_same marks a (in_slot marks b) no_mark la)

pub traded_other : (marks : List Mark) (a b s : ℕ) → s ≢ a → s ≢ b → in_slot (traded marks a b) s ≡ in_slot marks s
traded_other marks a b s h k = get_or-set_other (set marks a (in_slot marks b)) b s (in_slot marks a) no_mark k ∙ get_or-set_other marks a s (in_slot marks b) no_mark h

pub traded_length : (marks : List Mark) (a b : ℕ) → length (traded marks a b) ≡ length marks
traded_length marks a b = length-set (set marks a (in_slot marks b)) b (in_slot marks a) ∙ length-set marks a (in_slot marks b)

-- each index reads the mark that it read
view_swapped : (marks : List Mark) (xs : List ℕ) (a b i j : ℕ) → IsEachOnce (length marks) xs → a < length marks → b < length marks → StandAt xs a b i j → in_slots (traded marks a b) (swap xs i j) ≡ in_slots marks xs
view_swapped marks xs a b i j once la lb h =
    ap (in_slots (traded marks a b)) (numbers_swapped xs a b i j h)
    ∙ same_lists (map f ys) (map g xs) (length-map ys f ∙ size ∙ sym (length-map xs g)) (λ k d l.
    let inside : k < length ys = subst (λ v. k < v) (length-map ys f) l in
    let within : k < length xs = subst (λ v. k < v) size inside in
    get_or-map f ys k 0 d inside ∙ read k within ∙ sym (get_or-map g xs k 0 d within))
  where
    f : ℕ → Mark
    f = in_slot (traded marks a b)

    g : ℕ → Mark
    g = in_slot marks

    ys : List ℕ
    ys = set (set xs i b) j a

    size : length ys ≡ length xs
    size = length-set (set xs i b) j a ∙ length-set xs i b

    at_j : (k : ℕ) → k ≡ j → f (get_or ys k 0) ≡ g (get_or xs k 0)
    at_j k e =
        ap (λ v. f (get_or ys v 0)) e ∙ ap f (get_or-set_same (set xs i b) j a 0 (subst (λ v. j < v) (sym (length-set xs i b)) h.j_within))
        ∙ traded_first marks a b la lb ∙ sym (ap (λ v. g (get_or xs v 0)) e ∙ ap g h.j_read)

    at_i : (k : ℕ) → k ≢ j → k ≡ i → f (get_or ys k 0) ≡ g (get_or xs k 0)
    at_i k n e =
        ap f (get_or-set_other (set xs i b) j k a 0 n ∙ ap (λ v. get_or (set xs i b) v 0) e ∙ get_or-set_same xs i b 0 h.i_within)
        ∙ traded_last marks a b lb ∙ sym (ap (λ v. g (get_or xs v 0)) e ∙ ap g h.i_read)

    elsewhere : (k : ℕ) → k < length xs → k ≢ j → k ≢ i → f (get_or ys k 0) ≡ g (get_or xs k 0)
    elsewhere k l n m =
        ap f (get_or-set_other (set xs i b) j k a 0 n ∙ get_or-set_other xs i k b 0 m)
        ∙ traded_other marks a b (get_or xs k 0)
        (λ e. m (only_once a xs k i 0 (once_below (length marks) xs once a la) l h.i_within e h.i_read))
        (λ e. n (only_once b xs k j 0 (once_below (length marks) xs once b lb) l h.j_within e h.j_read))

    read : (k : ℕ) → k < length xs → f (get_or ys k 0) ≡ g (get_or xs k 0)
    read k l = split (k == j)
        (λ t. at_j k (eqb-true k j t))
        (λ u. split (k == i)
        (λ t. at_i k (apart k j u) (eqb-true k i t))
        (λ v. elsewhere k l (apart k j u) (apart k i v)))

once_swapped : (marks : List Mark) (xs : List ℕ) (a b i j : ℕ) → IsEachOnce (length marks) xs → StandAt xs a b i j → IsEachOnce (length (traded marks a b)) (swap xs i j)
once_swapped marks xs a b i j once h = λ s. times_swapped s xs a b i j h ∙ subst (λ v. IsEachOnce v xs) (sym (traded_length marks a b)) once s

-- where two slots' numbers stand in the order
pub both_stand : (S : List Mark) (N O : List ℕ) (a b i j : ℕ) (here_a here_b : Mark) → IsIndexed S N O → a < length S → b < length S → in_slot S a ≡ here_a → in_slot S b ≡ here_b → MarksPartAt (λ x. comes_before x here_a) (in_slots S O) i → MarksPartAt (λ x. comes_before x here_b) (in_slots S O) j → StandAt O a b i j
both_stand S N O a b i j here_a here_b x la lb ea eb pa pb =
    let s = stands_at S O a i x.order_once x.ordered la (subst (λ v. MarksPartAt (λ x. comes_before x v) (in_slots S O) i) (sym ea) pa) in
    let t = stands_at S O b j x.order_once x.ordered lb (subst (λ v. MarksPartAt (λ x. comes_before x v) (in_slots S O) j) (sym eb) pb) in
    record { i_within = stands_within a O i s; j_within = stands_within b O j t; i_read = stands_read a O i 0 s; j_read = stands_read b O j 0 t }

-- OF TABLES, by the values of their vectors

pub swapped_table : (S S' : List Mark) (N N' O O' : List ℕ) (a b i j k l : ℕ) → IsIndexed S N O → a < length S → b < length S → StandAt N a b i j → StandAt O a b k l → S' ≡ swap S a b → N' ≡ swap N i j → O' ≡ swap O k l → IsIndexed S' N' O' × (in_slots S' O' ≡ in_slots S O)
swapped_table S S' N N' O O' a b i j k l x la lb n o es en eo =
    let marks : S' ≡ traded S a b = es ∙ traded_is S a b la lb in
    let names = view_swapped S N a b i j x.names_once la lb n in
    let order = view_swapped S O a b k l x.order_once la lb o in
    let indexed : IsIndexed (traded S a b) (swap N i j) (swap O k l) = record {
      names_once = once_swapped S N a b i j x.names_once n;
      order_once = once_swapped S O a b k l x.order_once o;
      ascending = subst (λ v. AreAscending (names_of_marks v)) (sym names) x.ascending;
      ordered = subst AreInOrder (sym order) x.ordered;
    } in (
      subst (λ v. IsIndexed v N' O') (sym marks) (subst (λ v. IsIndexed (traded S a b) v O') (sym en) (subst (λ v. IsIndexed (traded S a b) (swap N i j) v) (sym eo) indexed)),
      (λ t. in_slots (marks t) (eo t)) ∙ order,
    )

-- the marks that are seen of kept ones
pub seen_swapped : (items : List KeptMark) (a b : ℕ) (d : KeptMark) → a < length items → b < length items → seen_all (swap items a b) ≡ swap (seen_all items) a b
seen_swapped items a b d la lb =
    let S = seen_all items in
    ap seen_all (sym (swap_is items a b d la lb))
    ∙ map-set seen_mark (set items a (get_or items b d)) b (get_or items a d)
    ∙ ap (λ v. set v b (seen_mark (get_or items a d))) (map-set seen_mark items a (get_or items b d))
    ∙ (λ i. set (set S a (sym (slot_kept items b d lb) i)) b (sym (slot_kept items a d la) i))
    ∙ sym (traded_is S a b (subst (λ v. a < v) (sym (seen_length items)) la) (subst (λ v. b < v) (sym (seen_length items)) lb))
