-- Names by their bytes.
use Rattle.std.proofs.Common.{◌≡◌, ℕ, zero, suc, ◌+◌, ◌<◌, ◌||◌, List, [], ◌∷◌, String, Global, map, length, get_or, true, false, refl, sym, ap, ◌∙◌, Bool, cond, subst, arith, Option, Some, is_some, IsSome, Contains, string_bytes}
use Rattle.std.specs.List.{insert, list_any, prefix_len, AllByRecursion}
use Rattle.std.specs.Ordering.{is_lt}
use Rattle.std.specs.Str.{bytes_eq}
use Rattle.std.specs.FinMap.{slice_cmp-IsAntisymmetric, nat_cmp-IsAntisymmetric}
use Rattle.std.proofs.lemmas.Cmp.{nat_list_cmp_total}
use Rattle.std.proofs.lemmas.Slice.Eq.{bytes_eq-Decides}
use Rattle.rt_marks.specs.Marks.{Mark, name_order, mark_of_name, HaveOwnNames, AreAscending}
use Rattle.rt_marks.proofs.InOrder.{split}
use Rattle.rt_marks.proofs.Names.{clash, same_name, name_itself, differ_back, names_differ}
use Rattle.rt_marks.proofs.Order.{lt_trans, lt_asym, lt_neither}
use Rattle.rt_stamps.specs.Words.{Word, as_words}
use Rattle.rt_tags.specs.Tags.{HaveNoRepeats, is_listed}
use Rattle.rt_tagcmd.specs.MarkCommands.{inserted_by_bytes, by_bytes}

abbrev has : Word → List Word → Bool
has q names = list_any (λ x. bytes_eq x q) names

abbrev pub names_of : List Mark → List Word
names_of marks = map (λ m. m.name) marks

abbrev Below : Word → Word → Type 0
Below a b = is_lt (name_order a b) ≡ true

same_tests : (a b : Bool) → (a ≡ true → b ≡ true) → (b ≡ true → a ≡ true) → a ≡ b
same_tests true b f g = sym (f refl)
same_tests false true f g = g refl
same_tests false false f g = refl

either_order : (a b c : Bool) → (a || (b || c)) ≡ (b || (a || c))
either_order true true c = refl
either_order true false c = refl
either_order false b c = refl

-- ONE NAME AMONG OTHERS

has_with : (n : Word) (names : List Word) (q : Word) → has q (inserted_by_bytes n names) ≡ (bytes_eq n q || has q names)
has_with n [] q = refl
has_with n (x ∷ names) q =
    let more = has_with n names q in
    split (is_lt (name_order x n))
    (λ t. ap (λ b. has q (cond b (x ∷ inserted_by_bytes n names) (n ∷ x ∷ names))) t ∙ ap (λ v. bytes_eq x q || v) more ∙ either_order (bytes_eq x q) (bytes_eq n q) (has q names))
    (λ f. ap (λ b. has q (cond b (x ∷ inserted_by_bytes n names) (n ∷ x ∷ names))) f)

each_with : (P : Word → Type 0) (n : Word) (names : List Word) → P n → AllByRecursion P names → AllByRecursion P (inserted_by_bytes n names)
each_with P n [] h k = (h, tt)
each_with P n (x ∷ names) h k =
    let more = each_with P n names h k.1 in
    split (is_lt (name_order x n))
    (λ t. subst (λ b. AllByRecursion P (cond b (x ∷ inserted_by_bytes n names) (n ∷ x ∷ names))) (sym t) (k.0, more))
    (λ f. subst (λ b. AllByRecursion P (cond b (x ∷ inserted_by_bytes n names) (n ∷ x ∷ names))) (sym f) (h, k))

all_below : (a b : Word) (names : List Word) → Below a b → AllByRecursion (Below b) names → AllByRecursion (Below a) names
all_below a b [] h k = tt
all_below a b (x ∷ names) h k = (lt_trans nat_list_cmp_total a b x h k.0, all_below a b names h k.1)

or_none_first : (a b : Bool) → (a || b) ≡ false → a ≡ false
or_none_first true b h = h
or_none_first false b h = refl

or_none_second : (a b : Bool) → (a || b) ≡ false → b ≡ false
or_none_second true b h = absurd (clash true refl h)
or_none_second false b h = h

-- of two names that differ one comes first
comes_first : (n x : Word) → bytes_eq x n ≡ false → is_lt (name_order x n) ≡ false → Below n x
comes_first n x d f =
    split (is_lt (name_order n x))
    (λ t. t)
    (λ g. let e : n ≡ x = slice_cmp-IsAntisymmetric nat_cmp-IsAntisymmetric _ _ (lt_neither nat_list_cmp_total n x g f) in
    absurd (clash _ ((bytes_eq-Decides x n).1 (sym e)) d))

ascending_with : (n : Word) (names : List Word) → has n names ≡ false → AreAscending names → AreAscending (inserted_by_bytes n names)
ascending_with n [] h k = (tt, tt)
ascending_with n (x ∷ names) h k =
    let apart = or_none_first (bytes_eq x n) (has n names) h in
    let more = ascending_with n names (or_none_second (bytes_eq x n) (has n names) h) k.1 in
    split (is_lt (name_order x n))
    (λ t. subst (λ b. AreAscending (cond b (x ∷ inserted_by_bytes n names) (n ∷ x ∷ names))) (sym t) (each_with (Below x) n names t k.0, more))
    (λ f. let first = comes_first n x apart f in
    subst (λ b. AreAscending (cond b (x ∷ inserted_by_bytes n names) (n ∷ x ∷ names))) (sym f) ((first, all_below n x names first k.0), k))

-- NAMES OF MARKS

has_sorted : (names : List Word) (q : Word) → has q (by_bytes names) ≡ has q names
has_sorted [] q = refl
has_sorted (n ∷ names) q = has_with n (by_bytes names) q ∙ ap (λ v. bytes_eq n q || v) (has_sorted names q)

has_named : (q : Word) (marks : List Mark) → has q (names_of marks) ≡ is_some (mark_of_name q marks)
has_named q [] = refl
has_named q (m ∷ marks) = by (bytes_eq m.name q) (has_named q marks) where
  by : (b : Bool) → has q (names_of marks) ≡ is_some (mark_of_name q marks) → (b || has q (names_of marks)) ≡ is_some (cond b (Some m) (mark_of_name q marks))
  by true e = refl
  by false e = e

sorted_ascend : (marks : List Mark) → HaveOwnNames marks → AreAscending (by_bytes (names_of marks))
sorted_ascend [] h = tt
sorted_ascend (m ∷ marks) h =
    ascending_with m.name (by_bytes (names_of marks)) (has_sorted (names_of marks) m.name ∙ has_named m.name marks ∙ ap (λ (o : Option Mark). is_some o) h.0) (sorted_ascend marks h.1)

-- NAMES THAT ASCEND ARE THEIR SET

below_none : (x : Word) (names : List Word) → AllByRecursion (Below x) names → has x names ≡ false
below_none x [] h = refl
below_none x (y ∷ names) h = λ i. names_differ x y h.0 i || below_none x names h.1 i

below_one : (x q : Word) (names : List Word) → AllByRecursion (Below x) names → has q names ≡ true → Below x q
below_one x q [] h t = absurd (clash false t refl)
below_one x q (y ∷ names) h t =
    split (bytes_eq y q)
    (λ s. subst (Below x) (same_name y q s) h.0)
    (λ f. below_one x q names h.1 (sym (ap (λ b. b || has q names) f) ∙ t))

same_tails : (x : Word) (xs ys : List Word) → has x xs ≡ false → has x ys ≡ false → ((q : Word) → (bytes_eq x q || has q xs) ≡ (bytes_eq x q || has q ys)) → (q : Word) → has q xs ≡ has q ys
same_tails x xs ys a b h q =
    split (bytes_eq x q)
    (λ t. let e = same_name x q t in subst (λ v. has v xs ≡ has v ys) e (a ∙ sym b))
    (λ f. sym (ap (λ v. v || has q xs) f) ∙ h q ∙ ap (λ v. v || has q ys) f)

pub one_list : (xs ys : List Word) → AreAscending xs → AreAscending ys → ((q : Word) → has q xs ≡ has q ys) → xs ≡ ys
one_list [] [] h k e = refl
one_list [] (y ∷ ys) h k e = absurd (clash _ (ap (λ b. b || has y ys) (name_itself y)) (sym (e y)))
one_list (x ∷ xs) [] h k e = absurd (clash _ (ap (λ b. b || has x xs) (name_itself x)) (e x))
one_list (x ∷ xs) (y ∷ ys) h k e =
    split (bytes_eq x y)
    (λ t. let same = same_name x y t in
    let back = subst (λ v. (q : Word) → (bytes_eq x q || has q xs) ≡ (bytes_eq v q || has q ys)) (sym same) e in
    let none = subst (λ v. has v ys ≡ false) (sym same) (below_none y ys k.0) in
    let rest = one_list xs ys h.1 k.1 (same_tails x xs ys (below_none x xs h.0) none back) in
    λ i. same i ∷ rest i)
    (λ f. let there = sym (ap (λ b. b || has x ys) (differ_back x y f)) ∙ sym (e x) ∙ ap (λ b. b || has x xs) (name_itself x) in
    let here = sym (ap (λ b. b || has y xs) f) ∙ e y ∙ ap (λ b. b || has y ys) (name_itself y) in
    absurd (clash _ (below_one x y xs h.0 here) (lt_asym nat_list_cmp_total y x (below_one y x ys k.0 there))))

contains_has : (q : Word) (names : List Word) (k : ℕ) → k < length names → get_or names k q ≡ q → has q names ≡ true
contains_has q [] k l e = absurd (omega (arith, l))
contains_has q (x ∷ names) zero l e = ap (λ b. b || has q names) ((bytes_eq-Decides x q).1 e)
contains_has q (x ∷ names) (suc k) l e = by (bytes_eq x q) (contains_has q names k (omega (arith, l)) e) where
  by : (b : Bool) → has q names ≡ true → (b || has q names) ≡ true
  by true h = refl
  by false h = h

has_contains : (q : Word) (names : List Word) → has q names ≡ true → Contains names q
has_contains q [] h = absurd (clash false h refl)
has_contains q (x ∷ names) h =
    let more = has_contains q names in
    split (bytes_eq x q)
    (λ t. (0, omega arith, same_name x q t))
    (λ f. let r = more (sym (ap (λ b. b || has q names) f) ∙ h) in (suc r.0, omega (arith, r.1), r.2))

pub listed_by_bytes : (names : List Word) (marks : List Mark) → HaveOwnNames marks → AreAscending names → ((q : Word) → (Contains names q → IsSome (mark_of_name q marks)) × (IsSome (mark_of_name q marks) → Contains names q)) → names ≡ by_bytes (names_of marks)
listed_by_bytes names marks own a h =
    one_list names (by_bytes (names_of marks)) a (sorted_ascend marks own)
    (λ q. same_tests (has q names) (is_some (mark_of_name q marks)) (λ t. (h q).0 (has_contains q names t)) (λ t. let c = (h q).1 t in contains_has q names c.0 c.1 c.2)
    ∙ sym (has_named q marks) ∙ sym (has_sorted (names_of marks) q))

-- A NAME PUT IN

abbrev pub is_under : Word → String Global → Bool
is_under name x = is_lt (name_order (string_bytes x) name)

one_more : (n : ℕ) → 1 + n ≡ suc n
one_more n = omega arith

pub put_in : (name : Word) (added : String Global) (names : List (String Global)) → string_bytes added ≡ name → as_words (insert names (prefix_len (is_under name) names) added) ≡ inserted_by_bytes name (as_words names)
put_in name added [] e = ap (λ v. v ∷ []) e
put_in name added (x ∷ names) e =
    let more = put_in name added names e in
    let rest : List Word = as_words names in
    split (is_under name x)
    (λ t. ap (λ b. as_words (insert (x ∷ names) (cond b (1 + prefix_len (is_under name) names) 0) added)) t
    ∙ ap (λ n. as_words (insert (x ∷ names) n added)) (one_more (prefix_len (is_under name) names))
    ∙ ap (λ v. string_bytes x ∷ v) more ∙ ap (λ b. cond b (string_bytes x ∷ inserted_by_bytes name rest) (name ∷ string_bytes x ∷ rest)) (sym t))
    (λ f. ap (λ b. as_words (insert (x ∷ names) (cond b (1 + prefix_len (is_under name) names) 0) added)) f
    ∙ ap (λ v. v ∷ string_bytes x ∷ rest) e ∙ ap (λ b. cond b (string_bytes x ∷ inserted_by_bytes name rest) (name ∷ string_bytes x ∷ rest)) (sym f))

-- THE NAMES OF A LIST

turned : (x y : Word) → bytes_eq x y ≡ bytes_eq y x
turned x y =
    split (bytes_eq x y)
    (λ t. t ∙ sym (subst (λ v. bytes_eq y v ≡ true) (sym (same_name x y t)) (name_itself y)))
    (λ f. f ∙ sym (differ_back x y f))

has_listed : (q : Word) (names : List Word) → has q names ≡ is_listed q names
has_listed q [] = refl
has_listed q (x ∷ names) = λ i. turned x q i || has_listed q names i

pub same_by_bytes : (names : List Word) (name : Word) → is_listed name (by_bytes names) ≡ is_listed name names
same_by_bytes names name = sym (has_listed name (by_bytes names)) ∙ has_sorted names name ∙ has_listed name names

pub ascending_by_bytes : (names : List Word) → HaveNoRepeats names → AreAscending (by_bytes names)
ascending_by_bytes [] h = tt
ascending_by_bytes (n ∷ names) h =
    ascending_with n (by_bytes names) (has_sorted names n ∙ has_listed n names ∙ h.0) (ascending_by_bytes names h.1)
