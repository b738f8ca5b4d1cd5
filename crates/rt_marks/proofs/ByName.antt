-- Lists of marks by their names.
use Rattle.std.proofs.Common.{◌≡◌, ℕ, List, [], ◌∷◌, ◌++◌, take, drop, true, false, refl, sym, ap, ◌∙◌, subst, None, take-append-drop}
use Rattle.std.specs.List.{AllByRecursion}
use Rattle.std.specs.Ordering.{is_lt, ordering_reverse}
use Rattle.std.specs.declared.cmp.Ordering.TheVariants.{Greater}
use Rattle.std.specs.Str.{bytes_eq}
use Rattle.std.proofs.lemmas.Cmp.{nat_list_cmp_total}
use Rattle.std.proofs.lemmas.List.{map-append, take-map, drop-map}
use Rattle.rt_marks.specs.Marks.{Mark, name_order, mark_of_name, AreAscending}
use Rattle.rt_marks.specs.Seen.{names_of_marks, IsGap}
use Rattle.rt_marks.proofs.Names.{differ_back, names_differ, none_cons}

-- a name that another is greater than
pub greater : (xs ys : List ℕ) → name_order ys xs ≡ Greater → is_lt (name_order xs ys) ≡ true
greater xs ys h = ap is_lt (nat_list_cmp_total.antisymm xs ys ∙ ap ordering_reverse h)

-- EDITS OF NAMES THAT ASCEND

each_insert : (P : List ℕ → Type 0) (xs : List (List ℕ)) (n : List ℕ) (ys : List (List ℕ)) → P n → AllByRecursion P (xs ++ ys) → AllByRecursion P (xs ++ n ∷ ys)
each_insert P [] n ys h k = (h, k)
each_insert P (x ∷ xs) n ys h k = (k.0, each_insert P xs n ys h k.1)

each_without : (P : List ℕ → Type 0) (xs : List (List ℕ)) (n : List ℕ) (ys : List (List ℕ)) → AllByRecursion P (xs ++ n ∷ ys) → AllByRecursion P (xs ++ ys)
each_without P [] n ys h = h.1
each_without P (x ∷ xs) n ys h = (h.0, each_without P xs n ys h.1)

each_append : (P : List ℕ → Type 0) (xs ys : List (List ℕ)) → AllByRecursion P xs → AllByRecursion P ys → AllByRecursion P (xs ++ ys)
each_append P [] ys h k = k
each_append P (x ∷ xs) ys h k = (h.0, each_append P xs ys h.1 k)

each_weaker : (P Q : List ℕ → Type 0) (xs : List (List ℕ)) → ((x : List ℕ) → P x → Q x) → AllByRecursion P xs → AllByRecursion Q xs
each_weaker P Q [] f h = tt
each_weaker P Q (x ∷ xs) f h = (f x h.0, each_weaker P Q xs f h.1)

ascending_without : (xs : List (List ℕ)) (n : List ℕ) (ys : List (List ℕ)) → AreAscending (xs ++ n ∷ ys) → AreAscending (xs ++ ys)
ascending_without [] n ys h = h.1
ascending_without (x ∷ xs) n ys h = (each_without (λ y. is_lt (name_order x y) ≡ true) xs n ys h.0, ascending_without xs n ys h.1)

ascending_insert : (xs : List (List ℕ)) (n : List ℕ) (ys : List (List ℕ)) → AllByRecursion (λ x. is_lt (name_order x n) ≡ true) xs → AllByRecursion (λ y. is_lt (name_order n y) ≡ true) ys → AreAscending (xs ++ ys) → AreAscending (xs ++ n ∷ ys)
ascending_insert [] n ys f b h = (b, h)
ascending_insert (x ∷ xs) n ys f b h = (each_insert (λ y. is_lt (name_order x y) ≡ true) xs n ys f.0 h.0, ascending_insert xs n ys f.1 b h.1)

pub names_middle : (front : List Mark) (m : Mark) (back : List Mark) → names_of_marks (front ++ m ∷ back) ≡ names_of_marks front ++ m.name ∷ names_of_marks back
names_middle front m back = map-append (λ (x : Mark). x.name) front (m ∷ back)

pub ascending_taken : (front : List Mark) (m : Mark) (back : List Mark) → AreAscending (names_of_marks (front ++ m ∷ back)) → AreAscending (names_of_marks (front ++ back))
ascending_taken front m back h =
    subst AreAscending (sym (map-append (λ (x : Mark). x.name) front back))
    (ascending_without (names_of_marks front) m.name (names_of_marks back) (subst AreAscending (names_middle front m back) h))

-- marks with one more, whose name stands in the gap
pub ascending_added : (marks : List Mark) (i : ℕ) (m : Mark) → IsGap m.name (names_of_marks marks) i → AreAscending (names_of_marks marks) → AreAscending (names_of_marks (take i marks ++ m ∷ drop i marks))
ascending_added marks i m g h =
    let names = names_of_marks marks in
    let made = ascending_insert (take i names) m.name (drop i names) g.0 g.1 (subst AreAscending (sym (take-append-drop i names)) h) in
    subst AreAscending (sym (names_middle (take i marks) m (drop i marks) ∙ ap (λ v. v ++ m.name ∷ names_of_marks (drop i marks)) (sym (take-map (λ (x : Mark). x.name) i marks)) ∙ ap (λ v. take i names ++ m.name ∷ v) (sym (drop-map (λ (x : Mark). x.name) i marks)))) made

none_among : (name : List ℕ) (marks : List Mark) → AllByRecursion (λ x. bytes_eq x name ≡ false) (names_of_marks marks) → mark_of_name name marks ≡ None
none_among name [] h = refl
none_among name (m ∷ marks) h = none_cons name m marks h.0 (none_among name marks h.1)

pub none_in_gap : (name : List ℕ) (marks : List Mark) (i : ℕ) → IsGap name (names_of_marks marks) i → mark_of_name name marks ≡ None
none_in_gap name marks i g =
    let front = each_weaker _ (λ x. bytes_eq x name ≡ false) (take i (names_of_marks marks)) (λ x h. differ_back name x (names_differ x name h)) g.0 in
    let back = each_weaker _ (λ x. bytes_eq x name ≡ false) (drop i (names_of_marks marks)) (λ x h. names_differ name x h) g.1 in
    none_among name marks (subst (λ v. AllByRecursion (λ x. bytes_eq x name ≡ false) v) (take-append-drop i (names_of_marks marks)) (each_append _ (take i (names_of_marks marks)) (drop i (names_of_marks marks)) front back))
