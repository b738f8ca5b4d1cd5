-- Lists of slots' numbers: how often a number stands in one.
use Rattle.std.proofs.Common.{◌≡◌, ℕ, zero, suc, ◌+◌, ◌<◌, ◌≤◌, ◌==◌, nat_lt, List, [], ◌∷◌, ◌++◌, map, length, get_or, set, take, drop, true, false, refl, sym, ap, ◌∙◌, Bool, cond, subst, arith, take-append-drop}
use Rattle.std.specs.List.{insert, remove, AllByRecursion}
use Rattle.std.proofs.lemmas.Bool.{eqb-true, eq-eqb}
use Rattle.std.proofs.lemmas.Bool.Decides.{nat_tests}
use Rattle.std.proofs.lemmas.List.{map-append, set_split, set-get_or}
use Rattle.rt_marks.specs.Marks.{Mark, in_order, with_mark}
use Rattle.rt_marks.specs.Seen.{slot_times, IsEachOnce}
use Rattle.rt_marks.proofs.InOrder.{split, in_order_middle}

abbrev pub tally : Bool → ℕ
tally b = cond b 1 0

pub times_append : (s : ℕ) (xs ys : List ℕ) → slot_times s (xs ++ ys) ≡ slot_times s xs + slot_times s ys
times_append s [] ys = omega arith
times_append s (x ∷ xs) ys = omega (arith, times_append s xs ys)

pub times_middle : (s : ℕ) (xs : List ℕ) (y : ℕ) (ys : List ℕ) → slot_times s (xs ++ y ∷ ys) ≡ cond (y == s) 1 0 + slot_times s (xs ++ ys)
times_middle s xs y ys = omega (arith, times_append s xs (y ∷ ys), times_append s xs ys)

pub once : (s : ℕ) → tally (s == s) ≡ 1
once s = ap tally (eq-eqb s s refl)

pub not_once : (x s : ℕ) → (x == s) ≡ false → tally (x == s) ≡ 0
not_once x s f = ap tally f

-- a list parted at a number in it
pub record Parted (s : ℕ) (xs : List ℕ) : Type 0 where
  pub front : List ℕ
  pub back : List ℕ
  pub is : xs ≡ front ++ s ∷ back

pub present : (s : ℕ) (xs : List ℕ) → 1 ≤ slot_times s xs → Parted s xs
present s [] h = absurd (omega (arith, h))
present s (x ∷ xs) h =
    let more = present s xs in
    split (x == s)
    (λ t. record { front = []; back = xs; is = ap (λ v. v ∷ xs) (eqb-true x s t) })
    (λ f. let r = more (omega (arith, h, not_once x s f)) in record { front = x ∷ r.front; back = r.back; is = ap (λ v. x ∷ v) r.is })

pub each_present : (P : ℕ → Type 0) (xs : List ℕ) → ((s : ℕ) → 1 ≤ slot_times s xs → P s) → AllByRecursion P xs
each_present P [] h = tt
each_present P (x ∷ xs) h = (h x (omega (arith, once x)), each_present P xs (λ s k. h s (omega (arith, k))))

pub each_there : (P : ℕ → Type 0) (xs : List ℕ) (s : ℕ) → AllByRecursion P xs → 1 ≤ slot_times s xs → P s
each_there P [] s h k = absurd (omega (arith, k))
each_there P (x ∷ xs) s h k =
    let more = each_there P xs s h.1 in
    split (x == s)
    (λ t. subst P (eqb-true x s t) h.0)
    (λ f. more (omega (arith, k, not_once x s f)))

pub times_at : (xs : List ℕ) (i s d : ℕ) → i < length xs → get_or xs i d ≡ s → 1 ≤ slot_times s xs
times_at [] i s d l e = absurd (omega (arith, l))
times_at (x ∷ xs) zero s d l e = subst (λ v. 1 ≤ cond (v == s) 1 0 + slot_times s xs) (sym e) (omega (arith, once s))
times_at (x ∷ xs) (suc i) s d l e = omega (arith, times_at xs i s d (omega (arith, l)) e)

-- numbers that stand as often in two lists: the marks that they stand for come in one order
pub same_order : (f : ℕ → Mark) (xs ys : List ℕ) → ((s : ℕ) → slot_times s xs ≡ slot_times s ys) → in_order (map f xs) ≡ in_order (map f ys)
same_order f [] [] h = refl
same_order f [] (y ∷ ys) h = absurd (omega (arith, h y, once y))
same_order f (x ∷ xs) ys h =
    let r = present x ys (omega (arith, h x, once x)) in
    let rest = r.front ++ r.back in
    let fewer : (s : ℕ) → slot_times s xs ≡ slot_times s rest = λ s. omega (arith, h s, times_middle s r.front x r.back, ap (slot_times s) r.is) in
    ap (with_mark (f x)) (same_order f xs rest fewer ∙ ap in_order (map-append f r.front r.back))
    ∙ sym (ap (λ v. in_order (map f v)) r.is ∙ ap in_order (map-append f r.front (x ∷ r.back)) ∙ in_order_middle (map f r.front) (f x) (map f r.back))

-- EACH NUMBER ONCE

pub each_below : (n : ℕ) (xs : List ℕ) → IsEachOnce n xs → AllByRecursion (λ s. s < n) xs
each_below n xs h = each_present (λ s. s < n) xs (λ s k. below s (h s) k) where
  below : (s : ℕ) → slot_times s xs ≡ cond (nat_lt s n) 1 0 → 1 ≤ slot_times s xs → s < n
  below s e k = grind (arith, nat_tests)

pub once_below : (n : ℕ) (xs : List ℕ) → IsEachOnce n xs → (s : ℕ) → s < n → slot_times s xs ≡ 1
once_below n xs h s l = let e = h s in grind (arith, nat_tests)

pub same_times : (n : ℕ) (xs ys : List ℕ) → IsEachOnce n xs → IsEachOnce n ys → (s : ℕ) → slot_times s xs ≡ slot_times s ys
same_times n xs ys h k s = h s ∙ sym (k s)

pub times_insert : (s : ℕ) (xs : List ℕ) (i y : ℕ) → slot_times s (insert xs i y) ≡ cond (y == s) 1 0 + slot_times s xs
times_insert s xs i y = times_middle s (take i xs) y (drop i xs) ∙ ap (λ v. cond (y == s) 1 0 + slot_times s v) (take-append-drop i xs)

one_more : (n s t u : ℕ) → t ≡ cond (nat_lt s n) 1 0 → u ≡ cond (n == s) 1 0 + t → u ≡ cond (nat_lt s (n + 1)) 1 0
one_more n s t u h k = grind (arith, nat_tests)

-- one number more
pub once_inserted : (n : ℕ) (xs : List ℕ) (i : ℕ) → IsEachOnce n xs → IsEachOnce (n + 1) (insert xs i n)
once_inserted n xs i h = λ s. one_more n s _ _ (h s) (times_insert s xs i n)

-- a number at another index
pub once_moved : (n : ℕ) (front : List ℕ) (x : ℕ) (back : List ℕ) (i : ℕ) → IsEachOnce n (front ++ x ∷ back) → IsEachOnce n (insert (front ++ back) i x)
once_moved n front x back i h = λ s. times_insert s (front ++ back) i x ∙ sym (times_middle s front x back) ∙ h s

-- A NUMBER IN PLACE OF ANOTHER

abbrev pub renamed : ℕ → ℕ → ℕ → ℕ
renamed a b s = cond (s == a) b s

unrenamed : (a b : ℕ) (xs : List ℕ) → slot_times a xs ≡ 0 → map (renamed a b) xs ≡ xs
unrenamed a b [] h = refl
unrenamed a b (x ∷ xs) h =
    let more = unrenamed a b xs (omega (arith, h)) in
    split (x == a)
    (λ t. absurd (omega (arith, h, ap tally t)))
    (λ f. λ i. cond (f i) b x ∷ more i)

renamed_itself : (a : ℕ) (xs : List ℕ) → map (renamed a a) xs ≡ xs
renamed_itself a [] = refl
renamed_itself a (x ∷ xs) =
    let more = renamed_itself a xs in
    split (x == a)
    (λ t. ap (λ v. cond v a x ∷ map (renamed a a) xs) t ∙ ap (λ v. v ∷ map (renamed a a) xs) (sym (eqb-true x a t)) ∙ ap (λ v. x ∷ v) more)
    (λ f. λ i. cond (f i) a x ∷ more i)

pub not_here : (a x : ℕ) (xs : List ℕ) (i d : ℕ) → i < length xs → get_or xs i d ≡ a → slot_times a (x ∷ xs) ≡ 1 → (x == a) ≡ false
not_here a x xs i d l e h =
    split (x == a)
    (λ t. absurd (omega (arith, h, times_at xs i a d l e, ap tally t)))
    (λ f. f)

once_renamed : (xs : List ℕ) (i a b d : ℕ) → i < length xs → get_or xs i d ≡ a → slot_times a xs ≡ 1 → set xs i b ≡ map (renamed a b) xs
once_renamed [] i a b d l e h = absurd (omega (arith, l))
once_renamed (x ∷ xs) zero a b d l e h =
    let here : (x == a) ≡ true = eq-eqb x a e in
    let none : slot_times a xs ≡ 0 = omega (arith, h, ap tally here) in
    sym (ap (λ v. cond v b x ∷ map (renamed a b) xs) here ∙ ap (λ v. b ∷ v) (unrenamed a b xs none))
once_renamed (x ∷ xs) (suc i) a b d l e h =
    let f = not_here a x xs i d (omega (arith, l)) e h in
    let more = once_renamed xs i a b d (omega (arith, l)) e (omega (arith, h, not_once x a f)) in
    ap (λ v. x ∷ v) more ∙ ap (λ v. cond v b x ∷ map (renamed a b) xs) (sym f)

pub times_remove : (s : ℕ) (xs : List ℕ) (i d : ℕ) → i < length xs → cond (get_or xs i d == s) 1 0 + slot_times s (remove xs i) ≡ slot_times s xs
times_remove s xs i d l =
    sym (ap (slot_times s) (sym (set-get_or xs i d) ∙ set_split xs i (get_or xs i d) l) ∙ times_middle s (take i xs) (get_or xs i d) (drop (suc i) xs))

-- the last slot's number b takes the place of a, which is then taken out
pub renumbered : (xs : List ℕ) (i j a b d : ℕ) → i < length xs → j < length xs → get_or xs i d ≡ b → get_or xs j d ≡ a → slot_times a xs ≡ 1 → remove (set xs j b) i ≡ map (renamed a b) (remove xs i)
renumbered [] i j a b d li lj ei ej h = absurd (omega (arith, li))
renumbered (x ∷ xs) zero zero a b d li lj ei ej h =
    let none : slot_times a xs ≡ 0 = omega (arith, h, ap tally (eq-eqb x a ej)) in sym (unrenamed a b xs none)
renumbered (x ∷ xs) zero (suc j) a b d li lj ei ej h =
    let f = not_here a x xs j d (omega (arith, lj)) ej h in
    once_renamed xs j a b d (omega (arith, lj)) ej (omega (arith, h, not_once x a f))
renumbered (x ∷ xs) (suc i) zero a b d li lj ei ej h =
    let here : (x == a) ≡ true = eq-eqb x a ej in
    let none : slot_times a (remove xs i) ≡ 0 = omega (arith, h, ap tally here, times_remove a xs i d (omega (arith, li))) in
    sym (ap (λ v. cond v b x ∷ map (renamed a b) (remove xs i)) here ∙ ap (λ v. b ∷ v) (unrenamed a b (remove xs i) none))
renumbered (x ∷ xs) (suc i) (suc j) a b d li lj ei ej h =
    let f = not_here a x xs j d (omega (arith, lj)) ej h in
    let more = renumbered xs i j a b d (omega (arith, li)) (omega (arith, lj)) ei ej (omega (arith, h, not_once x a f)) in
    ap (λ v. x ∷ v) more ∙ ap (λ v. cond v b x ∷ map (renamed a b) (remove xs i)) (sym f)

times_renamed_other : (a b s : ℕ) (xs : List ℕ) → (a == s) ≡ false → (b == s) ≡ false → slot_times s (map (renamed a b) xs) ≡ slot_times s xs
times_renamed_other a b s [] h k = refl
times_renamed_other a b s (x ∷ xs) h k =
    let more = times_renamed_other a b s xs h k in
    split (x == a)
    (λ t. let e : (renamed a b x == s) ≡ false = ap (λ v. cond v b x == s) t ∙ k in
    let f : (x == s) ≡ false = subst (λ v. (v == s) ≡ false) (sym (eqb-true x a t)) h in
    omega (arith, more, ap tally e, ap tally f))
    (λ f. omega (arith, more, ap (λ v. tally (cond v b x == s)) f))

times_renamed_to : (a b : ℕ) (xs : List ℕ) → (a == b) ≡ false → slot_times b (map (renamed a b) xs) ≡ slot_times a xs + slot_times b xs
times_renamed_to a b [] h = refl
times_renamed_to a b (x ∷ xs) h =
    let more = times_renamed_to a b xs h in
    split (x == a)
    (λ t. let e : (renamed a b x == b) ≡ true = ap (λ v. cond v b x == b) t ∙ eq-eqb b b refl in
    let f : (x == b) ≡ false = subst (λ v. (v == b) ≡ false) (sym (eqb-true x a t)) h in
    omega (arith, more, ap tally e, ap tally f, ap tally t))
    (λ f. omega (arith, more, ap (λ v. tally (cond v b x == b)) f, ap tally f))

times_renamed_from : (a b : ℕ) (xs : List ℕ) → (b == a) ≡ false → slot_times a (map (renamed a b) xs) ≡ 0
times_renamed_from a b [] h = refl
times_renamed_from a b (x ∷ xs) h =
    let more = times_renamed_from a b xs h in
    split (x == a)
    (λ t. omega (arith, more, ap (λ v. tally (cond v b x == a)) t, ap tally h))
    (λ f. omega (arith, more, ap (λ v. tally (cond v b x == a)) f, ap tally f))

fewer_other : (n b s t u : ℕ) → u ≡ cond (nat_lt s (n + 1)) 1 0 → cond (b == s) 1 0 + t ≡ u → (n == s) ≡ false → (b == s) ≡ false → t ≡ cond (nat_lt s n) 1 0
fewer_other n b s t u h k f g = grind (arith, nat_tests)

fewer_to : (n b t u v w : ℕ) → u ≡ cond (nat_lt b (n + 1)) 1 0 → cond (b == b) 1 0 + t ≡ u → v ≡ cond (nat_lt n (n + 1)) 1 0 → cond (b == n) 1 0 + w ≡ v → b ≤ n → (n == b) ≡ false → w + t ≡ cond (nat_lt b n) 1 0
fewer_to n b t u v w h k i j l f = grind (arith, nat_tests)

fewer_last : (n s t u : ℕ) → u ≡ cond (nat_lt s (n + 1)) 1 0 → cond (n == s) 1 0 + t ≡ u → t ≡ cond (nat_lt s n) 1 0
fewer_last n s t u h k = grind (arith, nat_tests)

zero_last : (n s t : ℕ) → t ≡ 0 → (n == s) ≡ true → t ≡ cond (nat_lt s n) 1 0
zero_last n s t h e = grind (arith, nat_tests)

differ : (a b : ℕ) → (a == b) ≡ false → (b == a) ≡ false
differ a b h = grind (arith, nat_tests)

-- one slot fewer: its number is taken out, and the last one's becomes that number
pub once_removed : (n : ℕ) (xs : List ℕ) (i b d : ℕ) → IsEachOnce (n + 1) xs → i < length xs → get_or xs i d ≡ b → b ≤ n → IsEachOnce n (map (renamed n b) (remove xs i))
once_removed n xs i b d h l e k = λ s.
    let rest = remove xs i in
    let kept : (s : ℕ) → cond (b == s) 1 0 + slot_times s rest ≡ slot_times s xs = λ s. subst (λ v. cond (v == s) 1 0 + slot_times s rest ≡ slot_times s xs) e (times_remove s xs i d l) in
    split (n == b)
    (λ t. let same : map (renamed n b) rest ≡ rest = subst (λ v. map (renamed v b) rest ≡ rest) (sym (eqb-true n b t)) (renamed_itself b rest) in
    ap (slot_times s) same ∙ fewer_last n s (slot_times s rest) (slot_times s xs) (h s) (subst (λ v. cond (v == s) 1 0 + slot_times s rest ≡ slot_times s xs) (sym (eqb-true n b t)) (kept s)))
    (λ f. split (n == s)
    (λ t. zero_last n s _ (subst (λ v. slot_times v (map (renamed n b) rest) ≡ 0) (eqb-true n s t) (times_renamed_from n b rest (differ n b f))) t)
    (λ g. split (b == s)
    (λ t. subst (λ v. slot_times v (map (renamed n b) rest) ≡ cond (nat_lt v n) 1 0) (eqb-true b s t) (times_renamed_to n b rest f ∙ fewer_to n b (slot_times b rest) (slot_times b xs) (slot_times n xs) (slot_times n rest) (h b) (kept b) (h n) (kept n) k f))
    (λ q. times_renamed_other n b s rest g q ∙ fewer_other n b s (slot_times s rest) (slot_times s xs) (h s) (kept s) g q)))
