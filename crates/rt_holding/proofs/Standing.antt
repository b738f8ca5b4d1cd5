-- Where operations stand in a map, and which keys are kept.
use Rattle.std.proofs.Common.{◌≡◌, ℕ, suc, ◌+◌, ◌≤◌, Bool, true, false, refl, sym, ap, subst, ◌∙◌, arith, List, [], ◌∷◌, ◌++◌, append_assoc, Option, Some, None, cond, length}
use Rattle.std.proofs.lemmas.Bool.Decides.{nat_tests}
use Rattle.std.proofs.lemmas.Cmp.{nat_cmp_total, on_total, then_total}
use Rattle.std.specs.Cmp.{IsTotalOrder}
use Rattle.std.specs.List.{AllByRecursion, filter, list_any}
use Rattle.std.specs.List.Sorted.{IsStrictlySortedBy}
use Rattle.std.specs.Map.{keys_of, lookup}
use Rattle.std.specs.Set.{remove_key}
use Rattle.std.specs.BTreeMap.{BTreeMap, Updates, get, is_at}
use Rattle.std.specs.BTreeSet.{insert_key}
use Rattle.std.specs.Ordering.{is_eq, match_ordering, nat_cmp, ordering_reverse, ordering_then}
use Rattle.std.specs.Prelude.{Err, Ok, OnOk, Result}
use Rattle.std.specs.declared.cmp.Ordering.{Ordering}
use Rattle.std.specs.declared.cmp.Ordering.TheVariants.{Equal, Greater, Less}
use Rattle.rt_ops.specs.Operations.{Operation}
use Rattle.rt_rga.proofs.Skipping.{split}
use Rattle.rt_holding.specs.declared.waits.Key.{Key}
use Rattle.rt_holding.specs.Kept.{HeldEntry, IsHeldAt, IsInPlace, Standing, by_stamp_and_arrival}
use Rattle.rt_holding.specs.Waits.{IsSetAt, by_key}
use Rattle.rt_holding.proofs.Places.{all_before, found_at, place_same, places_total}

-- THE SAME PLACE, THE SAME KEY

both_equal : (a b : Ordering) → ordering_then a b ≡ Equal → (a ≡ Equal) × (b ≡ Equal)
both_equal Less b e = absurd (cc e)
both_equal Equal b e = (refl, e)
both_equal Greater b e = absurd (cc e)

nat_equal : (a b : ℕ) → nat_cmp a b ≡ Equal → a ≡ b
nat_equal a b e = grind (arith, nat_tests, e)

place_equal : (p q : Standing) → by_stamp_and_arrival p q ≡ Equal → p ≡ q
place_equal p q e =
    let (s, a) = both_equal _ _ e in
    let (c, t) = both_equal _ _ s in
    ap (λ n. (record { count = n; site = p.0.site }, p.1)) (nat_equal p.0.count q.0.count c)
    ∙ ap (λ n. (record { count = q.0.count; site = n }, p.1)) (nat_equal p.0.site q.0.site t)
    ∙ ap (λ n. (q.0, n)) (nat_equal p.1 q.1 a)

is_equal : (o : Ordering) → is_eq o ≡ true → o ≡ Equal
is_equal Less e = absurd (cc e)
is_equal Equal e = refl
is_equal Greater e = absurd (cc e)

pub this_place : (p q : Standing) → is_at (by_stamp_and_arrival p) q ≡ true → p ≡ q
this_place p q e = place_equal p q (is_equal (by_stamp_and_arrival p q) e)

pub own_place : (p : Standing) → is_at (by_stamp_and_arrival p) p ≡ true
own_place p = ap is_eq (place_same p)

pub keys_total : IsTotalOrder by_key
keys_total = then_total (on_total (λ (l : Key). l.site) nat_cmp_total) (then_total (on_total (λ (l : Key). l.count) nat_cmp_total) (on_total (λ (l : Key). l.place) places_total))

pub key_equal : (a b : Key) → is_at (by_key a) b ≡ true → a ≡ b
key_equal a b i =
    let (s, k) = both_equal _ _ (is_equal (by_key a b) i) in
    let (r, p) = both_equal _ _ k in
    ap (λ n. record { site = n; count = a.count; place = a.place }) (nat_equal a.site b.site s)
    ∙ ap (λ n. record { site = b.site; count = n; place = a.place }) (nat_equal a.count b.count r)
    ∙ ap (λ n. record { site = b.site; count = b.count; place = n }) (place_equal a.place b.place p)

pub fewer_keys : (k : Key) (keys : List Key) → length (remove_key (is_at (by_key k)) keys) ≤ length keys
fewer_keys k [] = omega arith
fewer_keys k (x ∷ keys) =
    let i = fewer_keys k keys in
    elim (is_at (by_key k) x) as (λ t. length (cond t keys (x ∷ remove_key (is_at (by_key k)) keys)) ≤ length (x ∷ keys)) [ true ↦ omega arith | false ↦ omega (arith, i) ]

pub own_key : (k : Key) → is_at (by_key k) k ≡ true
own_key k = ap is_eq (itself (by_key k k) (keys_total.antisymm k k))
  where
    itself : (o : Ordering) → o ≡ ordering_reverse o → o ≡ Equal
    itself Less e = absurd (cc e)
    itself Equal e = refl
    itself Greater e = absurd (cc e)

-- a key at another place is another key
pub other_key : (a b : Key) → is_at (by_stamp_and_arrival a.place) b.place ≡ false → is_at (by_key a) b ≡ false
other_key a b n = split (is_at (by_key a) b)
    (λ t. absurd (let s = ap (λ (x : Key). x.place) (key_equal a b t) in
    let o = own_place a.place in
    let w : is_at (by_stamp_and_arrival a.place) a.place ≡ false = subst (λ (q : Standing). is_at (by_stamp_and_arrival a.place) q ≡ false) (sym s) n in cc (o, w)))
    (λ t. t)

-- KEYS ARE COUNTED

pub count_removed : (P : Key → Bool) (k : Key) (keys : List Key) → list_any (is_at (by_key k)) keys ≡ true → P k ≡ true
    → length (filter P (remove_key (is_at (by_key k)) keys)) + 1 ≡ length (filter P keys)
count_removed P k [] h e = absurd (cc h)
count_removed P k (x ∷ keys) h e = split (is_at (by_key k) x)
    (λ t. let y : P x ≡ true = ap P (sym (key_equal k x t)) ∙ e in rw (t, y) (omega arith))
    (λ t. let i = count_removed P k keys (rw t at h) e in
    rw t (elim (P x) as (λ b. length (cond b (x ∷ filter P (remove_key (is_at (by_key k)) keys)) (filter P (remove_key (is_at (by_key k)) keys))) + 1
    ≡ length (cond b (x ∷ filter P keys) (filter P keys))) [ true ↦ omega (arith, i) | false ↦ i ]))

pub count_inserted : (P : Key → Bool) (k : Key) (keys : List Key) → P k ≡ false → length (filter P (insert_key by_key keys k)) ≡ length (filter P keys)
count_inserted P k [] e = rw e refl
count_inserted P k (x ∷ keys) e = one (by_key k x) (count_inserted P k keys e)
  where
    one : (o : Ordering) → length (filter P (insert_key by_key keys k)) ≡ length (filter P keys)
        → length (filter P (match_ordering o (k ∷ x ∷ keys) (x ∷ keys) (x ∷ insert_key by_key keys k))) ≡ length (filter P (x ∷ keys))
    one Less i = rw e refl
    one Equal i = refl
    one Greater i = elim (P x) as (λ b. length (cond b (x ∷ filter P (insert_key by_key keys k)) (filter P (insert_key by_key keys k))) ≡ length (cond b (x ∷ filter P keys) (filter P keys))) [ true ↦ ap suc i | false ↦ i ]

-- WHAT STANDS AT A PLACE

pub updated : {X E : Type 0} (r : Result X E) (x : X) (old new : BTreeMap Standing (Option Operation)) (p : Standing) (v : Option Operation) → OnOk r (Updates by_stamp_and_arrival old new p (Some v)) → r ≡ Ok x → IsSetAt p (Some v) old new
updated (Ok y) x old new p v u e = u.0
updated (Err y) x old new p v u e = absurd (cc e)

pub set_twice : (old mid new : BTreeMap Standing (Option Operation)) (p : Standing) (v w : Option (Option Operation)) → IsSetAt p v old mid → IsSetAt p w mid new → IsSetAt p w old new
set_twice old mid new p v w a b q = b q ∙ split (is_at (by_stamp_and_arrival p) q)
    (λ t. rw t refl)
    (λ t. ap (λ c. cond c w (get by_stamp_and_arrival mid q)) t ∙ a q ∙ ap (λ c. cond c v (get by_stamp_and_arrival old q)) t ∙ sym (ap (λ c. cond c w (get by_stamp_and_arrival old q)) t))

-- none came so late
pub none_so_late : (n : ℕ) (entries : List HeldEntry) → AllByRecursion (IsInPlace n) entries → (p : Standing) → p.1 ≡ n → lookup (is_at (by_stamp_and_arrival p)) entries ≡ None
none_so_late n [] a p e = refl
none_so_late n (x ∷ entries) a p e = split (is_at (by_stamp_and_arrival p) x.0)
    (λ t. absurd (let s = ap (λ (q : Standing). q.1) (this_place p x.0 t) in let l = a.0.came in omega (arith, s, l, e)))
    (λ t. rw t (none_so_late n entries a.1 p e))

-- what is there when one was taken out was there before
pub there_before : (ops less : BTreeMap Standing (Option Operation)) (q p : Standing) (v : Option Operation) → IsSetAt q None ops less → get by_stamp_and_arrival less p ≡ Some v
    → (is_at (by_stamp_and_arrival q) p ≡ false) × (get by_stamp_and_arrival ops p ≡ Some v)
there_before ops less q p v s g = split (is_at (by_stamp_and_arrival q) p)
    (λ t. absurd (let n : get by_stamp_and_arrival less p ≡ None = s p ∙ (rw t refl) in cc (n, g)))
    (λ t. let n : get by_stamp_and_arrival less p ≡ get by_stamp_and_arrival ops p = s p ∙ (rw t refl) in (t, sym n ∙ g))

-- where each stands is where it is found
pub found_all : (all done front rest : List HeldEntry) → all ≡ done ++ (front ++ rest) → IsStrictlySortedBy by_stamp_and_arrival (keys_of all)
    → AllByRecursion (λ e. lookup (is_at (by_stamp_and_arrival e.0)) all ≡ Some e.1) front
found_all all done [] rest i s = tt
found_all all done (e ∷ front) rest i s =
    let before = all_before done (front ++ rest) e (subst (λ x. IsStrictlySortedBy by_stamp_and_arrival (keys_of x)) i s) in (
      ap (lookup (is_at (by_stamp_and_arrival e.0))) i ∙ found_at done (front ++ rest) e.0 e.1 before,
      found_all all (done ++ e ∷ []) front rest (i ∙ sym (append_assoc done (e ∷ []) (front ++ rest))) s,
    )

append_none : (entries : List HeldEntry) → entries ++ [] ≡ entries
append_none [] = refl
append_none (e ∷ entries) = ap (λ l. e ∷ l) (append_none entries)

pub each_found : (all : List HeldEntry) → IsStrictlySortedBy by_stamp_and_arrival (keys_of all) → AllByRecursion (λ e. lookup (is_at (by_stamp_and_arrival e.0)) all ≡ Some e.1) all
each_found all s = found_all all [] all [] (sym (append_none all)) s

-- where a place is found
record IsFound (entries : List HeldEntry) (p : Standing) (v : Option Operation) : Type 0 where
  front : List HeldEntry
  behind : List HeldEntry
  is : entries ≡ front ++ (p, v) ∷ behind

found_in : (entries : List HeldEntry) (p : Standing) (v : Option Operation) → lookup (is_at (by_stamp_and_arrival p)) entries ≡ Some v → IsFound entries p v
found_in [] p v e = absurd (cc e)
found_in (x ∷ entries) p v e = split (is_at (by_stamp_and_arrival p) x.0)
    (λ t. let f : Some x.1 ≡ Some v = rw t at e in
    let is : x.1 ≡ v = cc in
    let same = this_place p x.0 t in
    record { front = []; behind = entries; is = ap (λ (q : Standing). (q, x.1) ∷ entries) (sym same) ∙ ap (λ (w : Option Operation). (p, w) ∷ entries) is })
    (λ t. let f : lookup (is_at (by_stamp_and_arrival p)) entries ≡ Some v = rw t at e in
    let i = found_in entries p v f in
    record { front = x ∷ i.front; behind = i.behind; is = ap (λ l. x ∷ l) i.is })

-- an operation that is found at a place stands there
pub at_found : (entries : List HeldEntry) (p : Standing) (op : Operation) → IsStrictlySortedBy by_stamp_and_arrival (keys_of entries) → lookup (is_at (by_stamp_and_arrival p)) entries ≡ Some (Some op) → IsHeldAt p op entries
at_found entries p op s g =
    let f = found_in entries p (Some op) g in
    record { front = f.front; behind = f.behind; is = f.is; before = all_before f.front f.behind (p, Some op) (subst (λ x. IsStrictlySortedBy by_stamp_and_arrival (keys_of x)) f.is s) }
