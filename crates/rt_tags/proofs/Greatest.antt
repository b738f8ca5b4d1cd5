-- The greatest write of each tag stays in the state.
use Rattle.std.proofs.Common.{◌≡◌, ℕ, ◌||◌, List, [], ◌∷◌, ◌++◌, filter, Bool, true, false, not, true≢false, cond, refl, sym, ap, subst, ◌∙◌, arith, Option, Some, None}
use Rattle.std.specs.List.{AllByRecursion}
use Rattle.std.specs.Ordering.{is_lt, is_gt, is_eq}
use Rattle.std.specs.Str.{bytes_eq}
use Rattle.std.specs.declared.cmp.Ordering.{Ordering}
use Rattle.std.specs.declared.cmp.Ordering.TheVariants.{Less, Equal, Greater}
use Rattle.std.proofs.lemmas.Bool.Decides.{nat_tests}
use Rattle.std.proofs.lemmas.Cmp.{tied_itself, nat_list_cmp_total}
use Rattle.std.proofs.lemmas.Map.Text.{is_eq-slice_cmp}
use Rattle.rt_stamps.specs.declared.stamp.Stamp.{Stamp}
use Rattle.rt_stamps.specs.declared.stamp.TheConstants.{ROOT}
use Rattle.rt_stamps.specs.Names.{name_order}
use Rattle.rt_stamps.specs.Stamps.{is_before}
use Rattle.rt_tags.specs.Tags.{is_listed}
use Rattle.rt_tags.specs.States.{Write, writes_above, writes_below, is_kept, is_on, is_settled, says_on, write_of, written}
use Rattle.rt_tags.specs.Writers.{greater, greatest, is_shared, listed_by, state_after, writes_of}
use Rattle.rt_tags.proofs.Places.{split, clash, same_name}
use Rattle.rt_tags.proofs.Sorted.{every}

-- THE WRITE OF A TAG, IN PARTS OF A STATE

abbrev or_else : Option Write → Option Write → Option Write
or_else None o = o
or_else (Some w) o = Some w

write_of_append : (q : List ℕ) (xs ys : List Write) → write_of q (xs ++ ys) ≡ or_else (write_of q xs) (write_of q ys)
write_of_append q [] ys = refl
write_of_append q (x ∷ xs) ys = by (bytes_eq q x.name) (write_of_append q xs ys)
  where
    by : (b : Bool) → write_of q (xs ++ ys) ≡ or_else (write_of q xs) (write_of q ys) → cond b (Some x) (write_of q (xs ++ ys)) ≡ or_else (cond b (Some x) (write_of q xs)) (write_of q ys)
    by true r = refl
    by false r = r

-- of the tags whose names pass a test the writes stay
write_of_filter : (p : List ℕ → Bool) (q : List ℕ) (xs : List Write) → write_of q (filter (λ v. p v.name) xs) ≡ cond (p q) (write_of q xs) None
write_of_filter p q [] = by (p q) None
  where
    by : (b : Bool) (o : Option Write) → o ≡ cond b o o
    by true o = refl
    by false o = refl
write_of_filter p q (x ∷ xs) =
    split (bytes_eq q x.name)
    (λ t. let one : p x.name ≡ p q = ap p (sym (same_name q x.name t)) in
    ap (λ b. write_of q (cond b (x ∷ filter (λ v. p v.name) xs) (filter (λ v. p v.name) xs))) one
    ∙ here (p q) t (write_of_filter p q xs))
    (λ f. there (p x.name) f (write_of_filter p q xs))
  where
    here : (b : Bool) → bytes_eq q x.name ≡ true → write_of q (filter (λ v. p v.name) xs) ≡ cond b (write_of q xs) None → write_of q (cond b (x ∷ filter (λ v. p v.name) xs) (filter (λ v. p v.name) xs)) ≡ cond b (write_of q (x ∷ xs)) None
    here true t r = ap (λ c. cond c (Some x) (write_of q (filter (λ v. p v.name) xs))) t ∙ sym (ap (λ c. cond c (Some x) (write_of q xs)) t)
    here false t r = r

    there : (b : Bool) → bytes_eq q x.name ≡ false → write_of q (filter (λ v. p v.name) xs) ≡ cond (p q) (write_of q xs) None → write_of q (cond b (x ∷ filter (λ v. p v.name) xs) (filter (λ v. p v.name) xs)) ≡ cond (p q) (write_of q (x ∷ xs)) None
    there true f r = ap (λ c. cond c (Some x) (write_of q (filter (λ v. p v.name) xs))) f ∙ r ∙ sym (ap (λ c. cond (p q) (cond c (Some x) (write_of q xs)) None) f)
    there false f r = r ∙ sym (ap (λ c. cond (p q) (cond c (Some x) (write_of q xs)) None) f)

-- ONE MORE WRITE

-- what the state has of a tag after a write of it
abbrev pub newer : Option Write → Write → Write
newer None w = w
newer (Some v) w = greater v (Some w)

put_other : (q : List ℕ) (w : Write) (state : List Write) → bytes_eq q w.name ≡ false → write_of q (writes_below w.name state ++ w ∷ writes_above w.name state) ≡ write_of q state
put_other q w state f =
    write_of_append q (writes_below w.name state) (w ∷ writes_above w.name state)
    ∙ (λ j. or_else (write_of_filter (λ n. is_lt (name_order n w.name)) q state j) (cond (f j) (Some w) (write_of_filter (λ n. is_gt (name_order n w.name)) q state j)))
    ∙ by (name_order q w.name) refl (write_of q state)
  where
    by : (o : Ordering) → name_order q w.name ≡ o → (r : Option Write) → or_else (cond (is_lt o) r None) (cond (is_gt o) r None) ≡ r
    by Less e None = refl
    by Less e (Some v) = refl
    by Equal e r = absurd (clash (bytes_eq q w.name) (sym (is_eq-slice_cmp q w.name) ∙ ap is_eq e) f)
    by Greater e None = refl
    by Greater e (Some v) = refl

put_itself : (q : List ℕ) (w : Write) (state : List Write) → bytes_eq q w.name ≡ true → write_of q (writes_below w.name state ++ w ∷ writes_above w.name state) ≡ Some w
put_itself q w state t =
    let itself : is_lt (name_order q w.name) ≡ false = ap (λ n. is_lt (name_order n w.name)) (same_name q w.name t) ∙ ap is_lt (tied_itself nat_list_cmp_total w.name) in
    write_of_append q (writes_below w.name state) (w ∷ writes_above w.name state)
    ∙ ap (λ o. or_else o (write_of q (w ∷ writes_above w.name state))) (write_of_filter (λ n. is_lt (name_order n w.name)) q state ∙ ap (λ b. cond b (write_of q state) None) itself)
    ∙ ap (λ b. cond b (Some w) (write_of q (writes_above w.name state))) t

settled_newer : (w : Write) (o : Option Write) → is_kept o w ≡ true → o ≡ Some (newer o w)
settled_newer w None h = absurd (true≢false (sym h))
settled_newer w (Some v) h = by (is_before v.writer w.writer) h
  where
    by : (b : Bool) → not b ≡ true → Some v ≡ Some (cond b w v)
    by true k = absurd (true≢false (sym k))
    by false k = refl

less_newer : (w : Write) (o : Option Write) → is_kept o w ≡ false → Some w ≡ Some (newer o w)
less_newer w None h = refl
less_newer w (Some v) h = by (is_before v.writer w.writer) h
  where
    by : (b : Bool) → not b ≡ false → Some w ≡ Some (cond b w v)
    by true k = refl
    by false k = absurd (true≢false k)

pub write_of_written : (q : List ℕ) (w : Write) (state : List Write) → write_of q (written w state) ≡ cond (bytes_eq q w.name) (Some (newer (write_of w.name state) w)) (write_of q state)
write_of_written q w state =
    split (is_settled w state)
    (λ s. ap (λ b. write_of q (cond b state (writes_below w.name state ++ w ∷ writes_above w.name state))) s
    ∙ split (bytes_eq q w.name)
    (λ t. ap (λ n. write_of n state) (same_name q w.name t) ∙ settled_newer w (write_of w.name state) s ∙ sym (chosen t))
    (λ f. sym (other f)))
    (λ s. ap (λ b. write_of q (cond b state (writes_below w.name state ++ w ∷ writes_above w.name state))) s
    ∙ split (bytes_eq q w.name)
    (λ t. put_itself q w state t ∙ less_newer w (write_of w.name state) s ∙ sym (chosen t))
    (λ f. put_other q w state f ∙ sym (other f)))
  where
    chosen : bytes_eq q w.name ≡ true → cond (bytes_eq q w.name) (Some (newer (write_of w.name state) w)) (write_of q state) ≡ Some (newer (write_of w.name state) w)
    chosen t = ap (λ b. cond b (Some (newer (write_of w.name state) w)) (write_of q state)) t

    other : bytes_eq q w.name ≡ false → cond (bytes_eq q w.name) (Some (newer (write_of w.name state) w)) (write_of q state) ≡ write_of q state
    other f = ap (λ b. cond b (Some (newer (write_of w.name state) w)) (write_of q state)) f

-- WHOLE LISTS OF WRITES

-- the greatest of a write that the state has and of more
abbrev pub top : Option Write → List Write → Option Write
top None writes = greatest writes
top (Some v) writes = Some (greater v (greatest writes))

least : (a b c : Stamp) → is_before a b ≡ false → is_before b c ≡ false → is_before a c ≡ false
least a b c h k = grind (arith, nat_tests)

after : (a b c : Stamp) → is_before a b ≡ true → is_before b c ≡ true → is_before a c ≡ true
after a b c h k = grind (arith, nat_tests)

pub greater_twice : (v w : Write) (o : Option Write) → greater (greater v (Some w)) o ≡ greater v (Some (greater w o))
greater_twice v w None = refl
greater_twice v w (Some u) =
    split (is_before v.writer w.writer)
    (λ t. ap (λ b. greater (cond b w v) (Some u)) t
    ∙ split (is_before w.writer u.writer)
    (λ s. ap (λ b. cond b u w) s ∙ sym (ap (λ b. greater v (Some (cond b u w))) s ∙ ap (λ b. cond b u v) (after v.writer w.writer u.writer t s)))
    (λ s. ap (λ b. cond b u w) s ∙ sym (ap (λ b. greater v (Some (cond b u w))) s ∙ ap (λ b. cond b w v) t)))
    (λ f. ap (λ b. greater (cond b w v) (Some u)) f
    ∙ split (is_before w.writer u.writer)
    (λ s. sym (ap (λ b. greater v (Some (cond b u w))) s))
    (λ s. ap (λ b. cond b u v) (least v.writer w.writer u.writer f s) ∙ sym (ap (λ b. greater v (Some (cond b u w))) s ∙ ap (λ b. cond b w v) f)))

top_more : (o : Option Write) (w : Write) (writes : List Write) → top (Some (newer o w)) writes ≡ top o (w ∷ writes)
top_more None w writes = refl
top_more (Some v) w writes = ap (λ x. Some x) (greater_twice v w (greatest writes))

pub after_all : (q : List ℕ) (state writes : List Write) → write_of q (state_after state writes) ≡ top (write_of q state) (writes_of q writes)
after_all q state [] = by (write_of q state)
  where
    by : (o : Option Write) → o ≡ top o []
    by None = refl
    by (Some v) = refl
after_all q state (w ∷ writes) =
    after_all q (written w state) writes
    ∙ ap (λ o. top o (writes_of q writes)) (write_of_written q w state)
    ∙ split (bytes_eq q w.name)
    (λ t. ap (λ b. top (cond b (Some (newer (write_of w.name state) w)) (write_of q state)) (writes_of q writes)) t
    ∙ ap (λ n. top (Some (newer (write_of n state) w)) (writes_of q writes)) (sym (same_name q w.name t))
    ∙ top_more (write_of q state) w (writes_of q writes)
    ∙ sym (ap (λ b. top (write_of q state) (cond b (w ∷ writes_of q writes) (writes_of q writes))) t))
    (λ f. ap (λ b. top (cond b (Some (newer (write_of w.name state) w)) (write_of q state)) (writes_of q writes)) f
    ∙ sym (ap (λ b. top (write_of q state) (cond b (w ∷ writes_of q writes) (writes_of q writes))) f))

pub decides : (name : List ℕ) (writes : List Write) → is_on name (state_after [] writes) ≡ is_shared name writes
decides name writes = ap says_on (after_all name [] writes)

-- AN INSERT'S LIST

greatest_comes : (stamp : Stamp) (name : List ℕ) (writes : List Write) (v : Write) → AllByRecursion (λ w. is_before stamp w.writer ≡ true) writes → greatest (writes_of name writes) ≡ Some v → is_before stamp v.writer ≡ true
greatest_comes stamp name [] v h e = absurd (cc)
greatest_comes stamp name (w ∷ writes) v h e =
    split (bytes_eq name w.name)
    (λ t. by (greatest (writes_of name writes)) refl (sym (ap (λ b. greatest (cond b (w ∷ writes_of name writes) (writes_of name writes))) t) ∙ e) (λ u k. greatest_comes stamp name writes u h.1 k))
    (λ f. greatest_comes stamp name writes v h.1 (sym (ap (λ b. greatest (cond b (w ∷ writes_of name writes) (writes_of name writes))) f) ∙ e))
  where
    by : (o : Option Write) → greatest (writes_of name writes) ≡ o → Some (greater w o) ≡ Some v → ((u : Write) → greatest (writes_of name writes) ≡ Some u → is_before stamp u.writer ≡ true) → is_before stamp v.writer ≡ true
    by None k s f = let one : w ≡ v = cc in subst (λ (x : Write). is_before stamp x.writer ≡ true) one h.0
    by (Some u) k s f =
        let one : greater w (Some u) ≡ v = cc in
        split (is_before w.writer u.writer)
        (λ t. subst (λ (x : Write). is_before stamp x.writer ≡ true) (sym (ap (λ b. cond b u w) t) ∙ one) (f u k))
        (λ t. subst (λ (x : Write). is_before stamp x.writer ≡ true) (sym (ap (λ b. cond b u w) t) ∙ one) h.0)

-- a later write decides, whatever an Insert lists
later_decides : (stamp : Stamp) (name : List ℕ) (names : List (List ℕ)) (tags : List Write) (v : Write) → is_before stamp v.writer ≡ true → greatest (writes_of name tags) ≡ Some v → greatest (writes_of name (listed_by stamp names ++ tags)) ≡ Some v
later_decides stamp name [] tags v h e = e
later_decides stamp name (n ∷ names) tags v h e =
    let rest = writes_of name (listed_by stamp names ++ tags) in
    let w : Write = record { name = n; writer = stamp; on = true } in
    split (bytes_eq name n)
    (λ t. ap (λ b. greatest (cond b (w ∷ rest) rest)) t
    ∙ ap (λ o. Some (greater w o)) (later_decides stamp name names tags v h e)
    ∙ ap (λ b. Some (cond b v w)) h)
    (λ f. ap (λ b. greatest (cond b (w ∷ rest) rest)) f ∙ later_decides stamp name names tags v h e)

itself : (a : Stamp) → is_before a a ≡ false
itself a = grind (arith, nat_tests)

-- without a later write the Insert's own decides
listed_writer : (stamp : Stamp) (name : List ℕ) (names : List (List ℕ)) (v : Write) → write_of name (listed_by stamp names) ≡ Some v → v.writer ≡ stamp
listed_writer stamp name [] v e = absurd (cc)
listed_writer stamp name (n ∷ names) v e =
    let w : Write = record { name = n; writer = stamp; on = true } in
    split (bytes_eq name n)
    (λ t. let one : Some w ≡ Some v = sym (ap (λ b. cond b (Some w) (write_of name (listed_by stamp names))) t) ∙ e in let same : w ≡ v = cc in ap (λ (x : Write). x.writer) (sym same))
    (λ f. listed_writer stamp name names v (sym (ap (λ b. cond b (Some w) (write_of name (listed_by stamp names))) f) ∙ e))

listed_decides : (stamp : Stamp) (name : List ℕ) (names : List (List ℕ)) (tags : List Write) → greatest (writes_of name tags) ≡ None → greatest (writes_of name (listed_by stamp names ++ tags)) ≡ write_of name (listed_by stamp names)
listed_decides stamp name [] tags e = e
listed_decides stamp name (n ∷ names) tags e =
    let rest = writes_of name (listed_by stamp names ++ tags) in
    let w : Write = record { name = n; writer = stamp; on = true } in
    split (bytes_eq name n)
    (λ t. ap (λ b. greatest (cond b (w ∷ rest) rest)) t
    ∙ ap (λ o. Some (greater w o)) (listed_decides stamp name names tags e)
    ∙ by (write_of name (listed_by stamp names)) refl
    ∙ sym (ap (λ b. cond b (Some w) (write_of name (listed_by stamp names))) t))
    (λ f. ap (λ b. greatest (cond b (w ∷ rest) rest)) f ∙ listed_decides stamp name names tags e
    ∙ sym (ap (λ b. cond b (Some w) (write_of name (listed_by stamp names))) f))
  where
    by : (o : Option Write) → write_of name (listed_by stamp names) ≡ o → Some (greater (record { name = n; writer = stamp; on = true }) o) ≡ Some (record { name = n; writer = stamp; on = true })
    by None k = refl
    by (Some v) k = ap (λ b. Some (cond b v (record { name = n; writer = stamp; on = true }))) (ap (λ s. is_before stamp s) (listed_writer stamp name names v k) ∙ itself stamp)

listed_on : (stamp : Stamp) (name : List ℕ) (names : List (List ℕ)) → says_on (write_of name (listed_by stamp names)) ≡ is_listed name names
listed_on stamp name [] = refl
listed_on stamp name (n ∷ names) = by (bytes_eq name n) (listed_on stamp name names)
  where
    by : (b : Bool) → says_on (write_of name (listed_by stamp names)) ≡ is_listed name names → says_on (cond b (Some (record { name = n; writer = stamp; on = true })) (write_of name (listed_by stamp names))) ≡ (b || is_listed name names)
    by true r = refl
    by false r = r

-- the greatest later write decides, or else the list
abbrev says_or : Option Write → Bool → Bool
says_or None b = b
says_or (Some v) b = v.on

shared_with : (stamp : Stamp) (name : List ℕ) (names : List (List ℕ)) (tags : List Write) → AllByRecursion (λ w. is_before stamp w.writer ≡ true) tags → is_shared name (listed_by stamp names ++ tags) ≡ says_or (greatest (writes_of name tags)) (is_listed name names)
shared_with stamp name names tags h = by (greatest (writes_of name tags)) refl
  where
    by : (o : Option Write) → greatest (writes_of name tags) ≡ o → is_shared name (listed_by stamp names ++ tags) ≡ says_or (greatest (writes_of name tags)) (is_listed name names)
    by None e = ap says_on (listed_decides stamp name names tags e) ∙ listed_on stamp name names ∙ sym (ap (λ o. says_or o (is_listed name names)) e)
    by (Some v) e = ap says_on (later_decides stamp name names tags v (greatest_comes stamp name tags v h e) e) ∙ sym (ap (λ o. says_or o (is_listed name names)) e)

root_first : (a b : Stamp) → is_before a b ≡ true → is_before ROOT b ≡ true
root_first a b h = grind (arith, nat_tests)

pub listed_by_root : (name : List ℕ) (insert : Stamp) (names : List (List ℕ)) (tags : List Write) → AllByRecursion (λ w. is_before insert w.writer ≡ true) tags → is_on name (state_after [] (listed_by ROOT names ++ tags)) ≡ is_shared name (listed_by insert names ++ tags)
listed_by_root name insert names tags h =
    decides name (listed_by ROOT names ++ tags)
    ∙ shared_with ROOT name names tags (every (λ w. is_before insert w.writer ≡ true) (λ w. is_before ROOT w.writer ≡ true) (λ w k. root_first insert w.writer k) tags h)
    ∙ sym (shared_with insert name names tags h)
