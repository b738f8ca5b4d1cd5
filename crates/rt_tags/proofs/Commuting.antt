-- A state is known by the write of each tag, so writes may come in any order.
use Rattle.std.proofs.Common.{◌≡◌, ℕ, List, [], ◌∷◌, ◌||◌, map, filter, Bool, true, false, cond, refl, sym, ap, subst, ◌∙◌, arith, Option, Some, None}
use Rattle.std.specs.List.{AllByRecursion}
use Rattle.std.specs.Ordering.{is_eq}
use Rattle.std.specs.Str.{bytes_eq}
use Rattle.std.specs.declared.cmp.Ordering.{Ordering}
use Rattle.std.specs.declared.cmp.Ordering.TheVariants.{Less, Equal, Greater}
use Rattle.std.proofs.lemmas.Bool.Decides.{nat_tests}
use Rattle.std.proofs.lemmas.Cmp.{nat_list_cmp_total}
use Rattle.std.proofs.lemmas.Map.Text.{is_eq-slice_cmp}
use Rattle.rt_stamps.specs.declared.stamp.Stamp.{Stamp}
use Rattle.rt_stamps.specs.Names.{name_order}
use Rattle.rt_stamps.specs.Stamps.{is_before, is_same}
use Rattle.rt_tags.specs.States.{Write, IsByName, is_on, names_on, says_on, write_of, written}
use Rattle.rt_tags.specs.Tags.{HaveNoRepeats, is_listed}
use Rattle.rt_tags.specs.Writers.{greater}
use Rattle.rt_tags.proofs.Greatest.{greater_twice, newer, write_of_written}
use Rattle.rt_tags.proofs.Places.{split, clash, name_itself, same_name}
use Rattle.rt_tags.proofs.Sorted.{every, turned, written_sorted}

pub none_above : (q : List ℕ) (xs : List Write) → AllByRecursion (λ x. name_order q x.name ≡ Less) xs → write_of q xs ≡ None
none_above q [] h = refl
none_above q (x ∷ xs) h =
    let other : bytes_eq q x.name ≡ false = sym (is_eq-slice_cmp q x.name) ∙ ap is_eq h.0 in
    ap (λ b. cond b (Some x) (write_of q xs)) other ∙ none_above q xs h.1

found_first : (w : Write) (xs : List Write) → write_of w.name (w ∷ xs) ≡ Some w
found_first w xs = ap (λ b. cond b (Some w) (write_of w.name xs)) (name_itself w.name)

-- all names of a state come after one that comes before its first
pub all_above : (q : List ℕ) (v : Write) (t : List Write) → IsByName (v ∷ t) → name_order q v.name ≡ Less → AllByRecursion (λ x. name_order q x.name ≡ Less) (v ∷ t)
all_above q v t h l = (l, every (λ x. name_order v.name x.name ≡ Less) (λ x. name_order q x.name ≡ Less) (λ x k. nat_list_cmp_total.trans q v.name x.name l k) t h.0)

-- states with the same write of each tag are one
pub one_state : (s t : List Write) → IsByName s → IsByName t → ((q : List ℕ) → write_of q s ≡ write_of q t) → s ≡ t
one_state [] [] hs ht f = refl
one_state [] (v ∷ t) hs ht f = let no : None ≡ Some v = f v.name ∙ found_first v t in absurd (cc)
one_state (w ∷ s) [] hs ht f = let no : Some w ≡ None = sym (found_first w s) ∙ f w.name in absurd (cc)
one_state (w ∷ s) (v ∷ t) hs ht f = by (name_order w.name v.name) refl (λ k. one_state s t hs.1 ht.1 k)
  where
    rest : w ≡ v → (q : List ℕ) → write_of q s ≡ write_of q t
    rest e q =
        split (bytes_eq q w.name)
        (λ b. let one = same_name q w.name b in
        ap (λ n. write_of n s) one ∙ none_above w.name s hs.0
        ∙ sym (ap (λ n. write_of n t) (one ∙ ap (λ (x : Write). x.name) e) ∙ none_above v.name t ht.0))
        (λ b. sym (ap (λ c. cond c (Some w) (write_of q s)) b) ∙ f q ∙ ap (λ c. cond c (Some v) (write_of q t)) (ap (λ (x : Write). bytes_eq q x.name) (sym e) ∙ b))

    by : (o : Ordering) → name_order w.name v.name ≡ o → (((q : List ℕ) → write_of q s ≡ write_of q t) → s ≡ t) → w ∷ s ≡ v ∷ t
    by Less e k = let no : Some w ≡ None = sym (found_first w s) ∙ f w.name ∙ none_above w.name (v ∷ t) (all_above w.name v t ht e) in absurd (cc)
    by Greater e k = let no : Some v ≡ None = sym (found_first v t) ∙ sym (f v.name) ∙ none_above v.name (w ∷ s) (all_above v.name w s hs (turned w.name v.name e)) in absurd (cc)
    by Equal e k =
        let names : w.name ≡ v.name = same_name w.name v.name (sym (is_eq-slice_cmp w.name v.name) ∙ ap is_eq e) in
        let both : Some w ≡ Some v = sym (found_first w s) ∙ f w.name ∙ ap (λ n. write_of n (v ∷ t)) names ∙ found_first v t in
        let one : w ≡ v = cc in
        λ j. one j ∷ k (rest one) j

back : (a b : Stamp) → is_same a b ≡ false → is_before a b ≡ false → is_before b a ≡ true
back a b h k = grind (arith, nat_tests)

not_back : (a b : Stamp) → is_before a b ≡ true → is_before b a ≡ false
not_back a b h = grind (arith, nat_tests)

greater_swap : (v w : Write) → is_same v.writer w.writer ≡ false → greater v (Some w) ≡ greater w (Some v)
greater_swap v w d =
    split (is_before v.writer w.writer)
    (λ t. ap (λ b. cond b w v) t ∙ sym (ap (λ b. cond b v w) (not_back v.writer w.writer t)))
    (λ t. ap (λ b. cond b w v) t ∙ sym (ap (λ b. cond b v w) (back v.writer w.writer d t)))

newer_swap : (o : Option Write) (v w : Write) → is_same v.writer w.writer ≡ false → newer (Some (newer o w)) v ≡ newer (Some (newer o v)) w
newer_swap None v w d = sym (greater_swap v w d)
newer_swap (Some u) v w d = greater_twice u w (Some v) ∙ ap (λ x. greater u (Some x)) (sym (greater_swap v w d)) ∙ sym (greater_twice u v (Some w))

-- of two writes
twice : (q : List ℕ) (v w : Write) (state : List Write) → write_of q (written v (written w state)) ≡ cond (bytes_eq q v.name) (Some (newer (cond (bytes_eq v.name w.name) (Some (newer (write_of w.name state) w)) (write_of v.name state)) v)) (cond (bytes_eq q w.name) (Some (newer (write_of w.name state) w)) (write_of q state))
twice q v w state =
    write_of_written q v (written w state)
    ∙ (λ j. cond (bytes_eq q v.name) (Some (newer (write_of_written v.name w state j) v)) (write_of_written q w state j))

back_name : (a b : List ℕ) → bytes_eq a b ≡ true → bytes_eq b a ≡ true
back_name a b h = subst (λ n. bytes_eq n a ≡ true) (same_name a b h) (name_itself a)

pub back_other : (a b : List ℕ) → bytes_eq a b ≡ false → bytes_eq b a ≡ false
back_other a b h = split (bytes_eq b a) (λ t. absurd (clash (bytes_eq a b) (back_name b a t) h)) (λ f. f)

same_tag : (q : List ℕ) (v w : Write) (state : List Write) → bytes_eq v.name w.name ≡ true → is_same v.writer w.writer ≡ false → write_of q (written v (written w state)) ≡ write_of q (written w (written v state))
same_tag q v w state t d =
    let names = same_name v.name w.name t in
    let o = write_of v.name state in
    let old : write_of w.name state ≡ o = ap (λ n. write_of n state) (sym names) in
    let first : write_of q (written v (written w state)) ≡ cond (bytes_eq q v.name) (Some (newer (Some (newer o w)) v)) (write_of q state) =
    twice q v w state
    ∙ (λ j. cond (bytes_eq q v.name) (Some (newer (cond (t j) (Some (newer (old j) w)) o) v)) (cond (bytes_eq q (sym names j)) (Some (newer (old j) w)) (write_of q state)))
    ∙ folded (bytes_eq q v.name) (Some (newer (Some (newer o w)) v)) (Some (newer o w)) (write_of q state) in
    let second : write_of q (written w (written v state)) ≡ cond (bytes_eq q v.name) (Some (newer (Some (newer o v)) w)) (write_of q state) =
    twice q w v state
    ∙ (λ j. cond (bytes_eq q (sym names j)) (Some (newer (cond (back_name v.name w.name t j) (Some (newer o v)) (old j)) w)) (cond (bytes_eq q v.name) (Some (newer o v)) (write_of q state)))
    ∙ folded (bytes_eq q v.name) (Some (newer (Some (newer o v)) w)) (Some (newer o v)) (write_of q state) in
    first ∙ ap (λ x. cond (bytes_eq q v.name) (Some x) (write_of q state)) (newer_swap o v w d) ∙ sym second
  where
    folded : (b : Bool) (x y z : Option Write) → cond b x (cond b y z) ≡ cond b x z
    folded true x y z = refl
    folded false x y z = refl

other_tag : (q : List ℕ) (v w : Write) (state : List Write) → bytes_eq v.name w.name ≡ false → write_of q (written v (written w state)) ≡ write_of q (written w (written v state))
other_tag q v w state f =
    twice q v w state
    ∙ ap (λ b. cond (bytes_eq q v.name) (Some (newer (cond b (Some (newer (write_of w.name state) w)) (write_of v.name state)) v)) (cond (bytes_eq q w.name) (Some (newer (write_of w.name state) w)) (write_of q state))) f
    ∙ swapped
    ∙ sym (twice q w v state ∙ ap (λ b. cond (bytes_eq q w.name) (Some (newer (cond b (Some (newer (write_of v.name state) v)) (write_of w.name state)) w)) (cond (bytes_eq q v.name) (Some (newer (write_of v.name state) v)) (write_of q state))) (back_other v.name w.name f))
  where
    by : (a b : Bool) (x y z : Option Write) → (a ≡ true → b ≡ true → ⊥) → cond a x (cond b y z) ≡ cond b y (cond a x z)
    by true true x y z h = absurd (h refl refl)
    by true false x y z h = refl
    by false true x y z h = refl
    by false false x y z h = refl

    swapped : cond (bytes_eq q v.name) (Some (newer (write_of v.name state) v)) (cond (bytes_eq q w.name) (Some (newer (write_of w.name state) w)) (write_of q state)) ≡ cond (bytes_eq q w.name) (Some (newer (write_of w.name state) w)) (cond (bytes_eq q v.name) (Some (newer (write_of v.name state) v)) (write_of q state))
    swapped = by (bytes_eq q v.name) (bytes_eq q w.name) (Some (newer (write_of v.name state) v)) (Some (newer (write_of w.name state) w)) (write_of q state) (λ a b. clash (bytes_eq v.name w.name) (subst (λ n. bytes_eq n w.name ≡ true) (same_name q v.name a) b) f)

-- two writes may come in either order, unless they are of one tag and under one stamp
pub commute : (v w : Write) (state : List Write) → IsByName state → (bytes_eq v.name w.name ≡ true → is_same v.writer w.writer ≡ false) → written v (written w state) ≡ written w (written v state)
commute v w state h d =
    one_state (written v (written w state)) (written w (written v state))
    (written_sorted v (written w state) (written_sorted w state h))
    (written_sorted w (written v state) (written_sorted v state h))
    (λ q. split (bytes_eq v.name w.name) (λ t. same_tag q v w state t (d t)) (λ f. other_tag q v w state f))

-- THE TAGS THAT ARE ON

unlisted : (q : List ℕ) (xs : List Write) → AllByRecursion (λ x. name_order q x.name ≡ Less) xs → is_listed q (names_on xs) ≡ false
unlisted q [] h = refl
unlisted q (x ∷ xs) h =
    let other : bytes_eq q x.name ≡ false = sym (is_eq-slice_cmp q x.name) ∙ ap is_eq h.0 in
    by x.on (ap (λ b. b || is_listed q (names_on xs)) other ∙ unlisted q xs h.1) (unlisted q xs h.1)
  where
    by : (b : Bool) → (bytes_eq q x.name || is_listed q (names_on xs)) ≡ false → is_listed q (names_on xs) ≡ false → is_listed q (map (λ (w : Write). w.name) (cond b (x ∷ filter (λ w. w.on) xs) (filter (λ w. w.on) xs))) ≡ false
    by true k r = k
    by false k r = r

pub on_is_listed : (q : List ℕ) (state : List Write) → IsByName state → is_on q state ≡ is_listed q (names_on state)
on_is_listed q [] h = refl
on_is_listed q (x ∷ xs) h =
    split (bytes_eq q x.name)
    (λ t. ap (λ b. says_on (cond b (Some x) (write_of q xs))) t ∙ here x.on t (ap (λ n. is_listed n (names_on xs)) (same_name q x.name t) ∙ unlisted x.name xs h.0))
    (λ f. ap (λ b. says_on (cond b (Some x) (write_of q xs))) f ∙ on_is_listed q xs h.1 ∙ there x.on f)
  where
    here : (b : Bool) → bytes_eq q x.name ≡ true → is_listed q (names_on xs) ≡ false → b ≡ is_listed q (map (λ (w : Write). w.name) (cond b (x ∷ filter (λ w. w.on) xs) (filter (λ w. w.on) xs)))
    here true t r = sym (ap (λ b. b || is_listed q (names_on xs)) t)
    here false t r = sym r

    there : (b : Bool) → bytes_eq q x.name ≡ false → is_listed q (names_on xs) ≡ is_listed q (map (λ (w : Write). w.name) (cond b (x ∷ filter (λ w. w.on) xs) (filter (λ w. w.on) xs)))
    there true f = sym (ap (λ b. b || is_listed q (names_on xs)) f)
    there false f = refl

pub on_once : (state : List Write) → IsByName state → HaveNoRepeats (names_on state)
on_once [] h = tt
on_once (x ∷ xs) h = by x.on (unlisted x.name xs h.0) (on_once xs h.1)
  where
    by : (b : Bool) → is_listed x.name (names_on xs) ≡ false → HaveNoRepeats (names_on xs) → HaveNoRepeats (map (λ (w : Write). w.name) (cond b (x ∷ filter (λ w. w.on) xs) (filter (λ w. w.on) xs)))
    by true u r = (u, r)
    by false u r = r
