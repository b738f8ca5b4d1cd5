-- What another site lacks of a log.
use Rattle.std.proofs.Common.{◌≡◌, ◌⊎◌, ◌∙◌, inl, inr, refl, sym, ap, subst, arith, zero, suc, ℕ, ◌+◌, ◌<◌, ◌≤◌, ◌==◌, Bool, true, false, cond, ◌||◌, List, [], ◌∷◌, ◌++◌, take, map, reverse, length, get_or, Some, None, unwrap_or}
use Rattle.std.specs.Option.{is_some}
use mathlib.Core.List.{reverse-cons}
use Rattle.std.specs.declared.alloc.Global.{Global}
use Rattle.std.specs.declared.collections.BTreeMap.{BTreeMap}
use Rattle.std.specs.BTreeMap.{Updates, get, is_at}
use Rattle.std.specs.List.{AllByRecursion, filter, list_any}
use Rattle.std.specs.Ordering.{nat_cmp}
use Rattle.std.proofs.lemmas.Bool.{cases_eq}
use Rattle.std.proofs.lemmas.Bool.Decides.{nat_tests}
use Rattle.std.proofs.lemmas.List.{map-append, take_more}
use Rattle.std.proofs.lemmas.List.Folds.{list_any-append}
use Rattle.rt_stamps.specs.Stamps.{is_before}
use Rattle.rt_stamps.specs.declared.limits.TheConstants.{GREATEST_COUNT}
use Rattle.rt_ops.specs.declared.view.OpView.{OpView}
use Rattle.rt_ops.specs.Views.{operation_in}
use Rattle.rt_ops.specs.Operations.{Operation, has_bad_stamp, last_count, stamp_of}
use Rattle.rt_oplog.specs.Logs.{HasOp, IsFalling, IsLog, known_end}
use Rattle.rt_oplog.proofs.Joins.{end_ge}
use Rattle.rt_oplog.specs.Outcomes.{IsLogOf}
use Rattle.rt_oplog.proofs.Pushes.{sound_last}
use Rattle.rt_oplog.proofs.Sets.{last_ge, none_at, none_from, same_set, split}
use Rattle.rt_rga.specs.Histories.{IsHistory}
use Rattle.rt_rga.proofs.Accepting.{falling, sound_in}
use Rattle.rt_rga.proofs.Rising.{in_reverse}
use Rattle.rt_peers.specs.Lacking.{known_in, is_past, past_known}

-- WHAT IS KNOWN

abbrev pub is_of : ℕ → Operation → Bool
is_of site op = op.site == site

-- the count that is known of a site, once an operation of it was seen
abbrev pub reached : List Operation → (ℕ → ℕ) → ℕ → ℕ
reached ops known site = cond (list_any (is_of site) ops) (known site) 0

reached_more : (ops : List Operation) (op : Operation) (known : ℕ → ℕ) (site : ℕ) → reached (ops ++ op ∷ []) known site ≡ cond (op.site == site) (known site) (reached ops known site)
reached_more ops op known site =
    let e = list_any-append (is_of site) ops (op ∷ []) in
    rw e (both (list_any (is_of site) ops) (op.site == site))
  where
    both : (a b : Bool) → cond (a || (b || false)) (known site) 0 ≡ cond b (known site) (cond a (known site) 0)
    both true true = refl
    both true false = refl
    both false true = refl
    both false false = refl

at_apart : (k q : ℕ) → (k ≡ q → ⊥) → is_at (nat_cmp k) q ≡ false
at_apart k q n = grind (arith, nat_tests)

eq_true : (k q : ℕ) → k ≡ q → (k == q) ≡ true
eq_true k q e = grind (arith, nat_tests)

eq_false : (k q : ℕ) → (k ≡ q → ⊥) → (k == q) ≡ false
eq_false k q n = grind (arith, nat_tests)

-- one more operation was seen
pub known_more : (m n : BTreeMap ℕ ℕ Global) (k v : ℕ) (known : ℕ → ℕ) → Updates nat_cmp m n k (Some v) → v ≡ known k → (ops : List Operation) (op : Operation) → op.site ≡ k
    → (q : ℕ) → known_in m q ≡ reached ops known q → known_in n q ≡ reached (ops ++ op ∷ []) known q
known_more m n k v known u w ops op s q i = elim (cases_eq k q) [
  | inl e ↦ (let here : known_in n k ≡ known k = ap (λ o. unwrap_or o 0) u.1 ∙ w in
      let more = reached_more ops op known k ∙ ap (λ b. cond b (known k) (reached ops known k)) (eq_true op.site k s) in
      subst (λ r. known_in n r ≡ reached (ops ++ op ∷ []) known r) e (here ∙ sym more))
  | inr a ↦ (let kept : known_in n q ≡ known_in m q = ap (λ o. unwrap_or o 0) (u.2 q (at_apart k q a)) in
      let more = reached_more ops op known q ∙ ap (λ b. cond b (known q) (reached ops known q)) (eq_false op.site q (λ e. a (sym s ∙ e))) in
      kept ∙ i ∙ sym more)
]

seen_before : (ops : List Operation) (op : Operation) (site : ℕ) → list_any (is_of site) (ops ++ op ∷ []) ≡ false → (list_any (is_of site) ops ≡ false) × ((op.site == site) ≡ false)
seen_before ops op site h = parts (list_any (is_of site) ops) (op.site == site) (sym (list_any-append (is_of site) ops (op ∷ [])) ∙ h)
  where
    parts : (a b : Bool) → (a || (b || false)) ≡ false → (a ≡ false) × (b ≡ false)
    parts true b e = absurd (cc e)
    parts false true e = absurd (cc e)
    parts false false e = (refl, refl)

same_site : (k q : ℕ) → (k == q) ≡ false → k ≡ q → ⊥
same_site k q f e = let t = eq_true k q e in cc (t, f)

-- a site of which no operation was seen isn't in the map
pub only_more : (m n : BTreeMap ℕ ℕ Global) (k v : ℕ) → Updates nat_cmp m n k (Some v) → (ops : List Operation) (op : Operation) → op.site ≡ k
    → (q : ℕ) → (list_any (is_of q) ops ≡ false → get nat_cmp m q ≡ None) → list_any (is_of q) (ops ++ op ∷ []) ≡ false → get nat_cmp n q ≡ None
only_more m n k v u ops op s q only h =
    let parts = seen_before ops op q h in
    u.2 q (at_apart k q (λ e. same_site op.site q parts.1 (s ∙ e))) ∙ only parts.0

-- what a map was found to have
pub is_there : (m : BTreeMap ℕ ℕ Global) (k : ℕ) (found : Bool) → found ≡ is_some (get nat_cmp m k) → found ≡ true → get nat_cmp m k ≡ None → ⊥
is_there m k found e there none = let a : found ≡ false = e ∙ ap is_some none in cc (a, there)

-- a further operation of a site that is in the map
pub known_there : (m : BTreeMap ℕ ℕ Global) (k : ℕ) (known : ℕ → ℕ) → (get nat_cmp m k ≡ None → ⊥) → (ops : List Operation) (op : Operation) → op.site ≡ k
    → (list_any (is_of k) ops ≡ false → get nat_cmp m k ≡ None) → (q : ℕ) → known_in m q ≡ reached ops known q → known_in m q ≡ reached (ops ++ op ∷ []) known q
known_there m k known there ops op s only q i = elim (cases_eq k q) [
  | inl e ↦ (let more = reached_more ops op known k ∙ ap (λ b. cond b (known k) (reached ops known k)) (eq_true op.site k s) in
      let before : reached ops known k ≡ known k = split (list_any (is_of k) ops) (λ a. rw a refl) (λ a. absurd (there (only a))) in
      i ∙ subst (λ r. reached ops known r ≡ reached (ops ++ op ∷ []) known r) e (before ∙ sym more))
  | inr a ↦ (let more = reached_more ops op known q ∙ ap (λ b. cond b (known q) (reached ops known q)) (eq_false op.site q (λ e. a (sym s ∙ e))) in
      i ∙ sym more)
]

pub only_there : (m : BTreeMap ℕ ℕ Global) (ops : List Operation) (op : Operation) (q : ℕ) → (list_any (is_of q) ops ≡ false → get nat_cmp m q ≡ None)
    → list_any (is_of q) (ops ++ op ∷ []) ≡ false → get nat_cmp m q ≡ None
only_there m ops op q only h = only (seen_before ops op q h).0

-- items of a list that are read one after the other
pub items_more : (items : List OpView) (i : ℕ) (item : OpView) → i < length items → item ≡ get_or items i item
    → map operation_in (take (i + 1) items) ≡ map operation_in (take i items) ++ operation_in item ∷ []
items_more items i item h e =
    ap (map operation_in) (take_more items i item h)
    ∙ map-append operation_in (take i items) (get_or items i item ∷ [])
    ∙ ap (λ (x : OpView). map operation_in (take i items) ++ operation_in x ∷ []) (sym e)

none_known : (log : List Operation) (site : ℕ) → ((op : Operation) → HasOp log op → (op.site == site) ≡ false) → known_end log site ≡ 0
none_known [] site h = refl
none_known (op ∷ older) site h = let e = h op (inl refl) in rw e (none_known older site (λ x i. h x (inr i)))

-- all operations were seen
pub all_known : (log : List Operation) (site : ℕ) → reached (reverse log) (known_end log) site ≡ known_end log site
all_known log site = split (list_any (is_of site) (reverse log))
    (λ e. rw e refl)
    (λ e. rw e (sym (none_known log site (λ op i. none_at (is_of site) (reverse log) op e (in_reverse log op i)))))

-- WHAT IS LACKING

apart_last : (ys : List Operation) (z x : Operation) → HasOp (ys ++ z ∷ []) x → HasOp ys x ⊎ (z ≡ x)
apart_last [] z x (inl e) = inr e
apart_last [] z x (inr i) = absurd i
apart_last (y ∷ ys) z x (inl e) = inl (inl e)
apart_last (y ∷ ys) z x (inr i) = elim (apart_last ys z x i) [ inl j ↦ inl (inr j) | inr e ↦ inr e ]

of_reverse : (xs : List Operation) (x : Operation) → HasOp (reverse xs) x → HasOp xs x
of_reverse [] x i = i
of_reverse (z ∷ xs) x i = elim (apart_last (reverse xs) z x (subst (λ l. HasOp l x) (reverse-cons z xs) i)) [ inl j ↦ inr (of_reverse xs x j) | inr e ↦ inl e ]

sound_some : (op : Operation) → has_bad_stamp op ≡ false → 0 < last_count op
sound_some op h =
    let least : op.count ≤ last_count op = last_ge op.count op.body in
    let some : 0 < op.count = grind (arith, nat_tests) in
    omega (arith, least, some)

-- a site whose known end is 0 has no operation
pub none_seen : (log : List Operation) → IsLog log → (site : ℕ) → known_end log site ≡ 0 → list_any (is_of site) (reverse log) ≡ false
none_seen log is site z = none_from (is_of site) (reverse log) (λ op i. differs op (of_reverse log op i))
  where
    differs : (op : Operation) → HasOp log op → (op.site == site) ≡ false
    differs op i = split (op.site == site)
        (λ e. let some : 0 < last_count op = sound_some op (is.sound op i) in
        let end : last_count op ≤ known_end log op.site = end_ge log op i in
        let here : op.site ≡ site = grind (arith, nat_tests, e) in
        let at : known_end log op.site ≡ 0 = ap (known_end log) here ∙ z in
        absurd (omega (arith, some, end, at)))
        (λ e. e)

filter_by : (p : Operation → Bool) (op x : Operation) (ops rest : List Operation) (b : Bool) → p op ≡ b → (HasOp rest x → HasOp ops x × (p x ≡ true)) → HasOp (cond b (op ∷ rest) rest) x
    → HasOp (op ∷ ops) x × (p x ≡ true)
filter_by p op x ops rest true e f (inl s) = (inl s, ap p (sym s) ∙ e)
filter_by p op x ops rest true e f (inr i) = let r = f i in (inr r.0, r.1)
filter_by p op x ops rest false e f i = let r = f i in (inr r.0, r.1)

pub filter_has : (p : Operation → Bool) (ops : List Operation) (x : Operation) → HasOp (filter p ops) x → HasOp ops x × (p x ≡ true)
filter_has p [] x h = absurd h
filter_has p (op ∷ ops) x h = filter_by p op x ops (filter p ops) (p op) refl (filter_has p ops x) h

has_by : (p : Operation → Bool) (op x : Operation) (ops rest : List Operation) (b : Bool) → p op ≡ b → p x ≡ true → (HasOp ops x → HasOp rest x) → HasOp (op ∷ ops) x → HasOp (cond b (op ∷ rest) rest) x
has_by p op x ops rest true e f g (inl s) = inl s
has_by p op x ops rest true e f g (inr i) = inr (g i)
has_by p op x ops rest false e f g (inl s) = let same = ap p s in let no : ⊥ = cc (e, same, f) in absurd no
has_by p op x ops rest false e f g (inr i) = g i

pub has_filter : (p : Operation → Bool) (ops : List Operation) (x : Operation) → HasOp ops x → p x ≡ true → HasOp (filter p ops) x
has_filter p [] x h e = absurd h
has_filter p (op ∷ ops) x h e = has_by p op x ops (filter p ops) (p op) refl e (λ i. has_filter p ops x i e) h

abbrev AreBefore : Operation → List Operation → Type 0
AreBefore op ops = AllByRecursion (λ q. is_before (stamp_of q) (stamp_of op) ≡ true) ops

before_by : (op x : Operation) (rest : List Operation) (b : Bool) → is_before (stamp_of x) (stamp_of op) ≡ true → AreBefore op rest → AreBefore op (cond b (x ∷ rest) rest)
before_by op x rest true h k = (h, k)
before_by op x rest false h k = k

before_filter : (p : Operation → Bool) (op : Operation) (ops : List Operation) → AreBefore op ops → AreBefore op (filter p ops)
before_filter p op [] h = tt
before_filter p op (x ∷ ops) h = before_by op x (filter p ops) (p x) h.0 (before_filter p op ops h.1)

falling_by : (op : Operation) (rest : List Operation) (b : Bool) → AreBefore op rest → IsFalling rest → IsFalling (cond b (op ∷ rest) rest)
falling_by op rest true h k = (h, k)
falling_by op rest false h k = k

falling_filter : (p : Operation → Bool) (ops : List Operation) → IsFalling ops → IsFalling (filter p ops)
falling_filter p [] h = tt
falling_filter p (op ∷ ops) h = falling_by op (filter p ops) (p op) (before_filter p op ops h.0) (falling_filter p ops h.1)

-- the log of what was kept of a log is that part of it
pub lacking_is : (known : ℕ → ℕ) (log ops made : List Operation) → IsHistory log → ops ≡ filter (is_past known) (reverse log) → IsLogOf ops made → made ≡ past_known known log
lacking_is known log ops made h e m = same_set made (past_known known log) m.is_log.falling (falling_filter (is_past known) log (falling log h)) (λ x. (to x, from x))
  where
    to : (x : Operation) → HasOp made x → HasOp (past_known known log) x
    to x i = let r = filter_has (is_past known) (reverse log) x (subst (λ l. HasOp l x) e ((m.members x).0 i)) in has_filter (is_past known) log x (of_reverse log x r.0) r.1

    from : (x : Operation) → HasOp (past_known known log) x → HasOp made x
    from x i =
        let r = filter_has (is_past known) log x i in
        (m.members x).1 (subst (λ l. HasOp l x) (sym e) (has_filter (is_past known) (reverse log) x (in_reverse log x r.0) r.1))

-- each operation has counts that there are
has_at : (ops : List Operation) (i : ℕ) (op : Operation) → i < length ops → op ≡ get_or ops i op → HasOp ops op
has_at [] i op h e = absurd (omega (arith, h))
has_at (x ∷ ops) zero op h e = inl (sym e)
has_at (x ∷ ops) (suc i) op h e = inr (has_at ops i op (omega (arith, h)) e)

now_at : (items : List OpView) (i : ℕ) (item : OpView) → item ≡ get_or items i item → i < length items
    → (i < length (map operation_in items)) × (operation_in item ≡ get_or (map operation_in items) i (operation_in item))
now_at [] i item e h = absurd (omega (arith, h))
now_at (x ∷ items) zero item e h = (omega arith, ap operation_in e)
now_at (x ∷ items) (suc i) item e h = let r = now_at items i item e (omega (arith, h)) in (omega (arith, r.0), r.1)

pub within_counts : (log : List Operation) (items : List OpView) (i : ℕ) (item : OpView) → IsHistory log → map operation_in items ≡ reverse log
    → i < length items → item ≡ get_or items i item → last_count (operation_in item) ≤ GREATEST_COUNT
within_counts log items i item h same l e =
    let op = operation_in item in
    let at = now_at items i item e l in
    let there : HasOp (reverse log) op = subst (λ ops. HasOp ops op) same (has_at (map operation_in items) i op at.0 at.1) in
    sound_last op (sound_in log h op (of_reverse log op there))
