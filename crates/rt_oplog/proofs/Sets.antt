-- Members of sets of operations.
use Rattle.std.proofs.Common.{◌≡◌, ◌↔◌, ℕ, ◌<◌, ◌≤◌, Bool, true, false, not, ◌⊎◌, inl, inr, refl, sym, ap, ◌∙◌, subst, arith, List, [], ◌∷◌, cond, ◌||◌, ◌&&◌, ◌==◌}
use Rattle.std.specs.Cmp.Lexicographic.{pointwise}
use Rattle.std.proofs.lemmas.Bool.Decides.{nat_tests}
use Rattle.std.proofs.lemmas.Slice.Eq.{bytes_eq-Decides}
use Rattle.std.specs.Str.{bytes_eq}
use Rattle.std.specs.List.{AllByRecursion, list_any}
use Rattle.rt_stamps.specs.declared.stamp.Span.{Span}
use Rattle.rt_stamps.specs.declared.stamp.Stamp.{Stamp}
use Rattle.rt_stamps.specs.Stamps.{is_before, is_same}
use Rattle.rt_stamps.proofs.Order.{before_trans, before_irrefl, before_total, same_refl, same_from_true}
use Rattle.rt_ops.specs.Operations.{Name, Body, Insert, Delete, Tag, Operation, stamp_of, last_of, has_bad_stamp}
use Rattle.rt_oplog.specs.Logs.{HasOp, same_bool, same_span, same_body, same_operation, holds, reaches_into, clash, IsFalling, with_operation, added, union, has_clash}

pub split : {A : Type 0} (b : Bool) → (b ≡ true → A) → (b ≡ false → A) → A
split true f g = f refl
split false f g = g refl

-- equality

pointwise_true : {X : Type 0} (E : X → X → Bool) → ((x y : X) → E x y ≡ true → x ≡ y) → (xs ys : List X) → pointwise E xs ys ≡ true → xs ≡ ys
pointwise_true E f [] [] h = refl
pointwise_true E f [] (y ∷ ys) h = absurd (cc h)
pointwise_true E f (x ∷ xs) [] h = absurd (cc h)
pointwise_true E f (x ∷ xs) (y ∷ ys) h =
    let p : x ≡ y = f x y (grind (arith, h)) in
    let q : xs ≡ ys = pointwise_true E f xs ys (grind (arith, h)) in
    cc

pointwise_refl : {X : Type 0} (E : X → X → Bool) → ((x : X) → E x x ≡ true) → (xs : List X) → pointwise E xs xs ≡ true
pointwise_refl E f [] = refl
pointwise_refl E f (x ∷ xs) = rw (f x, pointwise_refl E f xs)

span_true : (a b : Span) → same_span a b ≡ true → a ≡ b
span_true a b h =
    let p : a.site ≡ b.site = grind (arith, nat_tests) in
    let q : a.first ≡ b.first = grind (arith, nat_tests) in
    let r : a.last ≡ b.last = grind (arith, nat_tests) in
    λ i. record { site = p i; first = q i; last = r i }

span_refl : (a : Span) → same_span a a ≡ true
span_refl a = grind (arith, nat_tests)

bool_true : (a b : Bool) → same_bool a b ≡ true → a ≡ b
bool_true true b h = sym h
bool_true false b h = grind (arith, h)

bool_refl : (a : Bool) → same_bool a a ≡ true
bool_refl true = refl
bool_refl false = refl

name_true : (a b : Name) → bytes_eq a b ≡ true → a ≡ b
name_true a b h = (bytes_eq-Decides a b).0 h

name_refl : (a : Name) → bytes_eq a a ≡ true
name_refl a = (bytes_eq-Decides a a).1 refl

body_true : (a b : Body) → same_body a b ≡ true → a ≡ b
body_true (Insert after tags text) (Insert other others more) h =
    let p : after ≡ other = same_from_true after other (grind (arith, h)) in
    let q : tags ≡ others = pointwise_true bytes_eq name_true tags others (grind (arith, h)) in
    let r : text ≡ more = name_true text more (grind (arith, h)) in
    cc
body_true (Delete spans) (Delete others) h = ap Delete (pointwise_true same_span span_true spans others h)
body_true (Tag on name spans) (Tag other others more) h =
    let p : on ≡ other = bool_true on other (grind (arith, h)) in
    let q : name ≡ others = name_true name others (grind (arith, h)) in
    let r : spans ≡ more = pointwise_true same_span span_true spans more (grind (arith, h)) in
    cc
body_true _ _ h = absurd (cc h)

body_refl : (a : Body) → same_body a a ≡ true
body_refl (Insert after tags text) = rw (same_refl after, pointwise_refl bytes_eq name_refl tags, name_refl text)
body_refl (Delete spans) = pointwise_refl same_span span_refl spans
body_refl (Tag on name spans) = rw (bool_refl on, name_refl name, pointwise_refl same_span span_refl spans)

pub operation_true : (a b : Operation) → same_operation a b ≡ true → a ≡ b
operation_true a b h =
    let p : a.count ≡ b.count = grind (arith, nat_tests) in
    let q : a.site ≡ b.site = grind (arith, nat_tests) in
    let r : a.prev ≡ b.prev = grind (arith, nat_tests) in
    let s : a.body ≡ b.body = body_true a.body b.body (grind (arith, h)) in
    λ i. record { count = p i; site = q i; prev = r i; body = s i }

prev_refl : (n : ℕ) → (n == n) ≡ true
prev_refl n = grind (arith, nat_tests)

pub operation_refl : (a : Operation) → same_operation a a ≡ true
operation_refl a = rw (same_refl (stamp_of a), prev_refl a.prev, body_refl a.body)

pub operation_sym : (a b : Operation) → same_operation a b ≡ same_operation b a
operation_sym a b = split (same_operation a b)
    (λ e. let p = operation_true a b e in e ∙ sym (operation_refl a) ∙ ap (λ x. same_operation x a) p ∙ ap (λ x. same_operation b x) refl)
    (λ e. split (same_operation b a)
    (λ f. let p = operation_true b a f in let g = operation_refl a in let k : same_operation a b ≡ true = subst (λ x. same_operation a x ≡ true) (sym p) g in absurd (cc (k, e)))
    (λ f. e ∙ sym f))

-- clashes

pub clash_self : (p : Operation) → clash p p ≡ false
clash_self p = rw (operation_refl p)

swap_clash : (s t : Bool) (p q : Operation) → s ≡ t → (not s && (reaches_into p q || reaches_into q p)) ≡ (not t && (reaches_into q p || reaches_into p q))
swap_clash s t p q e = rw e (ap (λ b. not t && b) (or_swap (reaches_into p q) (reaches_into q p)))
  where
    or_swap : (a b : Bool) → (a || b) ≡ (b || a)
    or_swap true true = refl
    or_swap true false = refl
    or_swap false true = refl
    or_swap false false = refl

pub clash_sym : (p q : Operation) → clash p q ≡ clash q p
clash_sym p q = swap_clash (same_operation p q) (same_operation q p) p q (operation_sym p q)

pub last_ge : (count : ℕ) (body : Body) → count ≤ last_of count body
last_ge count (Insert after tags text) = omega arith
last_ge count (Delete spans) = omega arith
last_ge count (Tag on name spans) = omega arith

pub sound_prev : (op : Operation) → has_bad_stamp op ≡ false → op.prev < op.count
sound_prev op h = grind (arith, nat_tests)

-- different operations that don't clash have different stamps
pub apart : (p q : Operation) → has_bad_stamp q ≡ false → same_operation p q ≡ false → clash p q ≡ false → is_same (stamp_of p) (stamp_of q) ≡ false
apart p q h s f = split (is_same (stamp_of p) (stamp_of q))
    (λ e.
    let i : p.site ≡ q.site = grind (arith, nat_tests) in
    let j : p.count ≡ q.count = grind (arith, nat_tests) in
    let k = sound_prev q h in
    let l = last_ge p.count p.body in
    let r : reaches_into p q ≡ true = grind (arith, nat_tests, i, j, k, l) in
    let t : clash p q ≡ true = rw (s, r) in
    absurd (cc (t, f)))
    (λ e. e)

-- members

pub has_with : (op : Operation) (set : List Operation) (x : Operation) → HasOp (with_operation op set) x → (op ≡ x) ⊎ HasOp set x
has_with op [] x h = h
has_with op (q ∷ older) x h =
    (elim (is_before (stamp_of q) (stamp_of op)) as (λ t. HasOp (cond t (op ∷ (q ∷ older)) (q ∷ with_operation op older)) x → (op ≡ x) ⊎ ((q ≡ x) ⊎ HasOp older x)) [
      | true ↦ λ k. k
      | false ↦ λ k. elim k [ inl e ↦ inr (inl e) | inr i ↦ elim (has_with op older x i) [ inl e ↦ inl e | inr j ↦ inr (inr j) ] ]
    ]) h

pub with_has : (op : Operation) (set : List Operation) (x : Operation) → (op ≡ x) ⊎ HasOp set x → HasOp (with_operation op set) x
with_has op [] x h = h
with_has op (q ∷ older) x h =
    elim (is_before (stamp_of q) (stamp_of op)) as (λ t. HasOp (cond t (op ∷ (q ∷ older)) (q ∷ with_operation op older)) x) [
      | true ↦ h
      | false ↦ elim h [ inl e ↦ inr (with_has op older x (inl e)) | inr i ↦ elim i [ inl e ↦ inl e | inr j ↦ inr (with_has op older x (inr j)) ] ]
    ]

pub has_held : (set : List Operation) (op : Operation) → holds set op ≡ true → HasOp set op
has_held [] op h = absurd (cc h)
has_held (q ∷ older) op h = split (same_operation q op) (λ e. inl (operation_true q op e)) (λ e. inr (has_held older op (grind (arith, h, e))))

pub held_from : (set : List Operation) (op : Operation) → HasOp set op → holds set op ≡ true
held_from [] op h = absurd h
held_from (q ∷ older) op h = elim h [
  | inl e ↦ (let p : same_operation q op ≡ true = rw e (operation_refl op) in grind (arith, p))
  | inr i ↦ (let p = held_from older op i in grind (arith, p))
]

pub has_added : (op : Operation) (set : List Operation) (x : Operation) → HasOp (added op set) x → (op ≡ x) ⊎ HasOp set x
has_added op set x h = (elim (holds set op) as (λ t. HasOp (cond t set (with_operation op set)) x → (op ≡ x) ⊎ HasOp set x) [ true ↦ λ k. inr k | false ↦ has_with op set x ]) h

pub added_has : (op : Operation) (set : List Operation) (x : Operation) → (op ≡ x) ⊎ HasOp set x → HasOp (added op set) x
added_has op set x h = (elim (holds set op) as (λ t. holds set op ≡ t → HasOp (cond t set (with_operation op set)) x) [
  | true ↦ λ e. elim h [ inl i ↦ subst (HasOp set) i (has_held set op e) | inr j ↦ j ]
  | false ↦ λ e. with_has op set x h
]) refl

pub has_union : (one other : List Operation) (x : Operation) → HasOp (union one other) x → HasOp one x ⊎ HasOp other x
has_union [] other x h = inr h
has_union (op ∷ set) other x h = elim (has_added op (union set other) x h) [
  | inl e ↦ inl (inl e)
  | inr i ↦ elim (has_union set other x i) [ inl j ↦ inl (inr j) | inr j ↦ inr j ]
]

pub union_has : (one other : List Operation) (x : Operation) → HasOp one x ⊎ HasOp other x → HasOp (union one other) x
union_has [] other x h = elim h [ inl i ↦ absurd i | inr j ↦ j ]
union_has (op ∷ set) other x h = added_has op (union set other) x (elim h [
  | inl i ↦ elim i [ inl e ↦ inl e | inr j ↦ inr (union_has set other x (inl j)) ]
  | inr j ↦ inr (union_has set other x (inr j))
])

-- tests of all pairs

pub any_at : (p : Operation → Bool) (set : List Operation) (x : Operation) → HasOp set x → p x ≡ true → list_any p set ≡ true
any_at p [] x h e = absurd h
any_at p (q ∷ older) x h e = elim h [
  | inl i ↦ (let k : p q ≡ true = rw i e in rw k)
  | inr j ↦ (let k = any_at p older x j e in grind (arith, k))
]

pub none_at : (p : Operation → Bool) (set : List Operation) (x : Operation) → list_any p set ≡ false → HasOp set x → p x ≡ false
none_at p set x h i = split (p x) (λ e. let k = any_at p set x i e in absurd (cc (k, h))) (λ e. e)

pub any_from : (p : Operation → Bool) (set : List Operation) → list_any p set ≡ true → (x : Operation) × HasOp set x × (p x ≡ true)
any_from p [] h = absurd (cc h)
any_from p (q ∷ older) h = split (p q)
    (λ e. (q, inl refl, e))
    (λ e. let (x, i, k) = any_from p older (grind (arith, h, e)) in (x, inr i, k))

pub none_from : (p : Operation → Bool) (set : List Operation) → ((x : Operation) → HasOp set x → p x ≡ false) → list_any p set ≡ false
none_from p set f = split (list_any p set) (λ e. let (x, i, k) = any_from p set e in let l = f x i in absurd (cc (k, l))) (λ e. e)

pub clash_in : (set : List Operation) (p q : Operation) → HasOp set p → HasOp set q → clash p q ≡ true → has_clash set ≡ true
clash_in [] p q h k c = absurd h
clash_in (op ∷ older) p q h k c = elim h [
  | inl e ↦ elim k [
    | inl f ↦ (let s = clash_self p in let g : q ≡ p = sym f ∙ e in let t : clash p p ≡ true = subst (λ x. clash p x ≡ true) g c in absurd (cc (s, t)))
    | inr j ↦ (let t : clash op q ≡ true = rw e c in let a = any_at (clash op) older q j t in rw a)
  ]
  | inr i ↦ elim k [
    | inl f ↦ (let t : clash op p ≡ true = rw f (clash_sym q p ∙ c) in let a = any_at (clash op) older p i t in rw a)
    | inr j ↦ (let a = clash_in older p q i j c in grind (arith, a))
  ]
]

pub clash_from : (set : List Operation) → has_clash set ≡ true → (p : Operation) × (q : Operation) × HasOp set p × HasOp set q × (clash p q ≡ true)
clash_from [] h = absurd (cc h)
clash_from (op ∷ older) h = split (list_any (clash op) older)
    (λ e. let (x, i, k) = any_from (clash op) older e in (op, x, inl refl, inr i, k))
    (λ e. let (p, q, i, j, k) = clash_from older (grind (arith, h, e)) in (p, q, inr i, inr j, k))

pub free_from : (set : List Operation) → has_clash set ≡ false → (p q : Operation) → HasOp set p → HasOp set q → clash p q ≡ false
free_from set h p q i j = split (clash p q) (λ e. let k = clash_in set p q i j e in absurd (cc (k, h))) (λ e. e)

-- the order

all_with : (P : Operation → Type 0) (op : Operation) → P op → (older : List Operation) → AllByRecursion P older → AllByRecursion P (with_operation op older)
all_with P op h [] k = (h, tt)
all_with P op h (q ∷ older) k = elim (is_before (stamp_of q) (stamp_of op)) as (λ t. AllByRecursion P (cond t (op ∷ (q ∷ older)) (q ∷ with_operation op older))) [
  | true ↦ (h, k)
  | false ↦ (k.0, all_with P op h older k.1)
]

all_before : (s t : Stamp) → is_before s t ≡ true → (older : List Operation) → AllByRecursion (λ q. is_before (stamp_of q) s ≡ true) older → AllByRecursion (λ q. is_before (stamp_of q) t ≡ true) older
all_before s t h [] k = tt
all_before s t h (q ∷ older) k = (before_trans (stamp_of q) s t k.0 h, all_before s t h older k.1)

-- an operation of another stamp finds its place
pub falling_with : (op : Operation) (set : List Operation) → IsFalling set → ((x : Operation) → HasOp set x → is_same (stamp_of x) (stamp_of op) ≡ false) → IsFalling (with_operation op set)
falling_with op [] h f = (tt, tt)
falling_with op (q ∷ older) h f = split (is_before (stamp_of q) (stamp_of op))
    (λ e. rw e ((e, all_before (stamp_of q) (stamp_of op) e older h.0), h))
    (λ e. let b = before_total (stamp_of q) (stamp_of op) e (f q (inl refl)) in
    rw e (all_with (λ x. is_before (stamp_of x) (stamp_of q) ≡ true) op b older h.0, falling_with op older h.1 (λ x i. f x (inr i))))

pub member_before : (op x : Operation) (older : List Operation) → AllByRecursion (λ q. is_before (stamp_of q) (stamp_of op) ≡ true) older → HasOp older x → is_before (stamp_of x) (stamp_of op) ≡ true
member_before op x [] h k = absurd k
member_before op x (q ∷ older) h k = elim k [ inl e ↦ subst (λ p. is_before (stamp_of p) (stamp_of op) ≡ true) e h.0 | inr i ↦ member_before op x older h.1 i ]

not_itself : (s : Stamp) → is_before s s ≡ true → ⊥
not_itself s h = let i = before_irrefl s in cc (h, i)

same_head : (a b : Operation) (us bs : List Operation) → IsFalling (a ∷ us) → IsFalling (b ∷ bs) → HasOp (b ∷ bs) a → HasOp (a ∷ us) b → a ≡ b
same_head a b us bs h k i j = elim i [
  | inl e ↦ sym e
  | inr m ↦ elim j [ inl e ↦ e | inr n ↦ absurd (not_itself (stamp_of a) (before_trans (stamp_of a) (stamp_of b) (stamp_of a) (member_before b a bs k.0 m) (member_before a b us h.0 n))) ]
]

rest_in : (a b : Operation) (us bs : List Operation) → IsFalling (a ∷ us) → a ≡ b → ((x : Operation) → HasOp (a ∷ us) x → HasOp (b ∷ bs) x) → (x : Operation) → HasOp us x → HasOp bs x
rest_in a b us bs h e f x m = elim (f x (inr m)) [
  | inl i ↦ absurd (not_itself (stamp_of a) (subst (λ p. is_before (stamp_of p) (stamp_of a) ≡ true) (sym (e ∙ i)) (member_before a x us h.0 m)))
  | inr n ↦ n
]

-- by falling stamp a set is one list
pub same_set : (us bs : List Operation) → IsFalling us → IsFalling bs → ((x : Operation) → HasOp us x ↔ HasOp bs x) → us ≡ bs
same_set [] [] h k f = refl
same_set [] (b ∷ bs) h k f = absurd ((f b).1 (inl refl))
same_set (a ∷ us) [] h k f = absurd ((f a).0 (inl refl))
same_set (a ∷ us) (b ∷ bs) h k f =
    let e : a ≡ b = same_head a b us bs h k ((f a).0 (inl refl)) ((f b).1 (inl refl)) in
    let t : us ≡ bs = same_set us bs h.1 k.1 (λ x. (rest_in a b us bs h e (λ y. (f y).0) x, rest_in b a bs us k (sym e) (λ y. (f y).1) x)) in
    cc (e, t)
