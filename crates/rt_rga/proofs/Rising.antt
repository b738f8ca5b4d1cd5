-- By rising stamp the operations of a history come in time.
use Rattle.std.proofs.Common.{◌≡◌, ◌<◌, ◌≤◌, true, ◌⊎◌, inl, inr, refl, sym, subst, arith, List, [], ◌∷◌, ◌++◌, ◌&&◌, ◌==◌, reverse}
use mathlib.Core.List.{reverse-cons}
use Rattle.std.proofs.lemmas.Bool.Decides.{nat_tests}
use Rattle.std.specs.List.{list_any}
use Rattle.rt_stamps.specs.declared.stamp.Stamp.{Stamp}
use Rattle.rt_stamps.specs.Stamps.{is_before}
use Rattle.rt_stamps.proofs.Order.{before_irrefl, before_trans}
use Rattle.rt_ops.specs.Operations.{Operation, last_count, named, stamp_of}
use Rattle.rt_oplog.specs.Logs.{HasOp}
use Rattle.rt_oplog.proofs.Sets.{member_before}
use Rattle.rt_rga.specs.Reading.{has_stamp}
use Rattle.rt_rga.specs.Histories.{IsHistory, inserted}
use Rattle.rt_rga.specs.Orders.{ComeInTime, is_made_upon}
use Rattle.rt_rga.proofs.Skipping.{split}
use Rattle.rt_rga.proofs.Histories.{inserted_range, last_ge}
use Rattle.rt_rga.proofs.Accepting.{sound_in}
use Rattle.rt_rga.proofs.Later.{bad_prev, named_before, some_named}

not_itself : (s : Stamp) → is_before s s ≡ true → ⊥
not_itself s h = let i = before_irrefl s in cc (h, i)

-- what an operation was made upon is before it
before_site : (base op : Operation) → base.site ≡ op.site → base.count < op.count → is_before (stamp_of base) (stamp_of op) ≡ true
before_site base op s l = grind (arith, nat_tests)

before_named : (base op : Operation) (s : Stamp) → s.site ≡ base.site → base.count ≤ s.count → is_before s (stamp_of op) ≡ true → is_before (stamp_of base) (stamp_of op) ≡ true
before_named base op s a b h = grind (arith, nat_tests)

upon_before : (set : List Operation) → IsHistory set → (base op : Operation) → HasOp set op → is_made_upon base op ≡ true → is_before (stamp_of base) (stamp_of op) ≡ true
upon_before set h base op i u = split (list_any (has_stamp (inserted base)) (named op.body))
    (λ e. let (s, n, t) = some_named (has_stamp (inserted base)) (named op.body) e in
    let r = inserted_range base s t in
    before_named base op s r.site r.low (named_before op s (sound_in set h op i) n))
    (λ e. let a : ((base.site == op.site) && (last_count base == op.prev)) ≡ true = grind (arith, e, u) in
    let b : base.site ≡ op.site = grind (arith, nat_tests, a) in
    let c : last_count base ≡ op.prev = grind (arith, nat_tests, a) in
    before_site base op b (let g = last_ge base.count base.body in let p = bad_prev op (sound_in set h op i) in omega (arith, g, c, p)))

-- a list of operations, and then others
come_append : (set first xs ys : List Operation) → ComeInTime set first xs → ((seen : List Operation) → ((x : Operation) → (HasOp xs x ⊎ HasOp first x) → HasOp seen x) → ComeInTime set seen ys)
    → ComeInTime set first (xs ++ ys)
come_append set first [] ys h f = f first (λ x i. elim i [ inl j ↦ absurd j | inr j ↦ j ])
come_append set first (op ∷ xs) ys h f = (
  h.0,
  come_append set (op ∷ first) xs ys h.1
      (λ seen g. f seen (λ x i. elim i [ inl j ↦ elim j [ inl e ↦ g x (inr (inl e)) | inr k ↦ g x (inl k) ] | inr j ↦ g x (inr (inr j)) ])),
)

in_append : (xs ys : List Operation) (x : Operation) → HasOp xs x ⊎ HasOp ys x → HasOp (xs ++ ys) x
in_append [] ys x h = elim h [ inl i ↦ absurd i | inr j ↦ j ]
in_append (z ∷ xs) ys x h = elim h [
  | inl i ↦ elim i [ inl e ↦ inl e | inr j ↦ inr (in_append xs ys x (inl j)) ]
  | inr j ↦ inr (in_append xs ys x (inr j))
]

pub in_reverse : (xs : List Operation) (x : Operation) → HasOp xs x → HasOp (reverse xs) x
in_reverse [] x h = absurd h
in_reverse (z ∷ xs) x h = subst (λ l. HasOp l x) (sym (reverse-cons z xs)) (in_append (reverse xs) (z ∷ []) x (elim h [ inl e ↦ inr (inl e) | inr i ↦ inl (in_reverse xs x i) ]))

-- the older part of a history, which has whatever is before one of it
rising_part : (all set : List Operation) → IsHistory all → IsHistory set → ((x : Operation) → HasOp set x → HasOp all x)
    → ((base x : Operation) → HasOp all base → HasOp set x → is_before (stamp_of base) (stamp_of x) ≡ true → HasOp set base) → ComeInTime all [] (reverse set)
rising_part all [] h k sub closed = tt
rising_part all (op ∷ older) h k sub closed =
    let inner : ComeInTime all [] (reverse older) = rising_part all older h k.2 (λ x i. sub x (inr i))
    (λ base x i j b. elim (closed base x i (inr j) b) [
      | inr n ↦ n
      | inl e ↦ absurd (not_itself (stamp_of op) (before_trans (stamp_of op) (stamp_of x) (stamp_of op) (subst (λ o. is_before (stamp_of o) (stamp_of x) ≡ true) (sym e) b) (member_before op x older k.0 j)))
    ]) in
    let last : (seen : List Operation) → ((x : Operation) → (HasOp (reverse older) x ⊎ HasOp [] x) → HasOp seen x) → ComeInTime all seen (op ∷ []) = λ seen g. (
      λ base i u. (let b = upon_before all h base op (sub op (inl refl)) u in
          elim (closed base op i (inl refl) b) [
            | inr n ↦ g base (inl (in_reverse older base n))
            | inl e ↦ absurd (not_itself (stamp_of op) (subst (λ o. is_before (stamp_of o) (stamp_of op) ≡ true) (sym e) b))
          ]),
      tt,
    ) in
    subst (ComeInTime all []) (sym (reverse-cons op older)) (come_append all [] (reverse older) (op ∷ []) inner last)

pub rising : (set : List Operation) → IsHistory set → ComeInTime set [] (reverse set)
rising set h = rising_part set set h h (λ x i. i) (λ base x i j b. i)
