-- Operations that come in time are taken.
use Rattle.std.proofs.Common.{◌≡◌, ◌↔◌, ℕ, ◌<◌, ◌≤◌, Bool, true, false, ◌⊎◌, inl, inr, refl, sym, ap, subst, ◌∙◌, arith, List, [], ◌∷◌, ◌==◌, max}
use Rattle.std.proofs.lemmas.Bool.Decides.{nat_tests}
use Rattle.std.proofs.lemmas.Bool.{cases_lt}
use Rattle.std.specs.List.{AllByRecursion, list_any, list_all}
use Rattle.rt_stamps.specs.declared.stamp.Stamp.{Stamp}
use Rattle.rt_stamps.specs.Stamps.{is_same}
use Rattle.rt_stamps.proofs.Order.{same_from_true}
use Rattle.rt_ops.specs.Operations.{Operation, last_count, named, has_bad_stamp}
use Rattle.rt_oplog.specs.Logs.{HasOp, clash, holds, known_end}
use Rattle.rt_ops.specs.Rules.{keeps_rules}
use Rattle.rt_oplog.proofs.Sets.{any_at, any_from, has_held, has_with, with_has}
use Rattle.rt_rga.specs.Reading.{has_stamp}
use Rattle.rt_rga.specs.Histories.{Continues, IsHistory, has_character, inserted, is_known}
use Rattle.rt_rga.specs.Answers.{New, Repeat, all_taken, answer_to, set_after, taken}
use Rattle.rt_rga.specs.Orders.{ComeInTime, HasBasesIn, is_made_upon}
use Rattle.rt_rga.proofs.Skipping.{split}
use Rattle.rt_rga.proofs.Continuing.{IsKnown, all_at, known_all, known_from, names}
use Rattle.rt_rga.proofs.Histories.{history_with, known_weaker}
use Rattle.rt_rga.proofs.Accepting.{clash_from_end, end_of, free, new_if_continues, one_list, repeat_is, sound_in}
use Rattle.rt_rga.proofs.Chains.{by_sites}

-- MEMBERS

pub member_at : (P : Operation → Type 0) (set : List Operation) → AllByRecursion P set → (x : Operation) → HasOp set x → P x
member_at P [] h x i = absurd i
member_at P (q ∷ older) h x i = elim i [ inl e ↦ subst P e h.0 | inr j ↦ member_at P older h.1 x j ]

pub rules_in : (set : List Operation) → IsHistory set → (x : Operation) → HasOp set x → keeps_rules x.body ≡ true
rules_in set h x i = member_at (λ op. keeps_rules op.body ≡ true) set (by_sites set h).rules x i

pub known_in_set : (set : List Operation) → IsHistory set → (x : Operation) → HasOp set x → (s : Stamp) → names x.body s ≡ true → IsKnown set x.body s
known_in_set set h x i s n =
    known_from set x.body s (all_at (is_known set x.body) (named x.body) (member_at (λ op. list_all (is_known set op.body) (named op.body) ≡ true) set (by_sites set h).known x i) s n)

-- the Insert of a character, and the character of an Insert
pub insert_of : (set : List Operation) (s : Stamp) → has_character set s ≡ true → (x : Operation) × HasOp set x × (has_stamp (inserted x) s ≡ true)
insert_of set s h = any_from (λ op. has_stamp (inserted op) s) set h

pub character_of : (set : List Operation) (x : Operation) (s : Stamp) → HasOp set x → has_stamp (inserted x) s ≡ true → has_character set s ≡ true
character_of set x s i h = any_at (λ op. has_stamp (inserted op) s) set x i h

-- a site's known end is the last count of one of its operations
pub end_reached : (set : List Operation) (site : ℕ) → 0 < known_end set site → (x : Operation) × HasOp set x × (x.site ≡ site) × (last_count x ≡ known_end set site)
end_reached [] site h = absurd (omega arith)
end_reached (q ∷ older) site h = split (q.site == site)
    (λ e. let s : q.site ≡ site = grind (arith, nat_tests) in
    elim (cases_lt (last_count q) (known_end older site)) [
      | inl l ↦ (let (x, i, t, k) = end_reached older site (omega arith) in (x, inr i, t, k ∙ rw e (bigger (last_count q) (known_end older site) l)))
      | inr l ↦ (q, inl refl, s, rw e (lesser (last_count q) (known_end older site) l))
    ])
    (λ e. let (x, i, t, k) = end_reached older site (rw e at h) in (x, inr i, t, k ∙ rw e refl))
  where
    bigger : (a b : ℕ) → a < b → b ≡ max a b
    bigger a b l = omega arith

    lesser : (a b : ℕ) → b ≤ a → a ≡ max a b
    lesser a b l = omega arith

-- the previous operation of its site, for one that isn't the first
pub previous_of : (set : List Operation) → IsHistory set → (x : Operation) → HasOp set x → 0 < x.prev → (base : Operation) × HasOp set base × (base.site ≡ x.site) × (last_count base ≡ x.prev)
previous_of [] h x i p = absurd i
previous_of (q ∷ older) h x i p = elim i [
  | inl e ↦ (
      let E : q ≡ x = e in
      let o : 0 < known_end older q.site = (let a = h.1.prev in let b = ap (λ (o : Operation). o.prev) E in omega arith) in
      let (b, j, s, k) = end_reached older q.site o in
      (b, inr j, s ∙ ap (λ (o : Operation). o.site) E, k ∙ sym h.1.prev ∙ ap (λ (o : Operation). o.prev) E)
      )
  | inr j ↦ (let (b, k, s, l) = previous_of older h.2 x j p in (b, inr k, s, l))
]

-- ONE MORE

-- An operation that is new to a history continues it, if it is sound by itself, names what is known, its previous one is
-- there, and it clashes with none.
pub continues_free : (set : List Operation) (op : Operation) → IsHistory set → has_bad_stamp op ≡ false → keeps_rules op.body ≡ true
    → ((s : Stamp) → names op.body s ≡ true → IsKnown set op.body s) → op.prev ≤ known_end set op.site
    → ((r : Operation) → HasOp set r → clash op r ≡ false) → holds set op ≡ false → Continues set op
continues_free set op h a b k e f n = record {
  sound = a;
  rules = b;
  prev = elim (cases_lt op.prev (known_end set op.site)) [
    | inl l ↦ (
        let p : op.prev < op.count = grind (arith, nat_tests, a) in
        let c = clash_from_end set h op p n l in
        let (r, i, t) = any_from (clash op) set c in
        let u = f r i in absurd (cc (t, u))
        )
    | inr l ↦ omega (arith, l, e)
  ];
  known = known_all set op.body k;
}

pub end_from_base : (set : List Operation) (base op : Operation) → HasOp set base → base.site ≡ op.site → last_count base ≡ op.prev → op.prev ≤ known_end set op.site
end_from_base set base op i s l = let a = end_of set base i in let b = ap (known_end set) s in omega (arith, a, b, l)

-- of an operation of a history, in a smaller history that has its bases
upon_prev : (base op : Operation) → base.site ≡ op.site → last_count base ≡ op.prev → is_made_upon base op ≡ true
upon_prev base op s l =
    let a : (base.site == op.site) ≡ true = grind (arith, nat_tests) in
    let b : (last_count base == op.prev) ≡ true = grind (arith, nat_tests) in
    grind (arith, a, b)

pub any_named : (p : Stamp → Bool) (xs : List Stamp) (s : Stamp) → list_any (λ t. is_same t s) xs ≡ true → p s ≡ true → list_any p xs ≡ true
any_named p [] s h k = absurd (cc h)
any_named p (x ∷ xs) s h k = split (is_same x s)
    (λ e. let i : p x ≡ true = rw (same_from_true x s e) k in grind (arith, i))
    (λ e. let i = any_named p xs s (grind (arith, h, e)) k in grind (arith, i))

upon_named : (base op : Operation) (s : Stamp) → names op.body s ≡ true → has_stamp (inserted base) s ≡ true → is_made_upon base op ≡ true
upon_named base op s n h = let a = any_named (has_stamp (inserted base)) (named op.body) s n h in grind (arith, a)

pub in_time : (set older : List Operation) (op : Operation) → IsHistory set → IsHistory older → ((x : Operation) → HasOp older x → HasOp set x) → HasOp set op → HasBasesIn set op older
    → holds older op ≡ false → Continues older op
in_time set older op h o sub i bases n = continues_free older op o (sound_in set h op i) (rules_in set h op i)
    (λ s m. known_weaker set older op.body s (λ c. let (x, j, t) = insert_of set s c in character_of older x s (bases x j (upon_named x op s m t)) t) (known_in_set set h op i s m))
    (elim (cases_lt 0 op.prev) [
      | inl l ↦ (let (b, j, s, t) = previous_of set h op i l in end_from_base older b op (bases b j (upon_prev b op s t)) s t)
      | inr l ↦ omega (arith, l)
    ])
    (λ r j. free set h op r i (sub r j)) n

-- ALL

-- the members after an offer
pub members_after : (set : List Operation) (op x : Operation) → answer_to op set ≡ New → HasOp (taken op set) x ↔ (HasOp set x ⊎ (op ≡ x))
members_after set op x e = (
  λ h. elim (has_with op set x (subst (λ a. HasOp (set_after a op set) x) e h)) [ inl i ↦ inr i | inr j ↦ inl j ],
  λ h. subst (λ a. HasOp (set_after a op set) x) (sym e) (with_has op set x (elim h [ inl i ↦ inr i | inr j ↦ inl j ])),
)

pub repeat_after : (set : List Operation) (op : Operation) → answer_to op set ≡ Repeat → taken op set ≡ set
repeat_after set op e = ap (λ a. set_after a op set) e

-- an offer of an operation whose bases are there
pub record IsTaken (set older : List Operation) (op : Operation) : Type 0 where
  pub history : IsHistory (taken op older)
  pub members : (x : Operation) → HasOp (taken op older) x ↔ (HasOp older x ⊎ (op ≡ x))

pub one_taken : (set older : List Operation) (op : Operation) → IsHistory set → IsHistory older → ((x : Operation) → HasOp older x → HasOp set x) → HasOp set op → HasBasesIn set op older → IsTaken set older op
one_taken set older op h o sub i bases = split (holds older op)
    (λ e. let r = (repeat_is older op o).1 (has_held older op e) in
    let t = repeat_after older op r in record {
      history = subst IsHistory (sym t) o;
      members = λ x. (λ j. inl (subst (λ l. HasOp l x) t j), λ j. subst (λ l. HasOp l x) (sym t) (elim j [ inl k ↦ k | inr k ↦ subst (HasOp older) k (has_held older op e) ]));
    })
    (λ e. let k = in_time set older op h o sub i bases e in
    let n = new_if_continues older op o k in record {
      history = subst (λ a. IsHistory (set_after a op older)) (sym n) (history_with op older o k);
      members = λ x. members_after older op x n;
    })

pub record AreTaken (ops first result : List Operation) : Type 0 where
  pub history : IsHistory result
  pub members : (x : Operation) → HasOp result x ↔ (HasOp first x ⊎ HasOp ops x)

pub come : (set : List Operation) → IsHistory set → (ops first older : List Operation) → IsHistory older → ((x : Operation) → HasOp older x ↔ HasOp first x)
    → ((x : Operation) → HasOp first x → HasOp set x) → ((x : Operation) → HasOp ops x → HasOp set x) → ComeInTime set first ops → AreTaken ops first (all_taken ops older)
come set h [] first older o same a b t = record { history = o; members = λ x. (λ i. inl ((same x).0 i), λ i. elim i [ inl j ↦ (same x).1 j | inr j ↦ absurd j ]) }
come set h (op ∷ ops) first older o same a b t =
    let one = one_taken set older op h o (λ x i. a x ((same x).0 i)) (b op (inl refl)) (λ base i u. (same base).1 (t.0 base i u)) in
    let rest = come set h ops (op ∷ first) (taken op older) one.history
    (λ x. (λ i. elim ((one.members x).0 i) [ inl j ↦ inr ((same x).0 j) | inr e ↦ inl e ], λ i. (one.members x).1 (elim i [ inl e ↦ inr e | inr j ↦ inl ((same x).1 j) ])))
    (λ x i. elim i [ inl e ↦ b x (inl e) | inr j ↦ a x j ]) (λ x i. b x (inr i)) t.1 in
    record {
      history = rest.history;
      members = λ x. (
        λ i. elim ((rest.members x).0 i) [ inl j ↦ elim j [ inl e ↦ inr (inl e) | inr k ↦ inl k ] | inr j ↦ inr (inr j) ],
        λ i. (rest.members x).1 (elim i [ inl k ↦ inl (inr k) | inr j ↦ elim j [ inl e ↦ inl (inl e) | inr k ↦ inr k ] ]),
      );
    }

pub come_in_time : (set first ops : List Operation) → IsHistory set → IsHistory first → ((x : Operation) → HasOp first x → HasOp set x) → ((x : Operation) → HasOp ops x → HasOp set x)
    → ComeInTime set first ops → AreTaken ops first (all_taken ops first)
come_in_time set first ops h o a b t = come set h ops first first o (λ x. (λ i. i, λ i. i)) a b t

-- where they are the rest of the history, it is what they make
pub whole : (set first ops : List Operation) → IsHistory set → IsHistory first → ((x : Operation) → HasOp set x ↔ (HasOp first x ⊎ HasOp ops x)) → ComeInTime set first ops → all_taken ops first ≡ set
whole set first ops h o same t =
    let r = come_in_time set first ops h o (λ x i. (same x).1 (inl i)) (λ x i. (same x).1 (inr i)) t in
    one_list (all_taken ops first) set r.history h (λ x. (λ i. (same x).1 ((r.members x).0 i), λ i. (r.members x).1 ((same x).0 i)))
