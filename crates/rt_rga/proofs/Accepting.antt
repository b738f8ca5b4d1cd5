-- What is answered to an operation.
use Rattle.std.proofs.Common.{Ok, ◌↔◌, ◌≡◌, ℕ, ◌<◌, ◌≤◌, Bool, true, false, not, ◌⊎◌, inl, inr, refl, sym, ap, subst, ◌∙◌, arith, List, [], ◌∷◌, cond, ◌||◌, ◌&&◌, ◌==◌, nat_lt, max}
use Rattle.std.proofs.lemmas.Bool.Decides.{nat_tests}
use Rattle.std.proofs.lemmas.Bool.{cases_lt}
use Rattle.std.specs.List.{AllByRecursion, list_any, list_all}
use Rattle.rt_stamps.specs.declared.stamp.Stamp.{Stamp}
use Rattle.rt_stamps.specs.declared.fault.Fault.TheVariants.{BadStamp, Conflict, NotYet, BadTarget}
use Rattle.rt_ops.specs.Operations.{Operation, Body, Insert, Delete, Tag, last_count, named, has_bad_stamp}
use Rattle.rt_oplog.specs.Logs.{AreOf, HasOp, IsFalling, IsLog, clash, holds, known_end, pushed, reaches_into, same_operation, with_operation}
use Rattle.rt_ops.specs.Rules.{keeps_rules}
use Rattle.rt_oplog.proofs.Sets.{any_at, any_from, clash_self, clash_sym, has_held, held_from, none_at as no_op_at, operation_sym, same_set}
use Rattle.rt_rga.specs.Histories.{has_character, may_name, is_known, Continues, IsHistory}
use Rattle.rt_rga.specs.Answers.{Answer, New, Repeat, Refused, can_never_be_known, answer_to, set_after, taken, all_taken}
use Rattle.rt_rga.proofs.Skipping.{split}
use Rattle.rt_rga.proofs.Continuing.{none_from, IsKnown, knows, sound_of}
use Rattle.rt_rga.proofs.Histories.{history_with, continues_from, character_site, end_own, end_kept, last_ge}

-- a choice that came out New passed the test
pub passed : (b : Bool) (x rest : Answer) → (x ≡ New → ⊥) → cond b x rest ≡ New → (b ≡ false) × (rest ≡ New)
passed true x rest n h = absurd (n h)
passed false x rest n h = (refl, h)

pub known_site : (older : List Operation) (body : Body) (s : Stamp) → IsKnown older body s → (has_character older s ≡ true) ⊎ ((may_name body s ≡ true) × (s.site ≡ 0))
known_site older (Insert after tags text) s h = elim h [ inl k ↦ inl k | inr k ↦ inr (rw k refl, ap (λ t. t.site) k) ]
known_site older (Delete spans) s h = inl h
known_site older (Tag on name spans) s h = elim h [ inl k ↦ inl k | inr k ↦ inr (rw k refl, ap (λ t. t.site) k) ]

target_to : (older : List Operation) (op : Operation) (s : Stamp) → IsHistory older → (has_character older s ≡ true) ⊎ ((may_name op.body s ≡ true) × (s.site ≡ 0)) → can_never_be_known older op s ≡ false
target_to older op s h k = elim k [
  | inl m ↦ (let i = character_site older h s m in let j : (s.site == 0) ≡ false = grind (arith, nat_tests) in rw (j, m) refl)
  | inr r ↦ (let m = r.0 in let j : (s.site == 0) ≡ true = grind (arith, nat_tests, r.1) in rw (j, m) refl)
]

pub held_end : (older : List Operation) (op : Operation) → holds older op ≡ true → op.count ≤ known_end older op.site
held_end [] op h = absurd (cc h)
held_end (q ∷ older) op h = split (same_operation q op)
    (λ e. let i : q.count ≡ op.count = grind (arith, nat_tests) in
    let j : (q.site == op.site) ≡ true = grind (arith, nat_tests) in
    omega (arith, end_own q op.site (known_end older op.site) j, last_ge q.count q.body))
    (λ e. end_kept q op.site op.count (known_end older op.site) (held_end older op (grind (arith, h, e))))

-- New is answered to an operation that continues the history, and to no other.
pub continues_if_new : (older : List Operation) (op : Operation) → keeps_rules op.body ≡ true → answer_to op older ≡ New → Continues older op
continues_if_new older op t h =
    let (a, h1) = passed (has_bad_stamp op) (Refused BadStamp) _ (λ e. cc e) h in
    let (b, h2) = passed (holds older op) Repeat _ (λ e. cc e) h1 in
    let (c, h3) = passed (nat_lt op.prev (known_end older op.site)) (Refused Conflict) _ (λ e. cc e) h2 in
    let (d, h4) = passed (nat_lt (known_end older op.site) op.prev) (Refused NotYet) _ (λ e. cc e) h3 in
    let (e, h5) = passed (list_any (can_never_be_known older op) (named op.body)) (Refused BadTarget) _ (λ e. cc e) h4 in
    let (f, h6) = passed (not (list_all (is_known older op.body) (named op.body))) (Refused NotYet) New (λ e. cc e) h5 in
    record {
      sound = a;
      rules = t;
      prev = grind (arith, nat_tests, c, d);
      known = grind (arith, f);
    }

pub not_held : (older : List Operation) (op : Operation) → Continues older op → holds older op ≡ false
not_held older op k = split (holds older op) (λ e. absurd (omega (arith, held_end older op e, k.prev, (sound_of k).prev))) (λ e. e)

pub new_if_continues : (older : List Operation) (op : Operation) → IsHistory older → Continues older op → answer_to op older ≡ New
new_if_continues older op h k =
    let a = k.sound in
    let b = not_held older op k in
    let c : nat_lt op.prev (known_end older op.site) ≡ false = grind (arith, nat_tests, k.prev) in
    let d : nat_lt (known_end older op.site) op.prev ≡ false = grind (arith, nat_tests, k.prev) in
    let e : list_any (can_never_be_known older op) (named op.body) ≡ false = none_from (can_never_be_known older op) (named op.body) (λ s i. target_to older op s h (known_site older op.body s (knows k s i))) in
    let f : list_all (is_known older op.body) (named op.body) ≡ true = k.known in
    rw (a, b, c, d, e, f) refl

pub history_if_new : (older : List Operation) (op : Operation) → IsHistory older → keeps_rules op.body ≡ true → answer_to op older ≡ New → IsHistory (with_operation op older)
history_if_new older op h t e = history_with op older h (continues_if_new older op t e)

pub new_if_history : (older : List Operation) (op : Operation) → IsHistory older → IsHistory (with_operation op older) → answer_to op older ≡ New
new_if_history older op h w = new_if_continues older op h (continues_from op older h w)

-- WHOLE RUNS

pub taken_history : (a : Answer) (op : Operation) (set : List Operation) → IsHistory set → (a ≡ New → IsHistory (with_operation op set)) → IsHistory (set_after a op set)
taken_history New op set h k = k refl
taken_history Repeat op set h k = h
taken_history (Refused fault) op set h k = h

pub run_history : (ops : List Operation) → AllByRecursion (λ op. keeps_rules op.body ≡ true) ops → (set : List Operation) → IsHistory set → IsHistory (all_taken ops set)
run_history [] t set h = h
run_history (op ∷ ops) t set h = run_history ops t.1 (taken op set) (taken_history (answer_to op set) op set h (history_if_new set op h t.0))

-- A HISTORY IS A LOG

pub falling : (set : List Operation) → IsHistory set → IsFalling set
falling [] h = tt
falling (op ∷ older) h = (h.0, falling older h.2)

pub sound_in : (set : List Operation) → IsHistory set → (x : Operation) → HasOp set x → has_bad_stamp x ≡ false
sound_in [] h x i = absurd i
sound_in (q ∷ older) h x i = elim i [ inl e ↦ subst (λ (y : Operation). has_bad_stamp y ≡ false) e h.1.sound | inr j ↦ sound_in older h.2 x j ]

first_end : (q : Operation) (rest : ℕ) → last_count q ≤ cond (q.site == q.site) (max (last_count q) rest) rest
first_end q rest = grind (arith, nat_tests)

pub end_of : (set : List Operation) (x : Operation) → HasOp set x → last_count x ≤ known_end set x.site
end_of [] x i = absurd i
end_of (q ∷ older) x i = elim i [
  | inl e ↦ subst (λ (y : Operation). last_count y ≤ known_end (q ∷ older) y.site) e (first_end q (known_end older q.site))
  | inr j ↦ end_kept q x.site (last_count x) (known_end older x.site) (end_of older x j)
]

-- an operation clashes with none of those that it continues
clash_apart : (p q : Operation) (b : Bool) → ((p.site == q.site) ≡ true → last_count q < p.count) → ((p.site == q.site) ≡ true → last_count q ≤ p.prev) → (not b && (reaches_into p q || reaches_into q p)) ≡ false
clash_apart p q b h k = split (p.site == q.site)
    (λ e. let i = h e in let j = k e in let l = last_ge q.count q.body in let m : (q.site == p.site) ≡ true = grind (arith, nat_tests) in grind (arith, nat_tests))
    (λ e. let m : (q.site == p.site) ≡ false = grind (arith, nat_tests) in grind (arith, e, m))

clash_none : (older : List Operation) (p : Operation) → Continues older p → (x : Operation) → HasOp older x → clash p x ≡ false
clash_none older p k x i =
    let l : (p.site == x.site) ≡ true → last_count x ≤ p.prev = λ e. let s : x.site ≡ p.site = grind (arith, nat_tests) in let j = ap (known_end older) s in omega (arith, end_of older x i, k.prev, j) in
    clash_apart p x (same_operation p x) (λ e. omega (arith, l e, (sound_of k).prev)) l

pub free : (set : List Operation) → IsHistory set → (p q : Operation) → HasOp set p → HasOp set q → clash p q ≡ false
free [] h p q i j = absurd i
free (x ∷ older) h p q i j = elim i [
  | inl e ↦ elim j [
    | inl f ↦ subst (λ (y : Operation). clash y q ≡ false) e (subst (λ (y : Operation). clash x y ≡ false) f (clash_self x))
    | inr m ↦ subst (λ (y : Operation). clash y q ≡ false) e (clash_none older x h.1 q m)
  ]
  | inr n ↦ elim j [
    | inl f ↦ subst (λ (y : Operation). clash p y ≡ false) f (clash_sym p x ∙ clash_none older x h.1 p n)
    | inr m ↦ free older h.2 p q n m
  ]
]

pub log_of : (set : List Operation) → IsHistory set → IsLog set
log_of set h = record { falling = falling set h; sound = sound_in set h; free = free set h }

-- CONFLICT IS A CLASH

-- an operation whose counts a history has passed overlaps one of it
passed_by : (set : List Operation) → IsHistory set → (x : Operation) → x.prev < known_end set x.site
    → (r : Operation) × HasOp set r × (r.site ≡ x.site) × (x.prev < last_count r) × (r.prev ≤ x.prev)
passed_by [] h x l = absurd (omega arith)
passed_by (q ∷ older) h x l = elim (cases_lt x.prev (known_end older x.site)) [
  | inl m ↦ (let (r, i, s, a, b) = passed_by older h.2 x m in (r, inr i, s, a, b))
  | inr n ↦ split (q.site == x.site)
      (λ e. let s : q.site ≡ x.site = grind (arith, nat_tests) in
      (q, inl refl, s, newer q x (known_end older x.site) e n l, (let k = h.1.prev in let j = ap (known_end older) s in omega (arith, k, j))))
      (λ e. absurd (let j : x.prev < known_end older x.site = rw e at l in omega arith))
]
  where
    newer : (q x : Operation) (rest : ℕ) → (q.site == x.site) ≡ true → rest ≤ x.prev → x.prev < cond (q.site == x.site) (max (last_count q) rest) rest → x.prev < last_count q
    newer q x rest e n l = grind (arith, e)

pub clash_from_end : (set : List Operation) → IsHistory set → (op : Operation) → op.prev < op.count → holds set op ≡ false → op.prev < known_end set op.site → list_any (clash op) set ≡ true
clash_from_end set h op p n l =
    let (r, i, s, a, b) = passed_by set h op l in
    let d : same_operation op r ≡ false = operation_sym op r ∙ no_op_at (λ q. same_operation q op) set r n i in
    let g = last_ge op.count op.body in
    any_at (clash op) set r i (elim (cases_lt op.count r.count) [
      | inl m ↦ (let t : reaches_into op r ≡ true = grind (arith, nat_tests) in grind (arith, d, t))
      | inr m ↦ (let t : reaches_into r op ≡ true = grind (arith, nat_tests) in grind (arith, d, t))
    ])

pub end_from_clash : (set : List Operation) (op : Operation) → op.prev < op.count → list_any (clash op) set ≡ true → op.prev < known_end set op.site
end_from_clash set op p c =
    let (r, i, t) = any_from (clash op) set c in
    let e = end_of set r i in
    let g = last_ge r.count r.body in
    let k : r.site ≡ op.site = grind (arith, nat_tests) in
    let f = ap (known_end set) k in
    let l : op.prev < last_count r = grind (arith, nat_tests) in
    omega arith

-- of a sound operation that the history hasn't, Conflict is answered just where one of the history clashes with it
pub conflict_is : (set : List Operation) (op : Operation) → IsHistory set → has_bad_stamp op ≡ false → holds set op ≡ false → nat_lt op.prev (known_end set op.site) ≡ list_any (clash op) set
conflict_is set op h a n =
    let p : op.prev < op.count = grind (arith, nat_tests) in
    split (list_any (clash op) set)
    (λ e. let l = end_from_clash set op p e in grind (arith, nat_tests, e))
    (λ e. split (nat_lt op.prev (known_end set op.site))
    (λ f. absurd (let g : op.prev < known_end set op.site = grind (arith, nat_tests) in let c = clash_from_end set h op p n g in cc (c, e)))
    (λ f. f ∙ sym e))

-- WHAT IS ANSWERED

repeat_tests : (b h c d e f : Bool) → cond b (Refused BadStamp) (cond h Repeat (cond c (Refused Conflict) (cond d (Refused NotYet) (cond e (Refused BadTarget) (cond f (Refused NotYet) New))))) ≡ Repeat → h ≡ true
repeat_tests true h c d e f k = absurd (cc k)
repeat_tests false true c d e f k = refl
repeat_tests false false true d e f k = absurd (cc k)
repeat_tests false false false true e f k = absurd (cc k)
repeat_tests false false false false true f k = absurd (cc k)
repeat_tests false false false false false true k = absurd (cc k)
repeat_tests false false false false false false k = absurd (cc k)

conflict_tests : (b h c d e f : Bool) → cond b (Refused BadStamp) (cond h Repeat (cond c (Refused Conflict) (cond d (Refused NotYet) (cond e (Refused BadTarget) (cond f (Refused NotYet) New))))) ≡ Refused Conflict → c ≡ true
conflict_tests true h c d e f k = absurd (cc k)
conflict_tests false true c d e f k = absurd (cc k)
conflict_tests false false true d e f k = refl
conflict_tests false false false true e f k = absurd (cc k)
conflict_tests false false false false true f k = absurd (cc k)
conflict_tests false false false false false true k = absurd (cc k)
conflict_tests false false false false false false k = absurd (cc k)

pub repeat_is : (set : List Operation) (op : Operation) → IsHistory set → (answer_to op set ≡ Repeat) ↔ HasOp set op
repeat_is set op h = (
  λ k. has_held set op (repeat_tests (has_bad_stamp op) (holds set op) (nat_lt op.prev (known_end set op.site)) (nat_lt (known_end set op.site) op.prev) (list_any (can_never_be_known set op) (named op.body)) (not (list_all (is_known set op.body) (named op.body))) k),
  λ i. let a = sound_in set h op i in let b = held_from set op i in rw (a, b) refl,
)

pub conflict_answer : (set : List Operation) (op : Operation) → IsHistory set → has_bad_stamp op ≡ false → (HasOp set op → ⊥) → (answer_to op set ≡ Refused Conflict) ↔ (list_any (clash op) set ≡ true)
conflict_answer set op h a n =
    let b : holds set op ≡ false = split (holds set op) (λ e. absurd (n (has_held set op e))) (λ e. e) in
    let c = conflict_is set op h a b in (
      λ k. sym c ∙ conflict_tests (has_bad_stamp op) (holds set op) (nat_lt op.prev (known_end set op.site)) (nat_lt (known_end set op.site) op.prev) (list_any (can_never_be_known set op) (named op.body)) (not (list_all (is_known set op.body) (named op.body))) k,
      λ k. let d : nat_lt op.prev (known_end set op.site) ≡ true = c ∙ k in rw (a, b, d) refl,
    )

pub one_list : (one other : List Operation) → IsHistory one → IsHistory other → AreOf one other → one ≡ other
one_list one other h k f = same_set one other (falling one h) (falling other k) f

-- a log takes an operation that continues it
pub push_continues : (set : List Operation) (op : Operation) → IsHistory set → Continues set op → pushed op set ≡ Ok (with_operation op set)
push_continues set op h k =
    let a = k.sound in
    let b = not_held set op k in
    let c : list_any (clash op) set ≡ false = sym (conflict_is set op h a b) ∙ grind (arith, nat_tests, k.prev) in
    rw (a, b, c) refl
