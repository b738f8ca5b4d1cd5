-- What a site keeps to, whatever it is asked.
use Rattle.std.proofs.Common.{◌≡◌, ℕ, suc, ◌<◌, ◌≤◌, Bool, true, false, not, ◌⊎◌, inl, inr, refl, sym, ap, subst, ◌∙◌, arith, List, [], ◌∷◌, cond, ◌&&◌, ◌||◌, length, nat_le}
use Rattle.std.proofs.lemmas.Bool.Decides.{nat_tests}
use Rattle.rt_stamps.specs.declared.fault.Fault.{Fault}
use Rattle.rt_stamps.specs.declared.fault.Fault.TheVariants.{WaitingFull}
use Rattle.std.specs.List.{AllByRecursion}
use Rattle.rt_stamps.specs.Stamps.{is_before}
use Rattle.rt_ops.specs.Operations.{Body, Operation, stamp_of}
use Rattle.rt_ops.specs.Rules.{keeps_rules}
use Rattle.rt_oplog.specs.Logs.{HasOp, holds, same_operation}
use Rattle.rt_oplog.proofs.Sets.{has_held, operation_sym}
use Rattle.rt_rga.specs.Answers.{Answer, New, Repeat, Refused, answer_within}
use Rattle.rt_rga.specs.Cells.{cells_of}
use Rattle.rt_rga.specs.Drafts.{with_drafts}
use Rattle.rt_rga.specs.Histories.{IsHistory}
use Rattle.rt_rga.specs.Requests.{MayBeAsked, Make, Offer, ReplicaRequest, fit}
use Rattle.rt_rga.proofs.Skipping.{split}
use Rattle.rt_rga.proofs.Orders.{rules_in}
use Rattle.rt_rga.proofs.Room.{taken_within}
use Rattle.rt_holding.specs.Replies.{Reply}
use Rattle.rt_holding.specs.Replies as replies
use Rattle.rt_holding.specs.declared.held.TheConstants.{MOST_HELD}
use Rattle.rt_holding.specs.Holding.{Holding, Settles, after_answer, has_no_room, hold, is_early, is_full, is_new, no_more_held, put_held, reply_for, reply_to, rest, takes, drops, lacks, stays, waits, with_taken, without_op}
use Rattle.rt_holding.specs.Runs.{IsHolding, Leads, NoneFalls, NoneTwice, before_tries}
use Rattle.rt_holding.proofs.Keeping.{AccountsFor, dropped_is, dropped_kept, is_new_true, kept_but, left_not, next_is, taken_kept}
use Rattle.rt_holding.proofs.Arriving.{Bringing, Keeps, first_kept, leads_keeps}
use Rattle.rt_holding.proofs.Settling.{without_le}

-- FEW, ONCE, AND ROOM

record IsNeat (limit : ℕ) (s : Holding) : Type 0 where
  room : length (cells_of s.log) ≤ limit
  few : length s.held ≤ MOST_HELD
  once : NoneTwice s.held
  order : NoneFalls s.held

not_there : (op x : Operation) (held : List Operation) → holds held x ≡ false → holds (without_op op held) x ≡ false
not_there op x [] h = refl
not_there op x (q ∷ held) h =
    let i = not_there op x held (grind (arith, h)) in
    (elim (not (same_operation q op)) as (λ t. holds (cond t (q ∷ without_op op held) (without_op op held)) x ≡ false) [
      | true ↦ grind (arith, h, i)
      | false ↦ i
    ])

pub without_once : (op : Operation) (held : List Operation) → NoneTwice held → NoneTwice (without_op op held)
without_once op [] o = tt
without_once op (q ∷ held) o = elim (not (same_operation q op)) as (λ t. NoneTwice (cond t (q ∷ without_op op held) (without_op op held))) [
  | true ↦ (not_there op q held o.0, without_once op held o.1)
  | false ↦ without_once op held o.1
]

put_there : (op x : Operation) (held : List Operation) → holds held x ≡ false → same_operation op x ≡ false → holds (put_held op held) x ≡ false
put_there op x [] h e = grind (arith, e)
put_there op x (q ∷ held) h e =
    let i = put_there op x held (grind (arith, h)) e in
    elim (is_before (stamp_of op) (stamp_of q)) as (λ t. holds (cond t (op ∷ (q ∷ held)) (q ∷ put_held op held)) x ≡ false) [
      | true ↦ grind (arith, h, e)
      | false ↦ grind (arith, h, i)
    ]

pub put_once : (op : Operation) (held : List Operation) → holds held op ≡ false → NoneTwice held → NoneTwice (put_held op held)
put_once op [] h o = (refl, tt)
put_once op (q ∷ held) h o =
    let e : same_operation q op ≡ false = grind (arith, h) in
    let i = put_there op q held o.0 (operation_sym op q ∙ e) in
    let r = put_once op held (grind (arith, h)) o.1 in
    elim (is_before (stamp_of op) (stamp_of q)) as (λ t. NoneTwice (cond t (op ∷ (q ∷ held)) (q ∷ put_held op held))) [
      | true ↦ (h, o)
      | false ↦ (i, r)
    ]

pub length_put : (op : Operation) (held : List Operation) → length (put_held op held) ≡ suc (length held)
length_put op [] = refl
length_put op (q ∷ held) = elim (is_before (stamp_of op) (stamp_of q)) as (λ t. length (cond t (op ∷ (q ∷ held)) (q ∷ put_held op held)) ≡ suc (suc (length held))) [
  | true ↦ refl
  | false ↦ ap suc (length_put op held)
]

-- BY RISING STAMP

pub none_before : (p q : Operation) (held : List Operation) → is_before (stamp_of p) (stamp_of q) ≡ true → AllByRecursion (λ later. is_before (stamp_of later) (stamp_of q) ≡ false) held
    → AllByRecursion (λ later. is_before (stamp_of later) (stamp_of p) ≡ false) held
none_before p q [] e a = tt
none_before p q (r ∷ held) e a = let i = a.0 in (grind (arith, nat_tests), none_before p q held e a.1)

pub without_all : (P : Operation → Type 0) (op : Operation) (held : List Operation) → AllByRecursion P held → AllByRecursion P (without_op op held)
without_all P op [] a = tt
without_all P op (q ∷ held) a = elim (not (same_operation q op)) as (λ t. AllByRecursion P (cond t (q ∷ without_op op held) (without_op op held))) [
  | true ↦ (a.0, without_all P op held a.1)
  | false ↦ without_all P op held a.1
]

pub without_order : (op : Operation) (held : List Operation) → NoneFalls held → NoneFalls (without_op op held)
without_order op [] o = tt
without_order op (q ∷ held) o = elim (not (same_operation q op)) as (λ t. NoneFalls (cond t (q ∷ without_op op held) (without_op op held))) [
  | true ↦ (without_all (λ later. is_before (stamp_of later) (stamp_of q) ≡ false) op held o.0, without_order op held o.1)
  | false ↦ without_order op held o.1
]

pub put_all : (P : Operation → Type 0) (op : Operation) (held : List Operation) → P op → AllByRecursion P held → AllByRecursion P (put_held op held)
put_all P op [] p a = (p, tt)
put_all P op (q ∷ held) p a = elim (is_before (stamp_of op) (stamp_of q)) as (λ t. AllByRecursion P (cond t (op ∷ (q ∷ held)) (q ∷ put_held op held))) [
  | true ↦ (p, a)
  | false ↦ (a.0, put_all P op held p a.1)
]

pub put_order : (op : Operation) (held : List Operation) → NoneFalls held → NoneFalls (put_held op held)
put_order op [] o = (tt, tt)
put_order op (q ∷ held) o =
    (elim (is_before (stamp_of op) (stamp_of q)) as (λ t. is_before (stamp_of op) (stamp_of q) ≡ t → NoneFalls (cond t (op ∷ (q ∷ held)) (q ∷ put_held op held))) [
      | true ↦ λ e. (((let i = e in grind (arith, nat_tests)), none_before op q held e o.0), o)
      | false ↦ λ e. (put_all (λ later. is_before (stamp_of later) (stamp_of q) ≡ false) op held e o.0, put_order op held o.1)
    ]) refl

neat_taken : (limit : ℕ) (op : Operation) (s : Holding) → IsHistory s.log → keeps_rules op.body ≡ true → is_new (answer_within limit op s.log) ≡ true → IsNeat limit s → IsNeat limit (with_taken op s)
neat_taken limit op s h r e n = record {
  room = ((taken_within s.log op limit h r).0 (is_new_true (answer_within limit op s.log) e)).1;
  few = (let l = without_le op s.held in let m = n.few in omega (arith, l, m));
  once = without_once op s.held n.once;
  order = without_order op s.held n.order;
}

neat_dropped : (limit : ℕ) (op : Operation) (s : Holding) → IsNeat limit s → IsNeat limit (no_more_held op s)
neat_dropped limit op s n = record {
  room = n.room;
  few = (let l = without_le op s.held in let m = n.few in omega (arith, l, m));
  once = without_once op s.held n.once;
  order = without_order op s.held n.order;
}

settles_neat : (limit : ℕ) (came : Operation → Type 0) (wanting : List Operation) (s t : Holding) (more : List Operation) → Settles limit wanting s t more → AccountsFor came s → IsNeat limit s → IsNeat limit t
settles_neat limit came wanting s t more (rest e) k n = n
settles_neat limit came wanting s t more (takes {more = later} {op = op} e m r) k n =
    let i = k.held op (next_is limit wanting s op e).0 in
    settles_neat limit came wanting (with_taken op s) t later r (taken_kept limit op came s i m (kept_but op came s k)) (neat_taken limit op s k.history (k.rules op i) m n)
settles_neat limit came wanting s t more (drops {op = op} e m r) k n =
    settles_neat limit came wanting (no_more_held op s) t more r
    (dropped_kept op came s
    (dropped_is limit op s.log k.history m (left_not (is_new (answer_within limit op s.log)) (stays (answer_within limit op s.log)) (holds wanting op) (next_is limit wanting s op e).1))
    (kept_but op came s k))
    (neat_dropped limit op s n)
settles_neat limit came wanting s t more (lacks {op = op} e m r) k n = settles_neat limit came (op ∷ wanting) s t more r k n

neat_held : (limit : ℕ) (op : Operation) (s : Holding) → IsNeat limit s → IsNeat limit (hold op s)
neat_held limit op s n = split (holds s.held op)
    (λ h. let q : hold op s ≡ s = rw h refl in subst (IsNeat limit) (sym q) n)
    (λ h. split (is_full s.held)
    (λ g. let q : hold op s ≡ s = rw (h, g) refl in subst (IsNeat limit) (sym q) n)
    (λ g. let q : hold op s ≡ record { log = s.log; held = put_held op s.held } = rw (h, g) refl in
    subst (IsNeat limit) (sym q) (record {
      room = n.room;
      few = (let l = length_put op s.held in let m : nat_le MOST_HELD (length s.held) ≡ false = g in below (length s.held) (length (put_held op s.held)) l m);
      once = put_once op s.held h n.once;
      order = put_order op s.held n.order;
    })))
  where
    below : (a b : ℕ) → b ≡ suc a → nat_le MOST_HELD a ≡ false → b ≤ MOST_HELD
    below a b l m = grind (arith, nat_tests)

neat_offer : (limit : ℕ) (a : Answer) (op : Operation) (s : Holding) → (is_new a ≡ true → IsNeat limit (with_taken op s)) → IsNeat limit s → IsNeat limit (after_answer a op s)
neat_offer limit a op s w n = split (is_new a)
    (λ e. let q : after_answer a op s ≡ with_taken op s = rw e refl in subst (IsNeat limit) (sym q) (w e))
    (λ e. split (is_early a)
    (λ f. let q : after_answer a op s ≡ hold op s = rw (e, f) refl in subst (IsNeat limit) (sym q) (neat_held limit op s n))
    (λ f. split (has_no_room a)
    (λ g. let q : after_answer a op s ≡ s = rw (e, f, g) refl in subst (IsNeat limit) (sym q) n)
    (λ g. let q : after_answer a op s ≡ no_more_held op s = rw (e, f, g) refl in subst (IsNeat limit) (sym q) (neat_dropped limit op s n))))

neat_drafts : (site limit : ℕ) (drafts : List Body) (s : Holding) → IsNeat limit s
    → IsNeat limit (cond (fit site limit drafts s.log) (record { log = with_drafts site drafts s.log; held = s.held }) s)
neat_drafts site limit drafts s n = split (fit site limit drafts s.log)
    (λ e. rw e (record { room = within _ (length (cells_of (with_drafts site drafts s.log))) e; few = n.few; once = n.once; order = n.order }))
    (λ e. rw e n)
  where
    within : (a : Bool) (l : ℕ) → (a && nat_le l limit) ≡ true → l ≤ limit
    within true l e = grind (arith, nat_tests, e)
    within false l e = absurd (cc e)

first_neat : (site limit : ℕ) (request : ReplicaRequest) (s : Holding) → IsHistory s.log → MayBeAsked site s.log request → IsNeat limit s → IsNeat limit (before_tries site limit request s)
first_neat site limit (Offer op) s h m n = neat_offer limit (answer_within limit op s.log) op s (λ e. neat_taken limit op s h m e n) n
first_neat site limit (Make drafts) s h m n = neat_drafts site limit drafts s n

leads_neat : (site limit : ℕ) (request : ReplicaRequest) (came : Operation → Type 0) (s t : Holding) (more : List Operation) → 0 < site → MayBeAsked site s.log request
    → Leads site limit request s t more → AccountsFor came s → IsNeat limit s → IsNeat limit t
leads_neat site limit request came s t more p m l k n =
    let f = first_neat site limit request s k.history m n in
    elim l [
      | inl a ↦ settles_neat limit (Bringing came site limit request s) [] (before_tries site limit request s) t more a.1 (first_kept site limit request came s p m k) f
      | inr a ↦ subst (IsNeat limit) (sym a.1) f
    ]

-- WHAT A SITE KEEPS TO

abbrev Known : Holding → Operation → Type 0
Known s x = HasOp s.log x ⊎ HasOp s.held x

holding_keeps : (limit : ℕ) (s : Holding) → IsHolding limit s → Keeps limit (Known s) s
holding_keeps limit s h = record {
  kept = record {
    history = h.history;
    rules = λ x i. elim i [ inl j ↦ rules_in s.log h.history x j | inr j ↦ h.rules x j ];
    log = λ x i. inl i;
    held = λ x i. inr i;
    each = λ x i. elim i [ inl j ↦ inl j | inr j ↦ inr (inl j) ];
  };
  late = h.waiting;
}

pub requests_keep : (site limit : ℕ) (request : ReplicaRequest) (s t : Holding) (more : List Operation) → 0 < site → IsHolding limit s → MayBeAsked site s.log request
    → Leads site limit request s t more → IsHolding limit t
requests_keep site limit request s t more p h m l =
    let k = holding_keeps limit s h in
    let r = leads_keeps site limit request (Known s) s t more p m l k in
    let n = leads_neat site limit request (Known s) s t more p m l k.kept (record { room = h.room; few = h.few; once = h.once; order = h.order }) in
    record {
      history = r.kept.history;
      room = n.room;
      few = n.few;
      once = n.once;
      order = n.order;
      rules = λ x i. r.kept.rules x (r.kept.held x i);
      waiting = r.late;
    }

-- WHAT CHANGES NOTHING

pub without_none : (op : Operation) (held : List Operation) → holds held op ≡ false → without_op op held ≡ held
without_none op [] h = refl
without_none op (q ∷ held) h =
    let e : same_operation q op ≡ false = grind (arith, h) in
    let i = without_none op held (grind (arith, h)) in
    rw e (ap (λ l. q ∷ l) i)

-- one that would be dropped isn't held
not_held : (limit : ℕ) (op : Operation) (s : Holding) → IsHolding limit s → is_new (answer_within limit op s.log) ≡ false → stays (answer_within limit op s.log) ≡ false → no_more_held op s ≡ s
not_held limit op s h e f = ap (λ l. record { log = s.log; held = l }) (without_none op s.held (split (holds s.held op)
    (λ i. absurd (let w : waits (answer_within limit op s.log) ≡ true = h.waiting op (has_held s.held op i) in neither (is_new (answer_within limit op s.log)) (stays (answer_within limit op s.log)) e f w))
    (λ i. i)))
  where
    neither : (a b : Bool) → a ≡ false → b ≡ false → (a || b) ≡ true → ⊥
    neither true b e f w = cc e
    neither false true e f w = cc f
    neither false false e f w = cc w

reply_new : (a : Answer) (op : Operation) (held : List Operation) → is_new a ≡ true → reply_for a op held ≡ replies.New
reply_new New op held e = refl
reply_new Repeat op held e = absurd (cc e)
reply_new (Refused fault) op held e = absurd (cc e)

-- held neither before nor after
abbrev IsHeld : Reply → Type 0
IsHeld reply = reply ≡ replies.Held

early_reply : (a : Answer) (op : Operation) (held : List Operation) → is_early a ≡ true
    → reply_for a op held ≡ cond (holds held op) replies.Repeat (cond (is_full held) (replies.Refused WaitingFull) replies.Held)
early_reply a op held e = rw e refl

-- what is neither taken nor held leaves all as it was
left : (limit : ℕ) (op : Operation) (s : Holding) → IsHolding limit s → is_new (answer_within limit op s.log) ≡ false → (IsHeld (reply_to limit op s) → ⊥)
    → after_answer (answer_within limit op s.log) op s ≡ s
left limit op s h e n =
    let a = answer_within limit op s.log in
    split (is_early a)
    (λ f. let q : after_answer a op s ≡ hold op s = rw (e, f) refl in
    q ∙ split (holds s.held op) (λ i. rw i refl) (λ i. split (is_full s.held) (λ g. rw (i, g) refl)
    (λ g. absurd (n (early_reply a op s.held f ∙ rw (i, g) refl)))))
    (λ f. split (has_no_room a)
    (λ g. rw (e, f, g) refl)
    (λ g. let q : after_answer a op s ≡ no_more_held op s = rw (e, f, g) refl in q ∙ not_held limit op s h e (rw (f, g) refl)))

pub unchanged : (site limit : ℕ) (op : Operation) (s t : Holding) (more : List Operation) → IsHolding limit s → (reply_to limit op s ≡ replies.New → ⊥) → (IsHeld (reply_to limit op s) → ⊥)
    → Leads site limit (Offer op) s t more → t ≡ s
unchanged site limit op s t more h m n l = elim l [
  | inl a ↦ absurd (m (reply_new (answer_within limit op s.log) op s.held a.0))
  | inr a ↦ a.1 ∙ left limit op s h a.0 n
]

pub refused_changes_nothing : (site limit : ℕ) (op : Operation) (s t : Holding) (more : List Operation) (fault : Fault) → IsHolding limit s
    → reply_to limit op s ≡ replies.Refused fault → Leads site limit (Offer op) s t more → t ≡ s
refused_changes_nothing site limit op s t more fault h e l = unchanged site limit op s t more h (λ f. apart (sym e ∙ f)) (λ f. other (sym e ∙ f)) l
  where
    apart : replies.Refused fault ≡ replies.New → ⊥
    apart f = cc f

    other : replies.Refused fault ≡ replies.Held → ⊥
    other f = cc f

pub repeat_changes_nothing : (site limit : ℕ) (op : Operation) (s t : Holding) (more : List Operation) → IsHolding limit s
    → reply_to limit op s ≡ replies.Repeat → Leads site limit (Offer op) s t more → t ≡ s
repeat_changes_nothing site limit op s t more h e l = unchanged site limit op s t more h (λ f. apart (sym e ∙ f)) (λ f. other (sym e ∙ f)) l
  where
    apart : replies.Repeat ≡ replies.New → ⊥
    apart f = cc f

    other : replies.Repeat ≡ replies.Held → ⊥
    other f = cc f
