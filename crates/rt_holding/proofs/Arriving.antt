-- Whatever comes to a site, it keeps to what it keeps to.
use Rattle.std.proofs.Common.{◌≡◌, ℕ, ◌<◌, ◌≤◌, Bool, true, false, ◌⊎◌, inl, inr, refl, sym, subst, arith, List, [], ◌∷◌, ◌++◌, cond, ◌&&◌, ◌||◌, length, nat_le}
use Rattle.std.proofs.lemmas.Bool.Decides.{nat_tests}
use Rattle.rt_stamps.specs.declared.fault.Fault.TheVariants.{TextFull, WaitingFull}
use Rattle.rt_stamps.specs.declared.limits.TheConstants.{GREATEST_COUNT}
use Rattle.rt_ops.specs.Operations.{Body, Operation}
use Rattle.rt_ops.specs.Rules.{keeps_rules}
use Rattle.rt_oplog.specs.Logs.{HasOp, holds}
use Rattle.rt_oplog.proofs.Sets.{has_held}
use Rattle.rt_rga.specs.Answers.{Answer, New, Repeat, Refused, answer_to, answer_within}
use Rattle.rt_rga.specs.Cells.{cells_of}
use Rattle.rt_rga.specs.Drafts.{operations_of, with_drafts}
use Rattle.rt_rga.specs.Histories.{greatest_last_count}
use Rattle.rt_rga.specs.Requests.{MayBeAsked, MayBeMade, Make, Offer, ReplicaRequest, fit, last_count_after}
use Rattle.rt_rga.proofs.Skipping.{split}
use Rattle.rt_rga.proofs.Drafting.{made}
use Rattle.rt_rga.proofs.Orders.{rules_in}
use Rattle.rt_rga.proofs.Requests.{drafts_for}
use Rattle.rt_holding.specs.Replies.{Reply}
use Rattle.rt_holding.specs.Replies as replies
use Rattle.rt_holding.specs.Holding.{Holding, after_answer, has_no_room, hold, is_early, is_full, is_new, no_more_held, new_holding, put_held, reply_for, reply_to, stays, with_taken}
use Rattle.rt_holding.specs.Runs.{Leads, Runs, accepts, before_tries, brought_by, finds_no_room, next, none}
use Rattle.rt_holding.proofs.Greatest.{is_out}
use Rattle.rt_holding.proofs.Keeping.{AreLate, AccountsFor, AccountsForAllBut, IsPlaced, all_with, append_has, dropped_is, dropped_kept, has_append, has_put, kept_but, out_more, kept_same, put_has, settles_kept, settles_late, taken_kept, with_all, without_has}

-- AN OFFER

abbrev With : (Operation → Type 0) → Operation → Operation → Type 0
With came op x = came x ⊎ (op ≡ x)

came_with : (came : Operation → Type 0) (op : Operation) (s : Holding) → keeps_rules op.body ≡ true → AccountsFor came s → AccountsForAllBut op (With came op) s
came_with came op s r k = record {
  history = k.history;
  rules = λ x i. elim i [ inl j ↦ k.rules x j | inr e ↦ subst (λ (y : Operation). keeps_rules y.body ≡ true) e r ];
  log = λ x i. inl (k.log x i);
  held = λ x i. inl (k.held x i);
  each = λ x i. elim i [ inl j ↦ inr (k.each x j) | inr e ↦ inl e ];
}

-- one that is placed already
placed_kept : (came : Operation → Type 0) (op : Operation) (s : Holding) → IsPlaced s op → AccountsForAllBut op came s → AccountsFor came s
placed_kept came op s p k = record {
  history = k.history;
  rules = k.rules;
  log = k.log;
  held = k.held;
  each = λ x i. elim (k.each x i) [ inl e ↦ subst (IsPlaced s) e p | inr q ↦ q ];
}

held_kept : (came : Operation → Type 0) (op : Operation) (s : Holding) → came op → AccountsForAllBut op came s → AccountsFor came (record { log = s.log; held = put_held op s.held })
held_kept came op s o k = record {
  history = k.history;
  rules = k.rules;
  log = k.log;
  held = λ x i. elim (has_put op s.held x i) [ inl e ↦ subst came e o | inr j ↦ k.held x j ];
  each = λ x i. elim (k.each x i) [
    | inl e ↦ inr (inl (put_has op s.held x (inl e)))
    | inr q ↦ elim q [ inl j ↦ inl j | inr j ↦ elim j [ inl m ↦ inr (inl (put_has op s.held x (inr m))) | inr m ↦ inr (inr m) ] ]
  ];
}

-- what an offer brings
abbrev Brings : (Operation → Type 0) → Reply → Operation → Operation → Type 0
Brings came reply op x = came x ⊎ HasOp (cond (finds_no_room reply) [] (op ∷ [])) x

brings_none : (came : Operation → Type 0) (reply : Reply) (op : Operation) (s : Holding) → finds_no_room reply ≡ true → AccountsFor came s → AccountsFor (Brings came reply op) s
brings_none came reply op s e k = kept_same came (Brings came reply op) s (λ x. (
  λ i. inl i,
  λ i. elim i [ inl j ↦ j | inr j ↦ absurd (let n : HasOp [] x = rw e at j in n) ],
)) k

brings_one : (came : Operation → Type 0) (reply : Reply) (op : Operation) (s : Holding) → finds_no_room reply ≡ false → AccountsFor (With came op) s → AccountsFor (Brings came reply op) s
brings_one came reply op s e k = kept_same (With came op) (Brings came reply op) s (λ x. (
  λ i. elim i [ inl j ↦ inl j | inr j ↦ inr (rw e (inl j)) ],
  λ i. elim i [ inl j ↦ inl j | inr j ↦ inr (let n : HasOp (op ∷ []) x = rw e at j in elim n [ inl f ↦ f | inr f ↦ absurd f ]) ],
)) k

both_ways : (came : Operation → Type 0) (reply : Reply) (op : Operation) (s : Holding) → AccountsFor came s → AccountsFor (With came op) s → AccountsFor (Brings came reply op) s
both_ways came reply op s k w = split (finds_no_room reply) (λ e. brings_none came reply op s e k) (λ e. brings_one came reply op s e w)

early_not_new : (a : Answer) → is_early a ≡ true → is_new a ≡ false
early_not_new New e = absurd (cc e)
early_not_new Repeat e = refl
early_not_new (Refused fault) e = refl

room_not_new : (a : Answer) → has_no_room a ≡ true → is_new a ≡ false
room_not_new New e = absurd (cc e)
room_not_new Repeat e = refl
room_not_new (Refused fault) e = refl

new_reply : (a : Answer) (op : Operation) (held : List Operation) → is_new a ≡ true → finds_no_room (reply_for a op held) ≡ false
new_reply New op held e = refl
new_reply Repeat op held e = absurd (cc e)
new_reply (Refused fault) op held e = absurd (cc e)

room_reply : (a : Answer) (op : Operation) (held : List Operation) → is_early a ≡ false → has_no_room a ≡ true → finds_no_room (reply_for a op held) ≡ true
room_reply New op held e f = absurd (cc f)
room_reply Repeat op held e f = absurd (cc f)
room_reply (Refused TextFull) op held e f = refl
room_reply (Refused _) op held e f = absurd (cc f)

early_reply : (a : Answer) (op : Operation) (held : List Operation) → is_early a ≡ true
    → reply_for a op held ≡ cond (holds held op) replies.Repeat (cond (is_full held) (replies.Refused WaitingFull) replies.Held)
early_reply a op held e = rw e refl

neither : (a b : Bool) → a ≡ false → b ≡ false → (a || b) ≡ false
neither a b e f = rw (e, f) refl

offer_by : (a : Answer) (came : Operation → Type 0) (op : Operation) (s : Holding) → keeps_rules op.body ≡ true → AccountsFor came s
    → (is_new a ≡ true → AccountsFor (With came op) (with_taken op s))
    → (is_new a ≡ false → stays a ≡ false → HasOp s.log op ⊎ (is_out (answer_to op s.log) ≡ true))
    → AccountsFor (Brings came (reply_for a op s.held) op) (after_answer a op s)
offer_by a came op s r k n d =
    let w = came_with came op s r k in
    split (is_new a)
    (λ e. let q : after_answer a op s ≡ with_taken op s = rw e refl in
    subst (AccountsFor (Brings came (reply_for a op s.held) op)) (sym q) (brings_one came (reply_for a op s.held) op (with_taken op s) (new_reply a op s.held e) (n e)))
    (λ e. split (is_early a)
    (λ f. let q : after_answer a op s ≡ hold op s = rw (e, f) refl in
    let p = early_reply a op s.held f in
    subst (AccountsFor (Brings came (reply_for a op s.held) op)) (sym q) (subst (λ reply. AccountsFor (Brings came reply op) (hold op s)) (sym p) (split (holds s.held op)
    (λ h. let u : hold op s ≡ s = rw h refl in
    let v : cond (holds s.held op) replies.Repeat (cond (is_full s.held) (replies.Refused WaitingFull) replies.Held) ≡ replies.Repeat = rw h refl in
    stay (sym u) (sym v) (brings_one came replies.Repeat op s refl (placed_kept (With came op) op s (inr (inl (has_held s.held op h))) w)))
    (λ h. split (is_full s.held)
    (λ g. let u : hold op s ≡ s = rw (h, g) refl in
    let v : cond (holds s.held op) replies.Repeat (cond (is_full s.held) (replies.Refused WaitingFull) replies.Held) ≡ replies.Refused WaitingFull = rw (h, g) refl in
    stay (sym u) (sym v) (brings_none came (replies.Refused WaitingFull) op s refl k))
    (λ g. let u : hold op s ≡ record { log = s.log; held = put_held op s.held } = rw (h, g) refl in
    let v : cond (holds s.held op) replies.Repeat (cond (is_full s.held) (replies.Refused WaitingFull) replies.Held) ≡ replies.Held = rw (h, g) refl in
    stay (sym u) (sym v) (brings_one came replies.Held op (record { log = s.log; held = put_held op s.held }) refl (held_kept (With came op) op s (inr refl) w)))))))
    (λ f. split (has_no_room a)
    (λ g. let q : after_answer a op s ≡ s = rw (e, f, g) refl in
    subst (AccountsFor (Brings came (reply_for a op s.held) op)) (sym q) (brings_none came (reply_for a op s.held) op s (room_reply a op s.held f g) k))
    (λ g. let q : after_answer a op s ≡ no_more_held op s = rw (e, f, g) refl in
    let o = d e (neither (is_early a) (has_no_room a) f g) in
    subst (AccountsFor (Brings came (reply_for a op s.held) op)) (sym q) (both_ways came (reply_for a op s.held) op (no_more_held op s)
    (dropped_kept op came s o (kept_but op came s k)) (dropped_kept op (With came op) s o w)))))
  where
    stay : {t u : Holding} {one two : Reply} → t ≡ u → one ≡ two → AccountsFor (Brings came one op) t → AccountsFor (Brings came two op) u
    stay {t = t} {u = u} {one = one} {two = two} e f k = subst (λ reply. AccountsFor (Brings came reply op) u) f (subst (AccountsFor (Brings came one op)) e k)

offer_kept : (limit : ℕ) (came : Operation → Type 0) (op : Operation) (s : Holding) → keeps_rules op.body ≡ true → AccountsFor came s
    → AccountsFor (Brings came (reply_to limit op s) op) (after_answer (answer_within limit op s.log) op s)
offer_kept limit came op s r k = offer_by (answer_within limit op s.log) came op s r k
    (λ e. taken_kept limit op (With came op) s (inr refl) e (came_with came op s r k))
    (λ e f. dropped_is limit op s.log k.history e f)

-- DRAFTS

pub drafts_kept : (site limit : ℕ) (drafts : List Body) (came : Operation → Type 0) (s : Holding) → 0 < site → MayBeMade site s.log drafts
    → last_count_after (greatest_last_count s.log) drafts ≤ GREATEST_COUNT → AccountsFor came s
    → AccountsFor (λ x. came x ⊎ HasOp (operations_of site drafts s.log) x) (record { log = with_drafts site drafts s.log; held = s.held })
drafts_kept site limit drafts came s p m l k =
    let h = (made site drafts s.log p k.history (drafts_for site s.log drafts m l)).history in
    let ops = operations_of site drafts s.log in
    record {
      history = h;
      rules = λ x i. elim i [ inl j ↦ k.rules x j | inr j ↦ rules_in (with_drafts site drafts s.log) h x (with_all ops s.log x (inr j)) ];
      log = λ x i. elim (all_with ops s.log x i) [ inl j ↦ inl (k.log x j) | inr j ↦ inr j ];
      held = λ x i. inl (k.held x i);
      each = λ x i. elim i [
        | inl j ↦ elim (k.each x j) [
          | inl m ↦ inl (with_all ops s.log x (inl m))
          | inr q ↦ elim q [ inl m ↦ inr (inl m) | inr m ↦ inr (inr (out_more s.log (with_drafts site drafts s.log) x (λ y n. with_all ops s.log y (inl n)) m)) ]
        ]
        | inr j ↦ inl (with_all ops s.log x (inr j))
      ];
    }

drafted : (b : Bool) (came : Operation → Type 0) (ops : List Operation) (s t : Holding) → (b ≡ true → AccountsFor (λ x. came x ⊎ HasOp ops x) t) → AccountsFor came s
    → AccountsFor (λ x. came x ⊎ HasOp (cond b ops []) x) (cond b t s)
drafted true came ops s t f k = f refl
drafted false came ops s t f k = kept_same came (λ x. came x ⊎ HasOp [] x) s (λ x. (λ i. inl i, λ i. elim i [ inl j ↦ j | inr j ↦ absurd j ])) k

both : (a b : Bool) → (a && b) ≡ true → a ≡ true
both true b h = refl
both false b h = absurd (cc h)

-- ONE REQUEST

abbrev pub Bringing : (Operation → Type 0) → ℕ → ℕ → ReplicaRequest → Holding → Operation → Type 0
Bringing came site limit request s x = came x ⊎ HasOp (brought_by site limit request s) x

pub first_kept : (site limit : ℕ) (request : ReplicaRequest) (came : Operation → Type 0) (s : Holding) → 0 < site → MayBeAsked site s.log request → AccountsFor came s
    → AccountsFor (Bringing came site limit request s) (before_tries site limit request s)
first_kept site limit (Offer op) came s p m k = offer_kept limit came op s m k
first_kept site limit (Make drafts) came s p m k = drafted (fit site limit drafts s.log) came (operations_of site drafts s.log) s (record { log = with_drafts site drafts s.log; held = s.held })
    (λ e. drafts_kept site limit drafts came s p m
    (let b = both (nat_le (last_count_after (greatest_last_count s.log) drafts) GREATEST_COUNT) (nat_le (length (cells_of (with_drafts site drafts s.log))) limit) e in grind (arith, nat_tests, b)) k) k

abbrev IsLate : ℕ → Holding → Operation → Type 0
IsLate limit s x = (is_new (answer_within limit x s.log) || stays (answer_within limit x s.log)) ≡ true

-- what is held after a refusal is as late as before
late_after : (limit : ℕ) (a : Answer) (op : Operation) (s : Holding) → answer_within limit op s.log ≡ a → is_new a ≡ false → AreLate limit s → AreLate limit (after_answer a op s)
late_after limit a op s w e l = split (is_early a)
    (λ f. let q : after_answer a op s ≡ hold op s = rw (e, f) refl in
    subst (AreLate limit) (sym q) (split (holds s.held op || is_full s.held)
    (λ h. let u : hold op s ≡ s = rw h refl in subst (AreLate limit) (sym u) l)
    (λ h. let u : hold op s ≡ record { log = s.log; held = put_held op s.held } = rw h refl in
    subst (AreLate limit) (sym u) (λ x i. elim (has_put op s.held x i) [
      | inl g ↦ subst (IsLate limit s) g (rw (w, e, f) refl)
      | inr j ↦ l x j
    ]))))
    (λ f. split (has_no_room a)
    (λ g. let q : after_answer a op s ≡ s = rw (e, f, g) refl in subst (AreLate limit) (sym q) l)
    (λ g. let q : after_answer a op s ≡ no_more_held op s = rw (e, f, g) refl in subst (AreLate limit) (sym q) (λ x i. l x (without_has op s.held x i))))

first_late : (site limit : ℕ) (request : ReplicaRequest) (s : Holding) → accepts site limit request s ≡ false → AreLate limit s → AreLate limit (before_tries site limit request s)
first_late site limit (Offer op) s e l = late_after limit (answer_within limit op s.log) op s refl e l
first_late site limit (Make drafts) s e l = rw e l

-- a site keeps to this, whatever it is asked
pub record Keeps (limit : ℕ) (came : Operation → Type 0) (s : Holding) : Type 0 where
  pub kept : AccountsFor came s
  pub late : AreLate limit s

pub leads_keeps : (site limit : ℕ) (request : ReplicaRequest) (came : Operation → Type 0) (s t : Holding) (more : List Operation) → 0 < site → MayBeAsked site s.log request
    → Leads site limit request s t more → Keeps limit came s → Keeps limit (Bringing came site limit request s) t
leads_keeps site limit request came s t more p m l k =
    let f = first_kept site limit request came s p m k.kept in
    elim l [
      | inl a ↦ record {
        kept = settles_kept limit (Bringing came site limit request s) [] (before_tries site limit request s) t more a.1 f;
        late = settles_late limit [] (before_tries site limit request s) t more a.1;
      }
      | inr a ↦ subst (Keeps limit (Bringing came site limit request s)) (sym a.1) (record { kept = f; late = first_late site limit request s a.0 k.late })
    ]

-- ALL REQUESTS

pub runs_keep : (site limit : ℕ) (requests : List ReplicaRequest) (came : Operation → Type 0) (s u : Holding) (ops : List Operation) → 0 < site
    → Runs site limit requests s u ops → Keeps limit came s → Keeps limit (λ x. came x ⊎ HasOp ops x) u
runs_keep site limit requests came s u ops p none k = record {
  kept = kept_same came (λ x. came x ⊎ HasOp [] x) s (λ x. (λ i. inl i, λ i. elim i [ inl j ↦ j | inr j ↦ absurd j ])) k.kept;
  late = k.late;
}
runs_keep site limit requests came s u ops p (next {request = request} {requests = others} {t = t} {ops = later} more m l r) k =
    let one = leads_keeps site limit request came s t more p m l k in
    let rest = runs_keep site limit others (Bringing came site limit request s) t u later p r one in
    let first = brought_by site limit request s in
    record {
      kept = kept_same (λ x. Bringing came site limit request s x ⊎ HasOp later x) (λ x. came x ⊎ HasOp (first ++ later) x) u (λ x. (
        λ i. elim i [ inl j ↦ elim j [ inl n ↦ inl n | inr n ↦ inr (append_has first later x (inl n)) ] | inr j ↦ inr (append_has first later x (inr j)) ],
        λ i. elim i [ inl j ↦ inl (inl j) | inr j ↦ elim (has_append first later x j) [ inl n ↦ inl (inr n) | inr n ↦ inr n ] ],
      )) rest.kept;
      late = rest.late;
    }

pub from_nothing : (site limit : ℕ) (requests : List ReplicaRequest) (u : Holding) (ops : List Operation) → 0 < site → Runs site limit requests new_holding u ops → Keeps limit (HasOp ops) u
from_nothing site limit requests u ops p r =
    let k = runs_keep site limit requests (λ x. ⊥) new_holding u ops p r (record {
      kept = record { history = tt; rules = λ x i. absurd i; log = λ x i. absurd i; held = λ x i. absurd i; each = λ x i. absurd i };
      late = λ x i. absurd i;
    }) in
    record {
      kept = kept_same (λ x. ⊥ ⊎ HasOp ops x) (HasOp ops) u (λ x. (λ i. elim i [ inl j ↦ absurd j | inr j ↦ j ], λ i. inr i)) k.kept;
      late = k.late;
    }
