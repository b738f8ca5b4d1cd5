-- What a site keeps to that holds early operations.
use Rattle.std.proofs.Common.{◌≡◌, ◌↔◌, ℕ, ◌+◌, Bool, true, false, not, ◌⊎◌, inl, inr, refl, sym, subst, ◌∙◌, List, [], ◌∷◌, ◌++◌, Some, None, cond, ◌&&◌, ◌||◌, length, nat_lt}
use Rattle.rt_stamps.specs.Stamps.{is_before}
use Rattle.rt_ops.specs.Operations.{Operation, stamp_of}
use Rattle.rt_ops.specs.Rules.{keeps_rules}
use Rattle.rt_oplog.specs.Logs.{HasOp, holds, same_operation, with_operation}
use Rattle.rt_oplog.proofs.Sets.{has_with, operation_true, with_has}
use Rattle.rt_rga.specs.Answers.{Answer, New, Repeat, Refused, answer_to, answer_within, refused_if_full}
use Rattle.rt_rga.specs.Cells.{cells_of}
use Rattle.rt_rga.specs.Drafts.{with_operations}
use Rattle.rt_rga.specs.Histories.{IsHistory, inserted}
use Rattle.rt_rga.specs.Orders.{AreIn}
use Rattle.rt_rga.proofs.Skipping.{split}
use Rattle.rt_rga.proofs.Accepting.{history_if_new, repeat_is}
use Rattle.rt_rga.proofs.Room.{new_within}
use Rattle.rt_holding.specs.Holding.{Holding, Settles, has_no_room, is_early, is_left, is_new, next_held, next_of, no_more_held, put_held, rest, takes, drops, lacks, stays, with_taken, without_op}
use Rattle.rt_holding.proofs.Greatest.{IsOut, is_out}

-- LISTS OF OPERATIONS

pub without_has : (op : Operation) (held : List Operation) (x : Operation) → HasOp (without_op op held) x → HasOp held x
without_has op [] x h = h
without_has op (q ∷ held) x h =
    (elim (not (same_operation q op)) as (λ t. HasOp (cond t (q ∷ without_op op held) (without_op op held)) x → HasOp (q ∷ held) x) [
      | true ↦ λ k. elim k [ inl e ↦ inl e | inr i ↦ inr (without_has op held x i) ]
      | false ↦ λ k. inr (without_has op held x k)
    ]) h

pub without_or : (op : Operation) (held : List Operation) (x : Operation) → HasOp held x → (op ≡ x) ⊎ HasOp (without_op op held) x
without_or op [] x h = absurd h
without_or op (q ∷ held) x h = split (same_operation q op)
    (λ e. rw e (elim h [ inl i ↦ inl (sym (operation_true q op e) ∙ i) | inr i ↦ without_or op held x i ]))
    (λ e. rw e (elim h [ inl i ↦ inr (inl i) | inr i ↦ elim (without_or op held x i) [ inl j ↦ inl j | inr j ↦ inr (inr j) ] ]))

pub append_has : (xs ys : List Operation) (x : Operation) → HasOp xs x ⊎ HasOp ys x → HasOp (xs ++ ys) x
append_has [] ys x h = elim h [ inl i ↦ absurd i | inr i ↦ i ]
append_has (z ∷ xs) ys x h = elim h [ inl i ↦ elim i [ inl e ↦ inl e | inr j ↦ inr (append_has xs ys x (inl j)) ] | inr i ↦ inr (append_has xs ys x (inr i)) ]

pub has_append : (xs ys : List Operation) (x : Operation) → HasOp (xs ++ ys) x → HasOp xs x ⊎ HasOp ys x
has_append [] ys x h = inr h
has_append (z ∷ xs) ys x h = elim h [ inl e ↦ inl (inl e) | inr i ↦ elim (has_append xs ys x i) [ inl j ↦ inl (inr j) | inr j ↦ inr j ] ]

pub all_with : (ops set : List Operation) (x : Operation) → HasOp (with_operations ops set) x → HasOp set x ⊎ HasOp ops x
all_with [] set x h = inl h
all_with (op ∷ ops) set x h = elim (all_with ops (with_operation op set) x h) [
  | inl i ↦ elim (has_with op set x i) [ inl e ↦ inr (inl e) | inr j ↦ inl j ]
  | inr i ↦ inr (inr i)
]

pub with_all : (ops set : List Operation) (x : Operation) → HasOp set x ⊎ HasOp ops x → HasOp (with_operations ops set) x
with_all [] set x h = elim h [ inl i ↦ i | inr i ↦ absurd i ]
with_all (op ∷ ops) set x h = with_all ops (with_operation op set) x (elim h [
  | inl i ↦ inl (with_has op set x (inr i))
  | inr i ↦ elim i [ inl e ↦ inl (with_has op set x (inl e)) | inr j ↦ inr j ]
])

pub put_has : (op : Operation) (held : List Operation) (x : Operation) → (op ≡ x) ⊎ HasOp held x → HasOp (put_held op held) x
put_has op [] x h = h
put_has op (q ∷ held) x h =
    elim (is_before (stamp_of op) (stamp_of q)) as (λ t. HasOp (cond t (op ∷ (q ∷ held)) (q ∷ put_held op held)) x) [
      | true ↦ h
      | false ↦ elim h [ inl e ↦ inr (put_has op held x (inl e)) | inr i ↦ elim i [ inl e ↦ inl e | inr j ↦ inr (put_has op held x (inr j)) ] ]
    ]

pub has_put : (op : Operation) (held : List Operation) (x : Operation) → HasOp (put_held op held) x → (op ≡ x) ⊎ HasOp held x
has_put op [] x h = h
has_put op (q ∷ held) x h =
    (elim (is_before (stamp_of op) (stamp_of q)) as (λ t. HasOp (cond t (op ∷ (q ∷ held)) (q ∷ put_held op held)) x → (op ≡ x) ⊎ HasOp (q ∷ held) x) [
      | true ↦ λ k. k
      | false ↦ λ k. elim k [ inl e ↦ inr (inl e) | inr i ↦ elim (has_put op held x i) [ inl e ↦ inl e | inr j ↦ inr (inr j) ] ]
    ]) h

-- ANSWERS

pub is_new_true : (a : Answer) → is_new a ≡ true → a ≡ New
is_new_true New e = refl
is_new_true Repeat e = absurd (cc e)
is_new_true (Refused fault) e = absurd (cc e)

pub new_to : (limit : ℕ) (op : Operation) (log : List Operation) → is_new (answer_within limit op log) ≡ true → answer_to op log ≡ New
new_to limit op log e = (new_within (nat_lt limit (length (cells_of log) + length (inserted op))) (answer_to op log) (is_new_true (answer_within limit op log) e)).1

drop_cases : (full : Bool) (a : Answer) → is_new (refused_if_full full a) ≡ false → stays (refused_if_full full a) ≡ false → (a ≡ Repeat) ⊎ (is_out a ≡ true)
drop_cases true New e f = absurd (cc f)
drop_cases false New e f = absurd (cc e)
drop_cases full Repeat e f = inl refl
drop_cases full (Refused fault) e f = inr (neither (is_early (Refused fault)) (has_no_room (Refused fault)) f)
  where
    neither : (a b : Bool) → (a || b) ≡ false → (not a && not b) ≡ true
    neither true b h = absurd (cc h)
    neither false true h = absurd (cc h)
    neither false false h = refl

-- what is dropped is there, or refused for good
pub dropped_is : (limit : ℕ) (op : Operation) (log : List Operation) → IsHistory log → is_new (answer_within limit op log) ≡ false → stays (answer_within limit op log) ≡ false
    → HasOp log op ⊎ (is_out (answer_to op log) ≡ true)
dropped_is limit op log h e f = elim (drop_cases (nat_lt limit (length (cells_of log) + length (inserted op))) (answer_to op log) e f) [
  | inl i ↦ inl ((repeat_is log op h).0 i)
  | inr i ↦ inr i
]

-- WHAT IS KEPT

abbrev pub IsPlaced : Holding → Operation → Type 0
IsPlaced s x = HasOp s.log x ⊎ (HasOp s.held x ⊎ IsOut s.log x)

-- of the operations that came: one is accepted, or held, or was refused for good
pub record AccountsFor (came : Operation → Type 0) (s : Holding) : Type 0 where
  pub history : IsHistory s.log
  pub rules : (x : Operation) → came x → keeps_rules x.body ≡ true
  pub log : (x : Operation) → HasOp s.log x → came x
  pub held : (x : Operation) → HasOp s.held x → came x
  pub each : (x : Operation) → came x → IsPlaced s x

-- so is each of the operations that came but one
pub record AccountsForAllBut (op : Operation) (came : Operation → Type 0) (s : Holding) : Type 0 where
  pub history : IsHistory s.log
  pub rules : (x : Operation) → came x → keeps_rules x.body ≡ true
  pub log : (x : Operation) → HasOp s.log x → came x
  pub held : (x : Operation) → HasOp s.held x → came x
  pub each : (x : Operation) → came x → (op ≡ x) ⊎ IsPlaced s x

pub kept_but : (op : Operation) (came : Operation → Type 0) (s : Holding) → AccountsFor came s → AccountsForAllBut op came s
kept_but op came s k = record { history = k.history; rules = k.rules; log = k.log; held = k.held; each = λ x i. inr (k.each x i) }

pub kept_same : (came other : Operation → Type 0) (s : Holding) → ((x : Operation) → came x ↔ other x) → AccountsFor came s → AccountsFor other s
kept_same came other s f k = record {
  history = k.history;
  rules = λ x i. k.rules x ((f x).1 i);
  log = λ x i. (f x).0 (k.log x i);
  held = λ x i. (f x).0 (k.held x i);
  each = λ x i. k.each x ((f x).1 i);
}

-- each held one would be taken, or stay
abbrev pub AreLate : ℕ → Holding → Type 0
AreLate limit s = (x : Operation) → HasOp s.held x → (is_new (answer_within limit x s.log) || stays (answer_within limit x s.log)) ≡ true

pub out_more : (log more : List Operation) (x : Operation) → AreIn log more → IsOut log x → IsOut more x
out_more log more x sub o = record { older = o.older; history = o.history; within = λ y i. sub y (o.within y i); out = o.out }

pub taken_kept : (limit : ℕ) (op : Operation) (came : Operation → Type 0) (s : Holding) → came op → is_new (answer_within limit op s.log) ≡ true → AccountsForAllBut op came s → AccountsFor came (with_taken op s)
taken_kept limit op came s o e k = record {
  history = history_if_new s.log op k.history (k.rules op o) (new_to limit op s.log e);
  rules = k.rules;
  log = λ x i. elim (has_with op s.log x i) [ inl j ↦ subst came j o | inr j ↦ k.log x j ];
  held = λ x i. k.held x (without_has op s.held x i);
  each = λ x i. elim (k.each x i) [
    | inl j ↦ inl (with_has op s.log x (inl j))
    | inr p ↦ elim p [
      | inl j ↦ inl (with_has op s.log x (inr j))
      | inr q ↦ elim q [
        | inl j ↦ elim (without_or op s.held x j) [ inl u ↦ inl (with_has op s.log x (inl u)) | inr u ↦ inr (inl u) ]
        | inr j ↦ inr (inr (out_more s.log (with_operation op s.log) x (λ y n. with_has op s.log y (inr n)) j))
      ]
    ]
  ];
}

pub dropped_kept : (op : Operation) (came : Operation → Type 0) (s : Holding) → HasOp s.log op ⊎ (is_out (answer_to op s.log) ≡ true) → AccountsForAllBut op came s → AccountsFor came (no_more_held op s)
dropped_kept op came s e k = record {
  history = k.history;
  rules = k.rules;
  log = k.log;
  held = λ x i. k.held x (without_has op s.held x i);
  each = λ x i. elim (k.each x i) [
    | inl j ↦ gone x j
    | inr p ↦ elim p [
      | inl j ↦ inl j
      | inr q ↦ elim q [
        | inl j ↦ elim (without_or op s.held x j) [ inl u ↦ gone x u | inr u ↦ inr (inl u) ]
        | inr j ↦ inr (inr j)
      ]
    ]
  ];
}
  where
    gone : (x : Operation) → op ≡ x → IsPlaced (no_more_held op s) x
    gone x j = elim e [
      | inl i ↦ inl (subst (HasOp s.log) j i)
      | inr i ↦ inr (inr (subst (IsOut s.log) j (record { older = s.log; history = k.history; within = λ y n. n; out = i })))
    ]

-- WHICH IS TRIED

some_path : (a b : Operation) → Some a ≡ Some b → a ≡ b
some_path a b k = cc k

none_some : (a : Operation) → Some a ≡ None → ⊥
none_some a k = cc k

-- a held one that isn't left is tried
abbrev IsTried : ℕ → List Operation → List Operation → List Operation → Operation → Type 0
IsTried limit wanting log held x = HasOp held x × (is_left limit wanting log x ≡ false)

next_one : (limit : ℕ) (wanting log held : List Operation) (x : Operation) → next_of limit wanting log held ≡ Some x → IsTried limit wanting log held x
next_one limit wanting log [] x e = absurd (cc e)
next_one limit wanting log (op ∷ held) x e = split (is_left limit wanting log op)
    (λ t. let r = next_one limit wanting log held x (rw t at e) in (inr r.0, r.1))
    (λ t. let p : op ≡ x = some_path op x (rw t at e) in (inl p, subst (λ y. is_left limit wanting log y ≡ false) p t))

pub next_is : (limit : ℕ) (wanting : List Operation) (s : Holding) (x : Operation) → next_held limit wanting s ≡ Some x → IsTried limit wanting s.log s.held x
next_is limit wanting s x e = next_one limit wanting s.log s.held x e

pub none_next : (limit : ℕ) (wanting log held : List Operation) → next_of limit wanting log held ≡ None → (x : Operation) → HasOp held x → is_left limit wanting log x ≡ true
none_next limit wanting log [] e x h = absurd h
none_next limit wanting log (op ∷ held) e x h = split (is_left limit wanting log op)
    (λ t. elim h [ inl i ↦ subst (λ y. is_left limit wanting log y ≡ true) i t | inr i ↦ none_next limit wanting log held (rw t at e) x i ])
    (λ t. absurd (none_some op (rw t at e)))

left_late : (a b h : Bool) → (b || (a && h)) ≡ true → (a || b) ≡ true
left_late true b h e = refl
left_late false true h e = refl
left_late false false h e = absurd (cc e)

pub left_not : (a b h : Bool) → (b || (a && h)) ≡ false → b ≡ false
left_not a true h e = absurd (cc e)
left_not a false h e = refl

-- SETTLING

pub settles_kept : (limit : ℕ) (came : Operation → Type 0) (wanting : List Operation) (s t : Holding) (more : List Operation) → Settles limit wanting s t more → AccountsFor came s → AccountsFor came t
settles_kept limit came wanting s t more (rest e) k = k
settles_kept limit came wanting s t more (takes {more = later} {op = op} e n r) k =
    settles_kept limit came wanting (with_taken op s) t later r
    (taken_kept limit op came s (k.held op (next_is limit wanting s op e).0) n (kept_but op came s k))
settles_kept limit came wanting s t more (drops {op = op} e n r) k =
    settles_kept limit came wanting (no_more_held op s) t more r
    (dropped_kept op came s
    (dropped_is limit op s.log k.history n (left_not (is_new (answer_within limit op s.log)) (stays (answer_within limit op s.log)) (holds wanting op) (next_is limit wanting s op e).1))
    (kept_but op came s k))
settles_kept limit came wanting s t more (lacks {op = op} e n r) k = settles_kept limit came (op ∷ wanting) s t more r k

pub settles_late : (limit : ℕ) (wanting : List Operation) (s t : Holding) (more : List Operation) → Settles limit wanting s t more → (x : Operation) → HasOp t.held x
    → (is_new (answer_within limit x t.log) || stays (answer_within limit x t.log)) ≡ true
settles_late limit wanting s t more (rest e) x i =
    left_late (is_new (answer_within limit x s.log)) (stays (answer_within limit x s.log)) (holds wanting x) (none_next limit wanting s.log s.held e x i)
settles_late limit wanting s t more (takes {more = later} {op = op} e n r) x i = settles_late limit wanting (with_taken op s) t later r x i
settles_late limit wanting s t more (drops {op = op} e n r) x i = settles_late limit wanting (no_more_held op s) t more r x i
settles_late limit wanting s t more (lacks {op = op} e n r) x i = settles_late limit (op ∷ wanting) s t more r x i
