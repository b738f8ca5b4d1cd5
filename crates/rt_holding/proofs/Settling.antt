-- Held operations are tried until none can be taken.
use Rattle.std.proofs.Common.{◌≡◌, ℕ, zero, suc, ◌+◌, ◌<◌, ◌≤◌, Bool, true, false, not, inl, inr, refl, sym, ap, subst, ◌∙◌, arith, List, [], ◌∷◌, Option, Some, None, cond, ◌||◌, length, nat_lt}
use Rattle.rt_stamps.specs.declared.fault.Fault.TheVariants.{TextFull}
use Rattle.rt_ops.specs.Operations.{Operation}
use Rattle.rt_ops.specs.Rules.{keeps_rules}
use Rattle.rt_oplog.specs.Logs.{HasOp, holds, same_operation, with_operation}
use Rattle.rt_oplog.proofs.Sets.{operation_refl}
use Rattle.rt_rga.specs.Answers.{Answer, New, Refused, answer_to, answer_within}
use Rattle.rt_rga.specs.Cells.{cells_of}
use Rattle.rt_rga.specs.Drafts.{all_changed, with_operations}
use Rattle.rt_rga.specs.Histories.{IsHistory, inserted}
use Rattle.rt_rga.proofs.Skipping.{split}
use Rattle.rt_rga.proofs.Accepting.{continues_if_new, history_if_new}
use Rattle.rt_rga.proofs.Counts.{length_with}
use Rattle.rt_rga.proofs.Merging.{cells_with}
use Rattle.rt_rga.proofs.Room.{full_exactly, new_within, taken_within}
use Rattle.rt_holding.specs.Holding.{Holding, Settles, after_answer, has_no_room, is_early, is_new, next_held, next_of, no_more_held, rest, takes, drops, lacks, settled, stays, taken_then, tried, with_taken, without_op}
use Rattle.rt_holding.specs.Memory.{FoundMemory}
use Rattle.rt_holding.specs.Runs.{AreTakenInTurn}
use Rattle.rt_holding.proofs.Keeping.{is_new_true, left_not, next_is}

-- EACH TRY LEAVES FEWER

pub without_le : (op : Operation) (held : List Operation) → length (without_op op held) ≤ length held
without_le op [] = omega arith
without_le op (q ∷ held) = elim (not (same_operation q op)) as (λ t. length (cond t (q ∷ without_op op held) (without_op op held)) ≤ suc (length held)) [
  | true ↦ omega (arith, without_le op held)
  | false ↦ omega (arith, without_le op held)
]

pub without_lt : (op : Operation) (held : List Operation) → HasOp held op → length (without_op op held) < length held
without_lt op [] h = absurd h
without_lt op (q ∷ held) h = split (same_operation q op)
    (λ e. rw e (omega (arith, without_le op held)))
    (λ e. rw e (elim h [
      | inl i ↦ absurd (let j : same_operation q op ≡ true = rw i (operation_refl op) in cc (e, j))
      | inr i ↦ omega (arith, without_lt op held i)
    ]))

nothing_next : (limit : ℕ) (log held : List Operation) → length held ≤ 0 → next_of limit [] log held ≡ None
nothing_next limit log [] l = refl
nothing_next limit log (q ∷ held) l = absurd (omega (arith, l))

either_false : (a b : Bool) → (a || b) ≡ false → (a ≡ false) × (b ≡ false)
either_false true b e = absurd (cc e)
either_false false b e = (refl, e)

after_new : (a : Answer) (op : Operation) (s : Holding) → is_new a ≡ true → after_answer a op s ≡ with_taken op s
after_new a op s e = rw e refl

after_drop : (a : Answer) (op : Operation) (s : Holding) → is_new a ≡ false → stays a ≡ false → after_answer a op s ≡ no_more_held op s
after_drop a op s e f = let (g, h) = either_false (is_early a) (has_no_room a) f in rw (e, g, h) refl

-- WITH AMPLE MEMORY

-- tries lead from a state to another, each of which found memory
abbrev pub Finds : ℕ → Holding → Holding → List Operation → Type 0
Finds limit s t more = (h : Settles limit [] s t more) × FoundMemory h

abbrev Settled : ℕ → Holding → Holding → List Operation → Type 0
Settled limit s t more = Finds limit s t more × (next_held limit [] t ≡ None)

tried_settles : (limit n : ℕ) (s : Holding) → length s.held ≤ n → Settled limit s (tried limit n s).0 (tried limit n s).1
tried_settles limit zero s l = let e = nothing_next limit s.log s.held l in ((rest e, tt), e)
tried_settles limit (suc n) s l = by (next_held limit [] s) refl (λ op u m. tried_settles limit n u m)
  where
    one : (op : Operation) (a : Answer) → a ≡ answer_within limit op s.log → next_held limit [] s ≡ Some op
        → ((u : Holding) → length u.held ≤ n → Settled limit u (tried limit n u).0 (tried limit n u).1)
        → Settled limit s (tried limit n (after_answer a op s)).0 (cond (is_new a) (op ∷ (tried limit n (after_answer a op s)).1) (tried limit n (after_answer a op s)).1)
    one op a w e f =
        let i = next_is limit [] s op e in
        let m = without_lt op s.held i.0 in
        let u = after_answer a op s in
        split (is_new a)
        (λ g. let q = after_new a op s g in
        let r = f u (subst (λ v. length v.held ≤ n) (sym q) (omega (arith, m, l))) in
        let later = subst (λ v. Finds limit v (tried limit n u).0 (tried limit n u).1) q r.0 in (
          subst (λ b. Finds limit s (tried limit n u).0 (cond b (op ∷ (tried limit n u).1) (tried limit n u).1)) (sym g)
              (takes e (subst (λ x. is_new x ≡ true) w g) later.0, later.1),
          r.1,
        ))
        (λ g. let k = left_not (is_new (answer_within limit op s.log)) (stays (answer_within limit op s.log)) (holds [] op) i.1 in
        let q = after_drop a op s g (subst (λ x. stays x ≡ false) (sym w) k) in
        let r = f u (subst (λ v. length v.held ≤ n) (sym q) (omega (arith, m, l))) in
        let later = subst (λ v. Finds limit v (tried limit n u).0 (tried limit n u).1) q r.0 in (
          subst (λ b. Finds limit s (tried limit n u).0 (cond b (op ∷ (tried limit n u).1) (tried limit n u).1)) (sym g)
              (drops e (subst (λ x. is_new x ≡ false) w g) later.0, later.1),
          r.1,
        ))

    from : Option Operation → Holding × List Operation
    from r = elim r [
      | None ↦ (s, [])
      | Some op ↦ (let later = tried limit n (after_answer (answer_within limit op s.log) op s) in
          (later.0, cond (is_new (answer_within limit op s.log)) (op ∷ later.1) later.1))
    ]

    by : (r : Option Operation) → next_held limit [] s ≡ r → ((op : Operation) (u : Holding) → length u.held ≤ n → Settled limit u (tried limit n u).0 (tried limit n u).1)
        → Settled limit s (from r).0 (from r).1
    by None e f = ((rest e, tt), e)
    by (Some op) e f = one op (answer_within limit op s.log) refl e (f op)

pub settled_finds : (limit : ℕ) (s : Holding) → Finds limit s (settled limit s) (taken_then limit s)
settled_finds limit s = (tried_settles limit (length s.held) s (omega arith)).0

pub settled_settles : (limit : ℕ) (s : Holding) → Settles limit [] s (settled limit s) (taken_then limit s)
settled_settles limit s = (settled_finds limit s).0

pub none_left : (limit : ℕ) (s : Holding) → next_held limit [] (settled limit s) ≡ None
none_left limit s = (tried_settles limit (length s.held) s (omega arith)).1

ample_tried : (limit n : ℕ) (s t : Holding) (more : List Operation) (h : Settles limit [] s t more) → FoundMemory h → length s.held ≤ n
    → (t ≡ (tried limit n s).0) × (more ≡ (tried limit n s).1)
ample_tried limit zero s t more (rest e) f l = (refl, refl)
ample_tried limit (suc n) s t more (rest e) f l = (rw (e, tried) refl, rw (e, tried) refl)
ample_tried limit zero s t more (takes {op = op} e m r) f l = absurd (let k = nothing_next limit s.log s.held l in cc (e, k))
ample_tried limit (suc n) s t more (takes {more = later} {op = op} e m r) f l =
    let i = next_is limit [] s op e in
    let k = without_lt op s.held i.0 in
    let q = after_new (answer_within limit op s.log) op s m in
    let j = ample_tried limit n (with_taken op s) t later r f (omega (arith, k, l)) in
    (rw (e, tried, q) j.0, rw (e, tried, q, m) (ap (λ ops. op ∷ ops) j.1))
ample_tried limit zero s t more (drops {op = op} e m r) f l = absurd (let k = nothing_next limit s.log s.held l in cc (e, k))
ample_tried limit (suc n) s t more (drops {op = op} e m r) f l =
    let i = next_is limit [] s op e in
    let k = without_lt op s.held i.0 in
    let a = answer_within limit op s.log in
    let q = after_drop a op s m (left_not (is_new a) (stays a) (holds [] op) i.1) in
    let j = ample_tried limit n (no_more_held op s) t more r f (omega (arith, k, l)) in
    (rw (e, tried, q) j.0, rw (e, tried, q, m) j.1)
ample_tried limit n s t more (lacks e m r) f l = absurd f

pub ample_settled : (limit : ℕ) (s t : Holding) (more : List Operation) (h : Settles limit [] s t more) → FoundMemory h
    → (t ≡ settled limit s) × (more ≡ taken_then limit s)
ample_settled limit s t more h f = ample_tried limit (length s.held) s t more h f (omega arith)

-- WHAT IS TAKEN

pub taken_in_turn : (limit : ℕ) (wanting more : List Operation) (s t : Holding) → Settles limit wanting s t more → (t.log ≡ with_operations more s.log) × AreTakenInTurn limit s.log more
taken_in_turn limit wanting more s t (rest e) = (refl, tt)
taken_in_turn limit wanting more s t (takes {more = later} {op = op} e n r) =
    let i = taken_in_turn limit wanting later (with_taken op s) t r in (i.0, (is_new_true (answer_within limit op s.log) n, i.1))
taken_in_turn limit wanting more s t (drops {op = op} e n r) = taken_in_turn limit wanting more (no_more_held op s) t r
taken_in_turn limit wanting more s t (lacks {op = op} e n r) = taken_in_turn limit (op ∷ wanting) more s t r

pub cells_in_turn : (limit : ℕ) (ops log : List Operation) → IsHistory log → ((op : Operation) → HasOp ops op → keeps_rules op.body ≡ true) → AreTakenInTurn limit log ops
    → cells_of (with_operations ops log) ≡ all_changed ops (cells_of log)
cells_in_turn limit [] log h r t = refl
cells_in_turn limit (op ∷ ops) log h r t =
    let n = (new_within (nat_lt limit (length (cells_of log) + length (inserted op))) (answer_to op log) t.0).1 in
    let k = continues_if_new log op (r op (inl refl)) n in
    cells_in_turn limit ops (with_operation op log) (history_if_new log op h (r op (inl refl)) n) (λ x i. r x (inr i)) t.1 ∙ ap (all_changed ops) (cells_with op log h k)

-- NO ROOM

pub full_stays : (limit : ℕ) (op y : Operation) (log : List Operation) → IsHistory log → keeps_rules op.body ≡ true → answer_within limit op log ≡ Refused TextFull
    → IsHistory (with_operation y log) → answer_within limit op (with_operation y log) ≡ New → ⊥
full_stays limit op y log h r e w n =
    let a = (full_exactly log op limit h r).0 e in
    let b = (taken_within (with_operation y log) op limit w r).0 n in
    let k = length_with log op h a.0 in
    let l = length_with log y h w in
    let m = length_with (with_operation y log) op w b.0 in
    let c = a.1 in
    let d = b.1 in
    omega (arith, c, d, k, l, m)

-- NOTHING HELD

none_next : (limit : ℕ) (wanting : List Operation) (s : Holding) (op : Operation) → s.held ≡ [] → next_held limit wanting s ≡ Some op → ⊥
none_next limit wanting s op e n = subst (λ held. HasOp held op) e (next_is limit wanting s op n).0

pub nothing_tried : (limit : ℕ) (wanting more : List Operation) (s t : Holding) → s.held ≡ [] → Settles limit wanting s t more → (t ≡ s) × (more ≡ [])
nothing_tried limit wanting more s t e (rest n) = (refl, refl)
nothing_tried limit wanting more s t e (takes {op = op} n m r) = absurd (none_next limit wanting s op e n)
nothing_tried limit wanting more s t e (drops {op = op} n m r) = absurd (none_next limit wanting s op e n)
nothing_tried limit wanting more s t e (lacks {op = op} n m r) = absurd (none_next limit wanting s op e n)
