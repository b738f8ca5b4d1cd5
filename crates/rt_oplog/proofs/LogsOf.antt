-- The log of operations that are pushed in turn.
use Rattle.std.proofs.Common.{◌≡◌, ◌↔◌, ℕ, zero, suc, ◌+◌, ◌<◌, ◌⊎◌, ◌∷◌, [], inl, inr, List, length, get_or, take, drop, sym, subst, ap, refl, arith, Ok, Err}
use Rattle.std.proofs.lemmas.List.{take_more}
use Rattle.std.proofs.lemmas.Option.{slice_get-get_or}
use Rattle.std.specs.List.{list_any}
use Rattle.rt_stamps.specs.declared.fault.Fault.{Fault}
use Rattle.rt_stamps.specs.declared.fault.Fault.TheVariants.{NoMemory}
use Rattle.rt_ops.specs.Operations.{Operation, has_bad_stamp}
use Rattle.rt_oplog.specs.Logs.{HasOp, IsLog, holds, clash, with_operation, pushed}
use Rattle.rt_rows.specs.Places.{nothing}
use Rattle.rt_oplog.specs.Outcomes.{IsLogOf, MakesLog}
use Rattle.rt_oplog.proofs.Sets.{split, has_with, with_has, has_held}
use Rattle.rt_oplog.proofs.Merges.{has_end, end_has}

-- the operation at a place of a list
abbrev pub op_of : List Operation → ℕ → Operation
op_of ops i = get_or ops i nothing

-- what a push leaves has the operation, and what was there
pushed_has : (op : Operation) (log new : List Operation) → pushed op log ≡ Ok new → (x : Operation) → HasOp new x ↔ (HasOp log x ⊎ (op ≡ x))
pushed_has op log new e x = split (has_bad_stamp op)
    (λ b. let k = rw b at e in absurd (cc k))
    (λ b. split (holds log op)
    (λ h. let k = rw (b, h) at e in let same : log ≡ new = cc k in
    subst (λ set. HasOp set x ↔ (HasOp log x ⊎ (op ≡ x))) same (λ i. inl i, λ i. elim i [ inl j ↦ j | inr d ↦ subst (λ y. HasOp log y) d (has_held log op h) ]))
    (λ h. split (list_any (clash op) log)
    (λ c. let k = rw (b, h, c) at e in absurd (cc k))
    (λ c. let k = rw (b, h, c) at e in let same : with_operation op log ≡ new = cc k in
    subst (λ set. HasOp set x ↔ (HasOp log x ⊎ (op ≡ x))) same (λ i. turned (has_with op log x i), λ i. with_has op log x (turned i)))))
  where
    turned : {A B : Type 0} → A ⊎ B → B ⊎ A
    turned h = elim h [ inl a ↦ inr a | inr b ↦ inl b ]

-- one more is pushed
pub log_of_more : (ops : List Operation) (i : ℕ) (log new : List Operation) → i < length ops → IsLogOf (take i ops) log → IsLog new → pushed (op_of ops i) log ≡ Ok new → IsLogOf (take (i + 1) ops) new
log_of_more ops i log new h l n e = record {
  is_log = n;
  members = λ x. let p = pushed_has (op_of ops i) log new e x in let m = l.members x in
      subst (λ set. HasOp new x ↔ HasOp set x) (sym (take_more ops i nothing h)) (
        λ k. has_end (take i ops) (op_of ops i) x (elim (p.0 k) [ inl j ↦ inl (m.0 j) | inr d ↦ inr d ]),
        λ k. p.1 (elim (end_has (take i ops) (op_of ops i) x k) [ inl j ↦ inl (m.1 j) | inr d ↦ inr d ]),
      );
}

-- the first that is refused
pub refused_at : (ops : List Operation) (i : ℕ) (log : List Operation) (fault : Fault) → i < length ops → IsLogOf (take i ops) log → (fault ≡ NoMemory) ⊎ (pushed (op_of ops i) log ≡ Err fault)
    → MakesLog ops (Err (record { fault = fault; place = i }))
refused_at ops i log fault h l k = elim k [ inl e ↦ inr (e, h, (log, l)) | inr e ↦ inl (record { op = op_of ops i; log = log; there = slice_get-get_or ops i nothing h; before = l; refused = e }) ]

-- the operations that are left, one after the other
pub next_of : (ops rest : List Operation) (i : ℕ) (op : Operation) → drop i ops ≡ op ∷ rest → (i < length ops) × (op_of ops i ≡ op) × (drop (i + 1) ops ≡ rest)
next_of [] rest zero op e = absurd (cc e)
next_of [] rest (suc i) op e = absurd (cc e)
next_of (x ∷ ops) rest zero op e = let p : x ≡ op = cc e in let q : ops ≡ rest = cc e in (omega arith, p, q)
next_of (x ∷ ops) rest (suc i) op e = let r = next_of ops rest i op e in let one : suc (i + 1) ≡ suc i + 1 = omega arith in
    (omega (arith, r.0), r.1, subst (λ n. drop n (x ∷ ops) ≡ rest) one r.2)

pub all_of : (ops : List Operation) (i : ℕ) → drop i ops ≡ [] → take i ops ≡ ops
all_of [] zero e = refl
all_of [] (suc i) e = refl
all_of (x ∷ ops) zero e = absurd (cc e)
all_of (x ∷ ops) (suc i) e = ap (λ xs. x ∷ xs) (all_of ops i e)
