-- What is written of a log is read back as the log's operations, and they have that log.
use Rattle.std.proofs.Common.{◌≡◌, ◌↔◌, ℕ, zero, suc, Bool, true, inl, inr, refl, sym, subst, arith, List, [], ◌∷◌, ◌++◌, take, reverse, Some, None}
use Rattle.std.specs.Prelude.{slice_get, OnOk, Result, Ok, Err}
use Rattle.std.specs.List.{AllByRecursion}
use Rattle.std.proofs.lemmas.Bool.Decides.{nat_tests}
use Rattle.std.proofs.lemmas.List.{reverse-append}
use Rattle.std.proofs.lemmas.Option.{slice_get_within}
use Rattle.rt_stamps.specs.declared.fault.Fault.{Fault}
use Rattle.rt_stamps.specs.Stamps.{is_before}
use Rattle.rt_ops.specs.Operations.{Operation, stamp_of}
use Rattle.rt_ops.specs.Rules.{each_next}
use Rattle.rt_ops.specs.File.{spelling, version_of, HasRecord}
use Rattle.rt_ops.specs.Reading.{offsets_of, Reads}
use Rattle.rt_oplog.specs.Logs.{HasOp, holds, clash, IsFalling, IsLog}
use Rattle.rt_oplog.specs.Outcomes.{IsLogOf, IsFirstRefused}
use Rattle.rt_oplog.proofs.Sets.{split, none_from, same_set, member_before}
use Rattle.rt_oplog.proofs.Merges.{has_end, end_has}
use Rattle.rt_ops.proofs.Unique.{spelled_is_read}

reverse_cons : (op : Operation) (older : List Operation) → reverse (op ∷ older) ≡ reverse older ++ op ∷ []
reverse_cons op older = reverse-append (op ∷ []) older

pub reversed_has : (set : List Operation) (x : Operation) → HasOp (reverse set) x ↔ HasOp set x
reversed_has [] x = (λ h. h, λ h. h)
reversed_has (op ∷ older) x = subst (λ s. HasOp s x ↔ HasOp (op ∷ older) x) (sym (reverse_cons op older)) (
  λ h. elim (end_has (reverse older) op x h) [ inl i ↦ inr ((reversed_has older x).0 i) | inr e ↦ inl e ],
  λ h. has_end (reverse older) op x (elim h [ inl e ↦ inr e | inr i ↦ inl ((reversed_has older x).1 i) ]),
)

-- ---- stamps rise from the oldest on

abbrev rises : Operation → Operation → Bool
rises a b = is_before (stamp_of a) (stamp_of b)

rising_end : (xs : List Operation) (op : Operation) → each_next rises xs ≡ true → ((x : Operation) → HasOp xs x → rises x op ≡ true) → each_next rises (xs ++ op ∷ []) ≡ true
rising_end [] op h f = refl
rising_end (q ∷ []) op h f = rw (f q (inl refl)) refl
rising_end (q ∷ (r ∷ xs)) op h f =
    let one : rises q r ≡ true = grind (arith, nat_tests) in
    let others : each_next rises (r ∷ xs) ≡ true = grind (arith, nat_tests) in
    let rest : each_next rises ((r ∷ xs) ++ op ∷ []) ≡ true = rising_end (r ∷ xs) op others (λ x i. f x (inr i)) in
    rw (one, rest) refl

rising_reversed : (set : List Operation) → IsFalling set → each_next rises (reverse set) ≡ true
rising_reversed [] f = refl
rising_reversed (op ∷ older) f =
    subst (λ s. each_next rises s ≡ true) (sym (reverse_cons op older))
    (rising_end (reverse older) op (rising_reversed older f.1) (λ x i. member_before op x older f.0 ((reversed_has older x).0 i)))

-- ---- the file of a log

pub written_is_read : (log : List Operation) → IsLog log → AllByRecursion (HasRecord (version_of (reverse log))) (reverse log) → Reads (spelling (reverse log)) (reverse log) (offsets_of (reverse log)) None
written_is_read log is all = spelled_is_read (reverse log) (record { records = all; rising = rising_reversed log is.falling })

pub on_ok : {X E A B : Type 0} (result : Result X E) → (A → B) → OnOk result A → OnOk result B
on_ok (Ok x) f h = f h
on_ok (Err e) f h = tt

-- ---- the log of the operations of a log

pub same_log : (log other : List Operation) → IsLog log → IsLogOf (reverse log) other → other ≡ log
same_log log other l of = same_set other log of.is_log.falling l.falling (λ x. (λ i. (reversed_has log x).0 ((of.members x).0 i), λ i. (of.members x).1 ((reversed_has log x).1 i)))

taken_has : (ops : List Operation) (n : ℕ) (x : Operation) → HasOp (take n ops) x → HasOp ops x
taken_has ops zero x h = absurd h
taken_has [] (suc n) x h = h
taken_has (op ∷ ops) (suc n) x h = elim h [ inl e ↦ inl e | inr i ↦ inr (taken_has ops n x i) ]

at_place_has : (ops : List Operation) (place : ℕ) (op : Operation) → slice_get ops place ≡ Some op → HasOp ops op
at_place_has [] place op h = absurd (omega (arith, slice_get_within [] place op h))
at_place_has (q ∷ ops) zero op h = let same : q ≡ op = cc h in inl same
at_place_has (q ∷ ops) (suc place) op h = inr (at_place_has ops place op h)

pub accepted : (log : List Operation) (place : ℕ) (fault : Fault) → IsLog log → IsFirstRefused (reverse log) place fault → ⊥
accepted log place fault l refused =
    let op = refused.op in
    let mine : HasOp log op = (reversed_has log op).0 (at_place_has (reverse log) place op refused.there) in
    let sound = l.sound op mine in
    let free = none_from (clash op) refused.log (λ x i. l.free op x mine ((reversed_has log x).0 (taken_has (reverse log) place x ((refused.before.members x).0 i)))) in
    split (holds refused.log op)
    (λ h. let k = rw (sound, h) at refused.refused in cc k)
    (λ h. let k = rw (sound, h, free) at refused.refused in cc k)
