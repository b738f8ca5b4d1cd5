-- What a push answers, from what was tested.
use Rattle.std.proofs.Common.{◌≡◌, ◌≤◌, Bool, true, false, List, [], ◌∷◌, map, refl, ap, Result, Ok, Err, arith, ◌&&◌}
use Rattle.std.proofs.lemmas.Bool.Decides.{nat_tests}
use Rattle.std.specs.Cmp.Lexicographic.{pointwise}
use Rattle.std.specs.List.{list_any}
use Rattle.rt_stamps.specs.declared.limits.TheConstants.{GREATEST_COUNT}
use Rattle.rt_stamps.specs.declared.fault.Fault.{Fault}
use Rattle.rt_stamps.specs.declared.fault.Fault.TheVariants.{BadStamp, Conflict}
use Rattle.rt_ops.specs.Operations.{Operation, last_count, has_bad_stamp, soundness}
use Rattle.rt_oplog.specs.Logs.{holds, clash, with_operation, pushed}
use Rattle.rt_oplog.proofs.Sets.{split}

pub push_bad : (op : Operation) (log : List Operation) (fault : Fault) → soundness op ≡ Err fault → pushed op log ≡ Err fault
push_bad op log fault h = split (has_bad_stamp op)
    (λ e. let k = rw e at h in let d : BadStamp ≡ fault = cc k in let refused : Fault → Result (List Operation) Fault = λ f. Err f in rw e (ap refused d))
    (λ e. let k = rw e at h in absurd (cc k))

pub sound_if_ok : (op : Operation) (x : Unit {0}) → soundness op ≡ Ok x → has_bad_stamp op ≡ false
sound_if_ok op x h = split (has_bad_stamp op)
    (λ e. let k = rw e at h in absurd (cc k))
    (λ e. e)

pub push_new : (op : Operation) (log : List Operation) → has_bad_stamp op ≡ false → holds log op ≡ false → list_any (clash op) log ≡ false → pushed op log ≡ Ok (with_operation op log)
push_new op log s n f = rw (s, n, f) refl

pub push_held : (op : Operation) (log : List Operation) → has_bad_stamp op ≡ false → holds log op ≡ true → pushed op log ≡ Ok log
push_held op log s h = rw (s, h) refl

pub push_clash : (op : Operation) (log : List Operation) → has_bad_stamp op ≡ false → holds log op ≡ false → list_any (clash op) log ≡ true → pushed op log ≡ Err Conflict
push_clash op log s n f = rw (s, n, f) refl

pub sound_last : (op : Operation) → has_bad_stamp op ≡ false → last_count op ≤ GREATEST_COUNT
sound_last op h = grind (arith, nat_tests)

pub pointwise_map : {X Y : Type 0} (e : Y → Y → Bool) (f : X → Y) (xs ys : List X) → pointwise e (map f xs) (map f ys) ≡ pointwise (λ x y. e (f x) (f y)) xs ys
pointwise_map e f [] [] = refl
pointwise_map e f [] (y ∷ ys) = refl
pointwise_map e f (x ∷ xs) [] = refl
pointwise_map e f (x ∷ xs) (y ∷ ys) = ap (λ b. e (f x) (f y) && b) (pointwise_map e f xs ys)
