-- A larger history has no fewer cells.
use Rattle.std.proofs.Common.{◌≡◌, ℕ, ◌+◌, ◌≤◌, false, true, inl, inr, refl, sym, ap, subst, arith, List, [], ◌∷◌, cond, length, not}
use Rattle.std.specs.List.{AllByRecursion}
use Rattle.rt_stamps.specs.Stamps.{is_before}
use Rattle.rt_ops.specs.Operations.{Operation, stamp_of}
use Rattle.rt_oplog.specs.Logs.{HasOp, same_operation, with_operation}
use Rattle.rt_oplog.proofs.Sets.{held_from, operation_refl, operation_true}
use Rattle.rt_rga.specs.Cells.{cells_of}
use Rattle.rt_rga.specs.Histories.{IsHistory, inserted}
use Rattle.rt_rga.specs.Orders.{AreIn}
use Rattle.rt_rga.proofs.Accepting.{not_held}
use Rattle.rt_rga.proofs.Counts.{length_with}
use Rattle.rt_rga.proofs.Skipping.{split}
use Rattle.rt_holding.specs.Holding.{without_op}
use Rattle.rt_holding.proofs.Keeping.{without_or}

-- how many characters were inserted
abbrev total : List Operation → ℕ
total [] = 0
total (op ∷ ops) = total ops + length (inserted op)

put_in_front : (op : Operation) (older : List Operation) → AllByRecursion (λ q. is_before (stamp_of q) (stamp_of op) ≡ true) older → with_operation op older ≡ op ∷ older
put_in_front op [] a = refl
put_in_front op (q ∷ older) a = let e = a.0 in rw e refl

cells_by_total : (log : List Operation) → IsHistory log → length (cells_of log) ≡ length (cells_of []) + total log
cells_by_total [] h = omega arith
cells_by_total (op ∷ older) h =
    let w = put_in_front op older h.0 in
    let i = cells_by_total older h.2 in
    let k = length_with older op h.2 (subst IsHistory (sym w) h) in
    let e = ap (λ (ops : List Operation). length (cells_of ops)) w in
    omega (arith, i, k, e)

total_less : (op : Operation) (log : List Operation) → total (without_op op log) ≤ total log
total_less op [] = omega arith
total_less op (q ∷ log) =
    let i = total_less op log in
    elim (not (same_operation q op)) as (λ t. total (cond t (q ∷ without_op op log) (without_op op log)) ≤ total (q ∷ log)) [ true ↦ omega (arith, i) | false ↦ omega (arith, i) ]

total_without : (op : Operation) (log : List Operation) → HasOp log op → total (without_op op log) + length (inserted op) ≤ total log
total_without op [] h = absurd h
total_without op (q ∷ log) h = split (same_operation q op)
    (λ e. let i = total_less op log in
    let n = ap (λ (x : Operation). length (inserted x)) (operation_true q op e) in
    rw e (omega (arith, i, n)))
    (λ e. rw e (elim h [
      | inl i ↦ absurd (let j : same_operation q op ≡ true = rw i (operation_refl op) in cc (e, j))
      | inr i ↦ omega (arith, total_without op log i)
    ]))

more_total : (older log : List Operation) → IsHistory older → AreIn older log → total older ≤ total log
more_total [] log h sub = omega arith
more_total (op ∷ older) log h sub =
    let i = total_without op log (sub op (inl refl)) in
    let j = more_total older (without_op op log) h.2 (λ x k. elim (without_or op log x (sub x (inr k))) [
      | inl e ↦ absurd (let m = held_from older op (subst (HasOp older) (sym e) k) in let n = not_held older op h.1 in cc (m, n))
      | inr m ↦ m
    ]) in
    omega (arith, i, j)

pub no_fewer_cells : (older log : List Operation) → IsHistory older → IsHistory log → AreIn older log → length (cells_of older) ≤ length (cells_of log)
no_fewer_cells older log h m sub =
    let i = cells_by_total older h in
    let j = cells_by_total log m in
    let k = more_total older log h sub in
    omega (arith, i, j, k)
