use Rattle.std.proofs.Common.{◌≡◌, ℕ, arith, drop, false, length, subst}
use Rattle.std.specs.VecDeque.{deque_len}
use Rattle.rt_undo.specs.Flag.{IsTold}
use Rattle.rt_undo.proofs.Told.{told_all}
use Rattle.rt_undo.proofs.flag.Flag.clear.Goals as goal

pub returns-clause-told : goal.returns-clause-told
returns-clause-told c =
    let q = c.args.closed.now in
    let current = c.args.current.now in
    let ns = c.args.numbers.items in
    let len : deque_len q ≡ length q.items = q.ok.0 in
    let groups : length q.items ≡ c.len-self-inside-2.result = omega (arith, c.len-self-inside-2.ensures, len) in
    let place : length ns ≡ c.len-self-inside.result = omega (arith, c.len-self-inside.ensures) in
    subst (λ (p : ℕ × ℕ). IsTold (record { kept = ns; forced = false; groups = p.0; actions = length current; rest = drop p.1 ns }) q.items current)
    (λ i. (groups i, place i)) (told_all q.items current ns false c.requires)
