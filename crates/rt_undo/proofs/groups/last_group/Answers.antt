use Rattle.std.proofs.Common.{◌≡◌, ◌∙◌, ◌-◌, ◌<◌, Some, ap, arith, length, refl, slice_get, sym}
use Rattle.std.specs.VecDeque.{deque_len}
use Rattle.std.proofs.lemmas.Option.{slice_get_read}
use Rattle.rt_undo.specs.Actions.{group_of}
use Rattle.rt_undo.proofs.Histories.{last_closed}
use Rattle.rt_undo.proofs.groups.last_group.Goals as goal

pub returns-in-Some : goal.returns-in-Some
returns-in-Some c =
    let q = c.args.closed.now in
    let len : deque_len q ≡ length q.items = q.ok.0 in
    let some : 0 < deque_len q = c.in-Some.ensures.variant.0 refl in
    ap (λ l. Some (group_of l)) c.as_slice.ensures.value
    ∙ last_closed q.items c.args.current.now c.in-Some.group.now (sym c.is_empty.ensures ∙ c.if-not-is_empty.false)
    (sym (slice_get_read q.items (deque_len q) (deque_len q - 1) c.in-Some.group.now len (omega arith) c.in-Some.ensures.lookup)
    ∙ ap (λ n. slice_get q.items (n - 1)) len)
