use Rattle.std.proofs.Common.{◌≡◌, ◌∙◌, ℕ, List, [], ◌∷◌, ap, arith, false, length, refl, subst, sym}
use Rattle.std.proofs.lemmas.Result.{err_from_is_err_and}
use Rattle.rt_ops.specs.Operations.{Operation, stamp_of}
use Rattle.rt_oplog.specs.Logs.{with_operation}
use Rattle.rt_store.specs.declared.cell.Cell.{Cell}
use Rattle.rt_store.specs.Cells.{StandsBefore, cells_from, skip_from}
use Rattle.rt_store.specs.Tagged.{AreStates}
use Rattle.rt_tags.proofs.Keeping.{keeps_itself}
use Rattle.rt_rga.specs.Making.{next_insert}
use Rattle.rt_rga.specs.Replicas.{IsReplica}
use Rattle.rt_rga.proofs.Replicas.{all_from_states, replica_insert, replica_placed}
use Rattle.rt_rga.proofs.Typing.{found, spliced}
use Rattle.rt_rga.proofs.character.put_character.Goals as goal

pub after_skip-at-requires-clause-left : goal.after_skip-at-requires-clause-left
after_skip-at-requires-clause-left g c =
    let log : List Operation = c.args.log.now.operations in
    let op : Operation = next_insert c.args.stamp.site c.args.after c.args.character log in
    let kept : List (Cell ℕ) = g.S.TextStore.list c.args.store.now in
    let placed = replica_placed log c.args.states.now kept op c.args.after [] (c.args.character ∷ []) c.requires.replica refl c.requires.continues in
    subst (λ (cells : List (Cell ℕ)). StandsBefore cells c.args.after) (sym c.reserve.ensures.same) placed.stands

pub splice-requires : goal.splice-requires
splice-requires g c =
    let log : List Operation = c.args.log.now.operations in
    let op : Operation = next_insert c.args.stamp.site c.args.after c.args.character log in
    let kept : List (Cell ℕ) = g.S.TextStore.list c.args.store.now in
    let placed = replica_placed log c.args.states.now kept op c.args.after [] (c.args.character ∷ []) c.requires.replica refl c.requires.continues in
    let stamp : c.args.stamp ≡ stamp_of op = λ i. record { count = c.requires.next i; site = c.args.stamp.site } in
    let at : c.after_skip-at.result ≡ skip_from kept c.args.after (stamp_of op) =
    found c.after_skip-at.result (g.S.TextStore.list c.reserve.new.self) kept c.args.after c.args.stamp (stamp_of op) c.after_skip-at.ensures c.reserve.ensures.same stamp in
    let one : c.from_ref.result.now ≡ cells_from c.args.stamp.count c.args.stamp.site 0 (c.args.character ∷ []) = c.from_ref.ensures.value ∙ ap (λ (cell : Cell ℕ). cell ∷ []) c.new_cell-cell.ensures in
    let room = c.in_ok-reserve.ensures.ok in
    record {
      within = omega (arith, at, placed.within, ap (λ (cells : List (Cell ℕ)). length cells) c.reserve.ensures.same);
      states = c.reserve.ensures.agrees c.args.states.now c.requires.agrees;
      new = subst (AreStates c.args.states.now) (sym one) (all_from_states c.args.states.now c.args.stamp.count c.args.stamp.site 0 (c.args.character ∷ []) c.order.ensures.given);
      room = (omega (arith, room.0, ap (λ (cells : List (Cell ℕ)). length cells) one), room.1, omega (arith, room.2, c.tags.ensures));
    }

pub returns-in_err-reserve : goal.returns-in_err-reserve
returns-in_err-reserve g c =
    let (y, is, gives) = err_from_is_err_and c.from_residual.result c.from_residual.ensures.1 in
    rw (is, gives) (record { replica = tt; cells = tt; agrees = c.reserve.ensures.agrees c.args.states.now c.requires.agrees; same = c.in_err-reserve.ensures.same; fault = c.in_err-reserve.ensures.err })

pub returns-clause-replica : goal.returns-clause-replica
returns-clause-replica g c =
    let log : List Operation = c.args.log.now.operations in
    let op : Operation = next_insert c.args.stamp.site c.args.after c.args.character log in
    let kept : List (Cell ℕ) = g.S.TextStore.list c.args.store.now in
    let stamp : c.args.stamp ≡ stamp_of op = λ i. record { count = c.requires.next i; site = c.args.stamp.site } in
    let at : c.after_skip-at.result ≡ skip_from kept c.args.after (stamp_of op) =
    found c.after_skip-at.result (g.S.TextStore.list c.reserve.new.self) kept c.args.after c.args.stamp (stamp_of op) c.after_skip-at.ensures c.reserve.ensures.same stamp in
    let new : c.from_ref.result.now ≡ cells_from op.count op.site 0 (c.args.character ∷ []) =
    c.from_ref.ensures.value ∙ ap (λ (cell : Cell ℕ). cell ∷ []) (c.new_cell-cell.ensures ∙ (λ i. record { stamp = stamp i; ch = c.args.character; gone = false; state = 0 })) in
    subst (IsReplica (with_operation op log) c.args.states.now) (sym (spliced c.after_skip-at.result (skip_from kept c.args.after (stamp_of op)) (g.S.TextStore.list c.reserve.new.self) kept c.from_ref.result.now (cells_from op.count op.site 0 (c.args.character ∷ []))
    (g.S.TextStore.list c.splice.new.self) c.splice.ensures.list at new c.reserve.ensures.same))
    (replica_insert log c.args.states.now c.args.states.now kept op c.args.after [] (c.args.character ∷ []) 0 c.requires.replica refl c.requires.continues
    (keeps_itself c.args.states.now) c.order.ensures.given c.order.ensures.empty)
