use Rattle.std.proofs.Common.{◌≡◌, ◌∙◌, ◌∷◌, List, ap, arith, length, subst, sym}
use Rattle.std.specs.Vec.Iter.{into_iter_items}
use Rattle.rt_ops.specs.Operations.{Operation}
use Rattle.rt_oplog.specs.Logs.{with_operation}
use Rattle.rt_rga.specs.Drafts.{ContinueInTurn, with_operations}
use Rattle.rt_rga.specs.Making.{AreNewest}
use Rattle.rt_rga.proofs.logging.push_all.Goals as goal

pub push_newest-requires-clause-continues : goal.push_newest-requires-clause-continues
push_newest-requires-clause-continues c =
    (subst (λ (ops : List Operation). ContinueInTurn c.loop-op.log.operations ops) c.in-Some.ensures.steps.0 c.loop-op.invariant.continues).0

pub push_newest-requires-clause-newest : goal.push_newest-requires-clause-newest
push_newest-requires-clause-newest c =
    (subst (λ (ops : List Operation). AreNewest c.loop-op.log.operations ops) c.in-Some.ensures.steps.0 c.loop-op.invariant.newest).0

pub push_newest-requires-clause-room : goal.push_newest-requires-clause-room
push_newest-requires-clause-room c = omega (arith, ap length c.in-Some.ensures.steps.0, c.loop-op.invariant.room)

pub loop-op-preserved : goal.loop-op-preserved
loop-op-preserved c =
    let op : Operation = c.in-Some.op in
    let old = c.loop-op.log in
    let new = c.push_newest.new.log in
    let rest = into_iter_items c.next.new.self in
    let first : into_iter_items c.loop-op.op-iterator ≡ op ∷ rest = c.in-Some.ensures.steps.0 in
    let before = c.loop-op.invariant in
    let k = subst (λ (ops : List Operation). ContinueInTurn old.operations ops) first before.continues in
    let above = subst (λ (ops : List Operation). AreNewest old.operations ops) first before.newest in
    let there = ap length first in
    let appended : new.operations ≡ with_operation op old.operations = c.push_newest.ensures.operations in
    record {
      continues = subst (λ (log : List Operation). ContinueInTurn log rest) (sym appended) k.1;
      newest = subst (λ (log : List Operation). AreNewest log rest) (sym appended) above.1;
      room = omega (arith, there, before.room, c.push_newest.ensures.room);
      seen = c.push_newest.ensures.seen;
      operations = ap (with_operations rest) appended ∙ ap (λ (ops : List Operation). with_operations ops old.operations) (sym first) ∙ before.operations;
    }
