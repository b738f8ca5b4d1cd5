use Rattle.std.proofs.Common.{◌≡◌, ◌∙◌, List, ap, arith, sym, true}
use Rattle.std.proofs.lemmas.List.Elements.{All-from_recursion}
use Rattle.rt_stamps.specs.Stamps.{is_before}
use Rattle.rt_ops.specs.Operations.{Operation, stamp_of}
use Rattle.rt_oplog.specs.Logs.{with_operation}
use Rattle.rt_rga.specs.Histories.{greatest_last_count}
use Rattle.rt_rga.proofs.Counts.{count_with}
use Rattle.rt_rga.proofs.Drafting.{put_in_front}
use Rattle.rt_rga.proofs.Pushing.{taken_in}
use Rattle.rt_rga.proofs.logging.push_next.Goals as goal

pub append-requires-clause-sound : goal.append-requires-clause-sound
append-requires-clause-sound c = c.requires.continues.sound

pub append-requires-clause-newest : goal.append-requires-clause-newest
append-requires-clause-newest c = All-from_recursion (λ q. is_before (stamp_of q) (stamp_of c.args.op) ≡ true) c.args.log.now.operations (c.is_newest-is_newest.ensures c.if-is_newest.true)

pub append-requires-clause-prev : goal.append-requires-clause-prev
append-requires-clause-prev c = omega (arith, c.requires.continues.prev)

pub returns-then-is_newest-clause-operations : goal.returns-then-is_newest-clause-operations
returns-then-is_newest-clause-operations c =
    c.append.ensures.operations ∙ sym (put_in_front c.args.op c.args.log.now.operations (c.is_newest-is_newest.ensures c.if-is_newest.true))

pub returns-else-is_newest-clause-operations : goal.returns-else-is_newest-clause-operations
returns-else-is_newest-clause-operations c =
    (taken_in c.args.op c.args.log.now c.push-added.new.self c.push-added.result c.push-added.ensures c.requires.history c.requires.continues (omega (arith, c.requires.room))).0

pub returns-else-is_newest-clause-seen : goal.returns-else-is_newest-clause-seen
returns-else-is_newest-clause-seen c =
    let op : Operation = c.args.op in
    let old : List Operation = c.args.log.now.operations in
    let pushed : c.push-added.new.self.operations ≡ with_operation op old =
    (taken_in op c.args.log.now c.push-added.new.self c.push-added.result c.push-added.ensures c.requires.history c.requires.continues (omega (arith, c.requires.room))).0 in
    omega (arith, c.saw.ensures, c.last_count.ensures, count_with op old, ap greatest_last_count pushed, c.requires.seen)
