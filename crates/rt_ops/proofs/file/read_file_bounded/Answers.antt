use Rattle.std.proofs.Common.{◌≡◌, ◌-◌, true, false, length, Some, refl, sym, ap, ◌∙◌, arith}
use Rattle.std.proofs.lemmas.Result.{err_from_is_err_and}
use Rattle.rt_stamps.specs.declared.limits.Bounds.{Bounds}
use Rattle.rt_ops.specs.File.{file_of}
use Rattle.rt_ops.specs.Intake.{ReadsFile, StopsUnseen}
use Rattle.rt_ops.proofs.Readings.{ended_as, ended_by, ends_head, ends_fault, ends_unrisen, ends_whole, records_more, last_push, follows, ended_memory, memory_first, memory_in, memory_after}
use Rattle.rt_ops.proofs.Unseen.{gave_then, unseen_then}
use Rattle.rt_ops.proofs.file.read_file_bounded.Goals as goal

pub returns-in-Err-clause-reads : goal.returns-in-Err-clause-reads
returns-in-Err-clause-reads g c =
    ended_as c.ended.result _ _ _ (ReadsFile _ _ _) c.new-ops.result.items c.new-offsets.result.items c.in-Err.fault 0 c.ended.ensures.ops c.ended.ensures.offsets c.ended.ensures.fault
    (λ other. rw (c.new-ops.ensures.items, c.new-offsets.ensures.items) (ends_head _ _ _ _ c.in-Err.fault c.in-Err.ensures.gets other))

pub returns-in-Err-next_op-clause-reads : goal.returns-in-Err-next_op-clause-reads
returns-in-Err-next_op-clause-reads g c =
    let ops = c.records.ops.items in
    let offset = c.args.max_bytes - c.records.bounds.bytes in
    let place : offset ≡ length (file_of c.in-Ok.version ops) = omega (arith, c.records.invariant.takes.room) in
    let end = c.ended-in-Err-next_op in
    ended_as end.result _ _ _ (ReadsFile _ _ _) ops c.records.offsets.items c.in-Err-next_op.fault offset end.ensures.ops end.ensures.offsets end.ensures.fault
    (λ other. ends_fault _ _ _ _ _ _ ops c.records.offsets.items c.in-Err-next_op.fault offset c.records.invariant.takes c.records.invariant.are c.records.invariant.offsets c.in-Err-next_op.ensures.gets other place)

pub returns-then-not-may_follow-clause-reads : goal.returns-then-not-may_follow-clause-reads
returns-then-not-may_follow-clause-reads g c =
    let ops = c.records.ops.items in
    let op = c.in-Ok-Some.op in
    let offset = c.args.max_bytes - c.records.bounds.bytes in
    let place : offset ≡ length (file_of c.in-Ok.version ops) = omega (arith, c.records.invariant.takes.room) in
    let gets = rw c.in-Ok-Some.field-0-is at c.in-Ok-Some.ensures.gets in
    let end = c.ended-then-not-may_follow in
    ended_as end.result _ _ _ (ReadsFile _ _ _) ops c.records.offsets.items _ offset end.ensures.ops end.ensures.offsets end.ensures.fault
    (λ other. ends_unrisen _ _ _ _ _ _ ops c.records.offsets.items op offset c.records.invariant.takes c.records.invariant.are c.records.invariant.offsets gets.0 gets.1
    (follows ops c.records.last op false c.records.invariant.last c.if-not-may_follow.ensures) place)

pub records-preserved : goal.records-preserved
records-preserved g c =
    let ops = c.records.ops.items in
    let op = c.in-Ok-Some.op in
    let offset = c.args.max_bytes - c.records.bounds.bytes in
    let place : offset ≡ length (file_of c.in-Ok.version ops) = omega (arith, c.records.invariant.takes.room) in
    let gets = rw c.in-Ok-Some.field-0-is at c.in-Ok-Some.ensures.gets in
    let one = rw c.in-Ok-Some.field-0-is at c.in-Ok-Some.ensures.gave in
    let gave = gave_then g.R.Source.stream _ _ _ (file_of c.in-Ok.version ops) c.records.invariant.takes.consumed one in
    let more = records_more _ _ _ _ _ _ ops c.records.offsets.items op offset c.records.invariant.takes c.records.invariant.are c.records.invariant.offsets gets.0 gets.1
    (follows ops c.records.last op true c.records.invariant.last c.if-not-may_follow.ensures) place in
    rw (c.in_ok-push.ensures.items, c.in_ok-push-2.ensures.items) (record { takes = more.0; gave = gave; are = more.1; offsets = more.2; last = ap Some c.stamp.ensures ∙ sym (last_push ops op) })

pub returns-clause-reads : goal.returns-clause-reads
returns-clause-reads g c =
    ends_whole _ _ _ _ _ _ c.records.ops.items c.records.offsets.items c.records.invariant.takes c.records.invariant.are c.records.invariant.offsets (rw c.in-Ok-None.field-0-is at c.in-Ok-None.ensures.gets)

pub returns-in-Err-clause-memory : goal.returns-in-Err-clause-memory
returns-in-Err-clause-memory g c = ended_memory c.ended.result _ _ _ c.in-Err.fault c.ended.ensures.memory (memory_first _ _ _ _ c.in-Err.fault c.in-Err.ensures.gets)

pub returns-in-Err-next_op-clause-memory : goal.returns-in-Err-next_op-clause-memory
returns-in-Err-next_op-clause-memory g c =
    ended_memory c.ended-in-Err-next_op.result _ _ _ c.in-Err-next_op.fault c.ended-in-Err-next_op.ensures.memory (memory_in _ _ _ _ _ _ _ c.in-Err-next_op.fault c.records.invariant.takes c.in-Err-next_op.ensures.gets)

pub returns-in_err-push-clause-memory : goal.returns-in_err-push-clause-memory
returns-in_err-push-clause-memory g c =
    let p = err_from_is_err_and c.from_residual.result c.from_residual.ensures.1 in
    let gets = rw c.in-Ok-Some.field-0-is at c.in-Ok-Some.ensures.gets in
    rw (p.1, p.2) (refl, memory_after _ _ _ _ _ _ _ _ c.records.invariant.takes gets.0)

pub returns-in_err-push-2-clause-memory : goal.returns-in_err-push-2-clause-memory
returns-in_err-push-2-clause-memory g c =
    let p = err_from_is_err_and c.from_residual-in_err-push-2.result c.from_residual-in_err-push-2.ensures.1 in
    let gets = rw c.in-Ok-Some.field-0-is at c.in-Ok-Some.ensures.gets in
    rw (p.1, p.2) (refl, memory_after _ _ _ _ _ _ _ _ c.records.invariant.takes gets.0)

pub returns-in-Err-next_op-clause-unseen : goal.returns-in-Err-next_op-clause-unseen
returns-in-Err-next_op-clause-unseen g c =
    let taken = c.records.invariant.takes in
    let offset = c.args.max_bytes - c.records.bounds.bytes in
    let end = c.ended-in-Err-next_op in
    let bounds : Bounds = record { bytes = c.args.max_bytes; reads = c.args.max_reads } in
    ended_by end.result _ (StopsUnseen g.R.Source.stream bounds _ _) c.in-Err-next_op.fault offset end.ensures.fault
    (λ is same. unseen_then g.R.Source.stream _ _ _ bounds c.records.bounds (file_of c.in-Ok.version c.records.ops.items) taken.consumed c.records.invariant.gave (c.in-Err-next_op.ensures.unseen is (same ∙ sym taken.failures)))
