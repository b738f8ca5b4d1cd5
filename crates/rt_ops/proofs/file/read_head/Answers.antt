use Rattle.std.proofs.Common.{arith}
use Rattle.std.proofs.lemmas.Result.{err_from_is_err_and}
use Rattle.rt_ops.proofs.Taken.{head_not_gathered}
use Rattle.rt_ops.proofs.Readings.{got_head, gave_head, unseen_head}
use Rattle.rt_ops.proofs.file.read_head.Goals as goal

pub returns-in_err-gather-clause-gets : goal.returns-in_err-gather-clause-gets
returns-in_err-gather-clause-gets g c =
    let p = err_from_is_err_and c.from_residual.result c.from_residual.ensures.1 in
    rw (p.1, p.2) (head_not_gathered _ _ _ _ c.in_err-gather.field-0.0 c.in_err-gather.ensures.gathers)

pub returns-clause-gets : goal.returns-clause-gets
returns-clause-gets g c = got_head _ _ _ _ c.gather.new.buffer.items c.deref.result.now c.head_of.result c.head_of.ensures c.deref.ensures.value c.in_ok-gather.ensures.gathers

pub returns-clause-gave : goal.returns-clause-gave
returns-clause-gave g c = gave_head c.gather.new.buffer.items c.deref.result.now c.head_of.result c.head_of.ensures c.deref.ensures.value (c.in_ok-gather.ensures.gave (omega arith))

pub returns-clause-unseen : goal.returns-clause-unseen
returns-clause-unseen g c = unseen_head _ c.deref.result.now c.head_of.result c.head_of.ensures
