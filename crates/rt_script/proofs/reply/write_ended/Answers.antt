use Rattle.std.proofs.lemmas.Result.{err_from_is_err_and}
use Rattle.rt_stamps.proofs.Writes.{writes_front, writes_then}
use Rattle.rt_script.specs.Replies.{text_of_refusal}
use Rattle.rt_script.proofs.reply.write_ended.Goals as goal

pub returns-in_err-write_fault : goal.returns-in_err-write_fault
returns-in_err-write_fault g c =
    let p = err_from_is_err_and c.from_residual.result c.from_residual.ensures.1 in
    rw (p.1, p.2) (writes_front _ _ _ (text_of_refusal c.args.fault) _ c.in_err-write_fault.ensures)

pub returns-in_err-write_parts : goal.returns-in_err-write_parts
returns-in_err-write_parts g c =
    let p = err_from_is_err_and c.from_residual-in_err-write_parts.result c.from_residual-in_err-write_parts.ensures.1 in
    rw (p.1, p.2) (writes_then _ _ _ _ _ _ _ c.in_ok-write_fault.ensures (writes_front _ _ _ _ _ c.in_err-write_parts.ensures))

pub returns : goal.returns
returns g c =
    writes_then _ _ _ _ c.write_held.result _ _ c.in_ok-write_fault.ensures (writes_then _ _ _ _ c.write_held.result _ _ c.in_ok-write_parts.ensures c.write_held.ensures)
