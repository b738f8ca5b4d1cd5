use Rattle.std.proofs.Common.{inr, refl, ◌∙◌}
use Rattle.rt_ops.proofs.Parts.{name_read, no_name}
use Rattle.rt_ops.proofs.fields.name_in.Goals as goal

pub returns-in_ok-from_str-in-Ok : goal.returns-in_ok-from_str-in-Ok
returns-in_ok-from_str-in-Ok c = name_read c.args.bytes.now c.split_at.result.0.now c.split_at.result.1.now _ c.args.length c.if-bytes-length.false c.split_at.ensures.front c.split_at.ensures.back
    c.in-Ok.ensures.cases.1 (c.in_ok-from_str-in-Ok.ensures.ok ∙ c.in-Ok.ensures.cases.0)

pub returns-in-Err : goal.returns-in-Err
returns-in-Err c = inr (refl, λ name more fits e. no_name c.args.bytes.now c.split_at.result.0.now c.args.length c.split_at.ensures.front c.in-Err.ensures.cases.0 name more fits e)
