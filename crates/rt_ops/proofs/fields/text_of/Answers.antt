use Rattle.rt_ops.proofs.Parts.{text_read}
use Rattle.rt_ops.proofs.fields.text_of.Goals as goal

pub returns : goal.returns
returns c = text_read c.of_str.result (λ text. text) c.args.bytes.now c.in-Ok.text.now c.in-Ok.ensures.cases c.of_str.ensures.ok c.of_str.ensures.fault
