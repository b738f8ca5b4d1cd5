use Rattle.std.proofs.Common.{◌∙◌, arith}
use Rattle.rt_ops.proofs.Readings.{named_same}
use Rattle.rt_ops.proofs.head.is_named.Goals as goal

pub returns : goal.returns
returns c = c.begins_name.ensures ∙ named_same c.args.front.now c.min-named.result (omega (arith, c.min-named.ensures))
