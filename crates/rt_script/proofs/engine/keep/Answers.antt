use Rattle.std.proofs.Common.{◌∙◌, arith}
use Rattle.rt_script.proofs.RunLaws.{kept_more}
use Rattle.rt_script.proofs.engine.keep.Goals as goal

pub returns-clause-kept : goal.returns-clause-kept
returns-clause-kept c =
    c.in_ok-extend_from_slice.ensures.items ∙ kept_more c.args.pending.now.items c.args.bytes.now _ c.requires (omega (arith, c.min.ensures))
