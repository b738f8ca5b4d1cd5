use Rattle.std.proofs.Common.{ap, sym, ◌∙◌, ◌++◌, arith}
use Rattle.std.specs.Prelude.{encode_utf8}
use Rattle.rt_tagcmd.proofs.Values.{bytes_more}
use Rattle.rt_tagcmd.proofs.texts.text_value.Goals as goal

pub loop-c-preserved : goal.loop-c-preserved
loop-c-preserved c =
    c.in_ok-push.ensures.bytes ∙ ap (λ v. v ++ encode_utf8 c.c-item.result) c.loop-c.invariant ∙ sym (bytes_more c.args.chars.now c.loop-c.c-index c.c-item.result (omega arith) (sym c.c-item.is))
