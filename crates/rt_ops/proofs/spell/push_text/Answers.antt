use Rattle.std.proofs.Common.{◌++◌, append_assoc, ap, sym, ◌∙◌, take}
use Rattle.std.specs.Prelude.{encode_utf8_all}
use Rattle.rt_ops.proofs.Spelled.{encodes_more}
use Rattle.rt_ops.proofs.spell.push_text.Goals as goal

pub loop-c-preserved : goal.loop-c-preserved
loop-c-preserved c =
    let front = encode_utf8_all (take c.loop-c.c-index c.args.text.now) in
    let byte = c.as_bytes.ensures.value ∙ c.encode_utf8.ensures.value in
    let more = encodes_more c.args.text.now c.loop-c.c-index _ c.loop-c-test.true c.c-item.is in
    c.in_ok-extend_from_slice.ensures.items ∙ ap (λ v. v ++ c.as_bytes.result.now) c.loop-c.invariant ∙ append_assoc c.args.out.now.items front c.as_bytes.result.now
    ∙ ap (λ v. c.args.out.now.items ++ v) (ap (λ v. front ++ v) byte ∙ sym more)
