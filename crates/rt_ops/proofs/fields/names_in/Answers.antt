use Rattle.std.proofs.Common.{map, string_bytes, Global, ◌∙◌, arith}
use Rattle.std.proofs.lemmas.List.{length-map}
use Rattle.std.proofs.lemmas.Result.{err_from_is_err_and}
use Rattle.std.proofs.lemmas.Grind.{common_steps}
use Rattle.rt_ops.proofs.Parts.{refused_as, names_end}
use Rattle.rt_ops.proofs.fields.names_in.Goals as goal

pub returns-in_err-tag : goal.returns-in_err-tag
returns-in_err-tag c =
    let p = err_from_is_err_and c.from_residual.result c.from_residual.ensures.1 in
    let done = map (string_bytes {Z = Global}) c.loop.tags.items in
    rw (p.1, p.2) (refused_as c.in_err-tag.field-0.0 (names_end c.args.bytes.now c.loop.left.now done c.loop.counter c.args.count
    (length-map c.loop.tags.items (string_bytes {Z = Global}) ∙ c.loop.invariant.count) c.loop-test.true c.loop.invariant.bytes) c.in_err-tag.ensures)

pub loop-preserved : goal.loop-preserved
loop-preserved c = grind (arith, common_steps)
