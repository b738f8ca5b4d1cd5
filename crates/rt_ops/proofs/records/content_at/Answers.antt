use Rattle.std.proofs.Common.{◌≤◌, length, refl, inl, inr, arith}
use Rattle.std.proofs.lemmas.Result.{err_from_is_err_and}
use Rattle.rt_ops.proofs.InMemory.{none_of_length, content_in}
use Rattle.rt_ops.proofs.records.content_at.Goals as goal

pub returns-in_err-length : goal.returns-in_err-length
returns-in_err-length c =
    let p = err_from_is_err_and c.from_residual.result c.from_residual.ensures.1 in
    rw (p.1, p.2) (elim c.in_err-length.ensures [ inl cut ↦ inl (cut.0, inl cut.1) | inr bad ↦ inr (bad.0, none_of_length c.args.bytes.now bad.2) ])

pub returns : goal.returns
returns c =
    let found = c.in_ok-length.ensures in
    let long : c.in_ok-length.length ≤ length c.in_ok-length.rest.now = omega (arith, c.if-rest-length.false) in
    content_in c.args.version c.args.bytes.now c.in_ok-length.rest.now _ c.in_ok-length.length found.0 found.1 found.2 long refl
