use Rattle.std.proofs.Common.{[], length, ap, sym, ◌∙◌, arith}
use Rattle.std.specs.Int.{w32}
use Rattle.std.proofs.lemmas.List.{length-append}
use Rattle.rt_ops.specs.File.{number}
use Rattle.rt_ops.proofs.Lengths.{length_4}
use Rattle.std.proofs.lemmas.Result.{err_from_is_err_and}
use Rattle.rt_ops.proofs.Taken.{takes_none, not_gathered, short_field, field_told}
use Rattle.rt_ops.proofs.intake.next_length.Goals as goal

pub returns-in_err-gather-clause-gets : goal.returns-in_err-gather-clause-gets
returns-in_err-gather-clause-gets g c =
    let p = err_from_is_err_and c.from_residual.result c.from_residual.ensures.1 in
    rw (p.1, p.2) (not_gathered _ _ _ _ _ _ [] 4 c.in_err-gather.field-0.0 (takes_none _ _) (short_field c.args.version) c.in_err-gather.ensures.gathers)

pub returns-clause-gets : goal.returns-clause-gets
returns-clause-gets g c =
    let gathered = c.in_ok-gather.ensures.gathers in
    let found = c.in_ok-length.ensures in
    (field_told _ _ _ _ c.gather.new.buffer.items c.in_ok-length.field-0-1.now c.in_ok-length.length (sym c.deref.ensures.value ∙ found.0) gathered.0 gathered.1, found.1, found.2)

pub returns-clause-gave : goal.returns-clause-gave
returns-clause-gave g c =
    let n = c.in_ok-length.length in
    let rest = c.in_ok-length.field-0-1.now in
    let field = sym c.deref.ensures.value ∙ c.in_ok-length.ensures.0 in
    c.in_ok-gather.ensures.gave (omega arith) (omega (arith, ap length field, length-append (number w32 n) rest, length_4 n))
