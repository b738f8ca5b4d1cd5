use Rattle.std.proofs.lemmas.Result.{err_from_is_err_and}
use Rattle.std.proofs.Common.{arith, refl}
use Rattle.std.proofs.lemmas.Grind.{common_steps}
use Rattle.rt_store.specs.Cells.{text_of}
use Rattle.rt_lines.proofs.Parts.{part_length}
use Rattle.rt_text.proofs.RangeLaws.{texts_some, texts_none}
use Rattle.rt_text.proofs.range.texts_of.Goals as goal
use Rattle.rt_text.proofs.range.texts_of.Goals.{then-range-min+in_ok-shown_between+in_ok-push, else-range-min}

pub returns-in_err-shown_between : goal.returns-in_err-shown_between
returns-in_err-shown_between g c =
    let p = err_from_is_err_and c.from_residual.result c.from_residual.ensures.1 in
    rw (p.1, p.2) (record { ok = tt; err = c.in_err-shown_between.ensures.err })

pub returns-in_err-push : goal.returns-in_err-push
returns-in_err-push g c =
    let p = err_from_is_err_and c.from_residual-in_err-push.result c.from_residual-in_err-push.ensures.1 in
    rw (p.1, p.2) (record { ok = tt; err = refl })

pub overflow_sub-visible : goal.overflow_sub-visible
overflow_sub-visible g c = omega (arith, c.requires.0)

pub loop-range-preserved : goal.loop-range-preserved
loop-range-preserved g c =
    let n = part_length c.args.stretch (text_of (g.S.TextStore.list c.args.store.now)) c.requires.1 in
    elim c.if-range-min.branch [
      | then-range-min+in_ok-shown_between+in_ok-push w ↦ grind (arith, common_steps, texts_some)
      | else-range-min w ↦ grind (arith, common_steps, texts_none)
    ]
