use Rattle.std.proofs.Common.{arith, ◌+◌, ap, length, nat_lt}
use Rattle.std.proofs.lemmas.Result.{err_from_is_err_and}
use Rattle.rt_rga.specs.Answers.{refused_if_full}
use Rattle.rt_rga.specs.Cells.{cells_of}
use Rattle.rt_rga.specs.Histories.{inserted}
use Rattle.rt_rga.proofs.answer.answer_within.Goals as goal

pub overflow_sub-limit : goal.overflow_sub-limit
overflow_sub-limit g c = omega (arith, c.requires.within, c.cells.ensures)

pub returns-in_err-offer : goal.returns-in_err-offer
returns-in_err-offer g c =
    let (y, is, gives) = err_from_is_err_and c.from_residual.result c.from_residual.ensures.1 in
    let full = nat_lt c.args.limit (length (cells_of c.args.log.now.operations) + length (inserted c.args.op.now)) in
    rw (is, gives) (record { answer = ap (refused_if_full full) c.in_err-offer.ensures; rules = c.cells_more-more.ensures.rules })
