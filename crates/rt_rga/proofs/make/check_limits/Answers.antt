use Rattle.std.proofs.Common.{◌∙◌, Some, ap, arith, map, sym}
use Rattle.std.proofs.lemmas.Result.{err_from_is_err_and}
use Rattle.rt_stamps.specs.declared.fault.Fault.{Fault}
use Rattle.rt_ops.specs.Edits.{body_of}
use Rattle.rt_rga.proofs.Making.{counts_refused, first_within}
use Rattle.rt_rga.proofs.make.check_limits.Goals as goal

pub returns-in_err-count-clause-refused : goal.returns-in_err-count-clause-refused
returns-in_err-count-clause-refused c =
    let (y, is, gives) = err_from_is_err_and c.from_residual.result c.from_residual.ensures.1 in
    let drafts = c.args.drafts.now in
    rw (is, gives)
    (counts_refused c.args.last c.args.cells c.args.limit (map body_of drafts)
    (omega (
      arith,
      c.loop-draft.invariant.counts,
      c.loop-draft.invariant.bound,
      first_within c.loop-draft.count drafts c.loop-draft.draft-index c.draft-item.result c.loop-draft-test.true c.draft-item.is,
      c.counts_in.ensures.last c.loop-draft.count,
      c.in_err-count.ensures.err.1,
    ))
    ∙ ap (λ (f : Fault). Some f) (sym c.in_err-count.ensures.err.0))
