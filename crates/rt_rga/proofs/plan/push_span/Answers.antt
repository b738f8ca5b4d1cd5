use Rattle.std.proofs.Common.{◌∙◌, ◌+◌, ◌-◌, ◌++◌, ap, arith, map, sym, refl}
use Rattle.rt_ops.specs.Operations.{stamps_from}
use Rattle.rt_rga.specs.Batches.{named_with}
use Rattle.rt_rga.proofs.PlannedEntries.{named_from}
use Rattle.std.proofs.lemmas.Result.{err_from_is_err_and}
use Rattle.rt_rga.proofs.plan.push_span.Goals as goal

pub loop-count-preserved : goal.loop-count-preserved
loop-count-preserved c =
    let count = c.loop-count.count in
    let span = c.args.span in
    ap (λ items. items ++ map (named_with c.args.entry.now) (stamps_from span.site (count + 1) (span.last + 1 - (count + 1)))) c.in_ok-push.ensures.items
    ∙ sym (named_from c.args.entry.now c.loop-count.named.items span.site count span.last (omega arith)) ∙ c.loop-count.invariant

pub returns-in_err-push : goal.returns-in_err-push
returns-in_err-push c =
    let (y, is, gives) = err_from_is_err_and c.from_residual.result c.from_residual.ensures.1 in
    rw (is, gives) (record { ok = tt; fault = refl })
