use Rattle.std.proofs.Common.{ap, arith}
use Rattle.rt_plans.specs.DocValue.{DocValue}
use Rattle.rt_rga.proofs.Requests.{greatest_bound}
use Rattle.rt_recording.proofs.before.Before.of.Goals as goal

pub returns-clause-bound : goal.returns-clause-bound
returns-clause-bound g c =
    let same = ap (λ (f : DocValue). f.count) c.doc-doc.ensures in
    let count = c.log.ensures.count in
    let most = greatest_bound c.doc-doc.result.now.log c.log.ensures.history in
    omega (arith, same, count, most)
