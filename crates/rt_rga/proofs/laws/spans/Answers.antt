use Rattle.rt_rga.proofs.Scanning.{gap_in, known_in, target_in}
use Rattle.rt_rga.proofs.Writes.{spans_name}
use Rattle.rt_rga.proofs.Zero.{zero_deleted, zero_known, zero_tagged}
use Rattle.rt_rga.proofs.laws.spans.Goals as goal

pub returns-clause-stamps : goal.returns-clause-stamps
returns-clause-stamps c = spans_name

pub returns-clause-known : goal.returns-clause-known
returns-clause-known c = known_in

pub returns-clause-gap : goal.returns-clause-gap
returns-clause-gap c = gap_in

pub returns-clause-no_target : goal.returns-clause-no_target
returns-clause-no_target c = target_in

pub returns-clause-zero_deleted : goal.returns-clause-zero_deleted
returns-clause-zero_deleted c = zero_deleted

pub returns-clause-zero_tagged : goal.returns-clause-zero_tagged
returns-clause-zero_tagged c = zero_tagged

pub returns-clause-zero_known : goal.returns-clause-zero_known
returns-clause-zero_known c = zero_known
