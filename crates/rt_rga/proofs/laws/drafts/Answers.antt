use Rattle.std.proofs.Common.{arith}
use Rattle.rt_rga.specs.Drafts.{next_operation}
use Rattle.rt_rga.proofs.Drafting.{count_after, directly, made, newest}
use Rattle.rt_rga.proofs.Requests.{all_count_on, all_counted, fit_exactly, made_new}
use Rattle.rt_rga.proofs.laws.drafts.Goals as goal

pub returns-clause-newest : goal.returns-clause-newest
returns-clause-newest c = λ site draft set. newest (next_operation site draft set) set (omega arith)

pub returns-clause-directly : goal.returns-clause-directly
returns-clause-directly c = directly

pub returns-clause-history : goal.returns-clause-history
returns-clause-history c = λ site drafts set p h d. (made site drafts set p h d).history

pub returns-clause-cells : goal.returns-clause-cells
returns-clause-cells c = λ site drafts set p h d. (made site drafts set p h d).cells

pub returns-clause-count : goal.returns-clause-count
returns-clause-count c = λ site draft set. count_after (next_operation site draft set) set (omega arith)

pub returns-clause-new : goal.returns-clause-new
returns-clause-new c = made_new

pub returns-clause-fit : goal.returns-clause-fit
returns-clause-fit c = fit_exactly

pub returns-clause-counts : goal.returns-clause-counts
returns-clause-counts c = all_count_on

pub returns-clause-length : goal.returns-clause-length
returns-clause-length c = all_counted
