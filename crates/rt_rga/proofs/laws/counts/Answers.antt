use Rattle.rt_rga.proofs.Counts.{count_with, length_with}
use Rattle.rt_rga.proofs.Requests.{greatest_bound}
use Rattle.rt_rga.proofs.laws.counts.Goals as goal

pub returns-clause-cells : goal.returns-clause-cells
returns-clause-cells c = length_with

pub returns-clause-greatest : goal.returns-clause-greatest
returns-clause-greatest c = λ set op. count_with op set

pub returns-clause-most : goal.returns-clause-most
returns-clause-most c = greatest_bound
