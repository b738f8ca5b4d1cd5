use Rattle.rt_ops.proofs.Fronts.{front_of_read, read_is_begun, two_fronts}
use Rattle.rt_ops.proofs.laws.fronts.Goals as goal

pub returns-clause-read : goal.returns-clause-read
returns-clause-read c = front_of_read

pub returns-clause-two : goal.returns-clause-two
returns-clause-two c = two_fronts

pub returns-clause-begun : goal.returns-clause-begun
returns-clause-begun c = read_is_begun
