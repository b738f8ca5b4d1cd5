use Rattle.rt_rga.proofs.Files.{all_taken_by_stamp}
use Rattle.rt_rga.proofs.Joining.{joined_free_histories, joined_history}
use Rattle.rt_rga.proofs.laws.joins.Goals as goal

pub returns-clause-history : goal.returns-clause-history
returns-clause-history c = joined_history

pub returns-clause-union : goal.returns-clause-union
returns-clause-union c = joined_free_histories

pub returns-clause-taken : goal.returns-clause-taken
returns-clause-taken c = all_taken_by_stamp
