use Rattle.rt_revert.proofs.TakenBack.{insertion_back, insertion_redone, removal_back}
use Rattle.rt_revert.proofs.laws.reverted_text.Goals as goal

pub returns-clause-insertion : goal.returns-clause-insertion
returns-clause-insertion c = insertion_back

pub returns-clause-removal : goal.returns-clause-removal
returns-clause-removal c = removal_back

pub returns-clause-redone : goal.returns-clause-redone
returns-clause-redone c = insertion_redone
