use Rattle.rt_plans.proofs.InsertedText.{text_inserted, text_tagged}
use Rattle.rt_plans.proofs.laws.text_of_insertion.Goals as goal

pub returns-clause-put : goal.returns-clause-put
returns-clause-put c = λ cells new place h k. text_inserted cells new place h k

pub returns-clause-new : goal.returns-clause-new
returns-clause-new c = λ site count names text. text_tagged site count names text
