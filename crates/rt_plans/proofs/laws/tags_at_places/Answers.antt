use Rattle.rt_plans.proofs.TagEffects.{others_stay_at, placed_as_asked}
use Rattle.rt_plans.proofs.WriterLaws.{tag_written}
use Rattle.rt_plans.proofs.laws.tags_at_places.Goals as goal

pub returns-clause-named : goal.returns-clause-named
returns-clause-named c = placed_as_asked

pub returns-clause-others : goal.returns-clause-others
returns-clause-others c = others_stay_at

pub returns-clause-written : goal.returns-clause-written
returns-clause-written c = λ doc places on name h. tag_written doc places on name h
