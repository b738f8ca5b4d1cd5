use Rattle.rt_plans.proofs.TagEffects.{named_as_asked, other_tags_stay, others_stay, rest_stays}
use Rattle.rt_plans.proofs.laws.tags_of_stamps.Goals as goal

pub returns-clause-named : goal.returns-clause-named
returns-clause-named c = λ doc name on stamps h. named_as_asked doc.site doc.count name on stamps doc.cells h

pub returns-clause-others : goal.returns-clause-others
returns-clause-others c = λ doc name on stamps. others_stay doc.site doc.count name on stamps doc.cells

pub returns-clause-tags : goal.returns-clause-tags
returns-clause-tags c = λ doc name other on stamps e. other_tags_stay doc.site doc.count name on stamps other e doc.cells

pub returns-clause-rest : goal.returns-clause-rest
returns-clause-rest c = λ doc name on stamps. rest_stays doc.site doc.count name on stamps doc.cells
