use Rattle.std.proofs.Common.{refl}
use Rattle.rt_tags.proofs.Bordering.{alike_none, all_alike, few, first_of, joined, last_of, same_borders}
use Rattle.rt_tags.proofs.laws.joined_stretches.Goals as goal

pub returns-clause-joined : goal.returns-clause-joined
returns-clause-joined g c = joined

pub returns-clause-first : goal.returns-clause-first
returns-clause-first g c = first_of

pub returns-clause-last : goal.returns-clause-last
returns-clause-last g c = last_of

pub returns-clause-alike : goal.returns-clause-alike
returns-clause-alike g c test x xs = (all_alike test (test x) x xs refl, alike_none test (test x) x xs refl)

pub returns-clause-same : goal.returns-clause-same
returns-clause-same g c = same_borders

pub returns-clause-few : goal.returns-clause-few
returns-clause-few g c = few
