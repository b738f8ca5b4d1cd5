use Rattle.std.proofs.Common.{◌∙◌}
use Rattle.rt_tags.proofs.Sets.{at_position, listed_map}
use Rattle.rt_tags.proofs.names.index_of.Goals as goal

pub returns-clause-found : goal.returns-clause-found
returns-clause-found c = c.get_index_of.ensures.found ∙ listed_map c.args.name.now c.args.names.now.keys

pub returns-clause-index : goal.returns-clause-index
returns-clause-index c = at_position c.args.name.now c.args.names.now.keys c.get_index_of.result c.get_index_of.ensures.index
