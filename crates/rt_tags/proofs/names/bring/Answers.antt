use Rattle.rt_tags.proofs.Marked.{behind_both}
use Rattle.rt_tags.proofs.Parts.{brought, same_names}
use Rattle.rt_tags.proofs.Sets.{no_repeats}
use Rattle.rt_tags.proofs.names.bring.Goals as goal

pub returns-clause-front : goal.returns-clause-front
returns-clause-front c = λ name at. brought name c.args.names.now.keys c.swap_indices.new.self.keys c.args.from c.args.to c.requires.from c.requires.to c.swap_indices.ensures.keys at

pub returns-clause-same : goal.returns-clause-same
returns-clause-same c = same_names c.args.names.now.keys c.swap_indices.new.self.keys c.swap_indices.ensures.reordered.0

pub returns-clause-no_repeats : goal.returns-clause-no_repeats
returns-clause-no_repeats c = no_repeats c.swap_indices.new.self.keys c.swap_indices.ensures.unique

pub returns-clause-behind : goal.returns-clause-behind
returns-clause-behind c = behind_both c.args.names.now.keys c.swap_indices.new.self.keys c.args.from c.args.to c.requires.from c.requires.to c.swap_indices.ensures.keys
