use Rattle.rt_tags.proofs.Sets.{added, len_added, names_added, no_repeats}
use Rattle.rt_tags.proofs.names.add.Goals as goal

pub returns-clause-names : goal.returns-clause-names
returns-clause-names c =
    let all = added c.args.name c.args.names.now.keys c.insert.new.self.keys c.insert.result (c.insert.ensures.succeeds c.requires.room) c.insert.ensures.keys c.requires.new in
    names_added c.args.name c.args.names.now.keys c.insert.new.self.keys all

pub returns-clause-len : goal.returns-clause-len
returns-clause-len c =
    let all = added c.args.name c.args.names.now.keys c.insert.new.self.keys c.insert.result (c.insert.ensures.succeeds c.requires.room) c.insert.ensures.keys c.requires.new in
    len_added c.args.name c.args.names.now.keys c.insert.new.self.keys all

pub returns-clause-no_repeats : goal.returns-clause-no_repeats
returns-clause-no_repeats c = no_repeats c.insert.new.self.keys c.insert.ensures.unique
