use Rattle.std.proofs.Common.{◌∙◌, ap}
use Rattle.rt_tags.specs.Seen.{names_of}
use Rattle.rt_tags.specs.SharedStates.{puts_on}
use Rattle.rt_tags.proofs.Keeping.{has_is, place_given}
use Rattle.rt_tags.proofs.states.StateTable.has.Goals as goal

pub setting_at-requires-clause-given : goal.setting_at-requires-clause-given
setting_at-requires-clause-given c = place_given (names_of c.self.inside.names) c.self.inside.nodes.keys c.self.invariant c.args.self.now c.self.view_is c.state.inside.place c.args.state c.state.view_is c.requires.state

pub returns : goal.returns
returns c =
    c.puts_on.ensures ∙ (ap puts_on c.setting_at.ensures
    ∙ has_is (names_of c.self.inside.names) c.self.inside.nodes.keys c.self.invariant c.args.self.now c.self.view_is c.state.inside.place c.args.state c.tag.inside.place c.args.tag c.state.view_is c.tag.view_is c.requires.tag)
