use Rattle.std.proofs.Common.{◌≡◌, All, map, take}
use Rattle.rt_stamps.specs.Words.{as_words}
use Rattle.rt_tags.specs.States.{IsTag, KeepsIds, all_numbered, name_at}
use Rattle.rt_tags.proofs.states.StateTable.number_all.Given as goal

abbrev pub invariant-loop-name : goal.invariant-loop-name
invariant-loop-name l =
    record {
      given : All (IsTag l.self) l.tags.items;
      tags : map (name_at l.self) l.tags.items ≡ as_words (take l.name-index l.names);
      names : l.self.names ≡ (all_numbered (as_words (take l.name-index l.names)) l.fn.self).names;
      states : l.self.states ≡ l.fn.self.states;
      ids : KeepsIds l.fn.self l.self;
    }
