use Rattle.std.proofs.Common.{◌≡◌, All, filter, map, not, take}
use Rattle.std.specs.Str.{bytes_eq}
use Rattle.rt_stamps.specs.Words.{as_words}
use Rattle.rt_tags.specs.States.{IsTag, KeepsIds, name_at}
use Rattle.rt_tags.specs.Tags.{sel}
use Rattle.rt_plans.proofs.lists.tags_of_list.Given as goal

abbrev pub invariant-loop-name : goal.invariant-loop-name
invariant-loop-name l = record {
  tags : map (name_at l.states) l.tags.items ≡ filter (λ name. not (bytes_eq name sel)) (as_words (take l.name-index l.names));
  given : All (IsTag l.states) l.tags.items;
  ids : KeepsIds l.fn.states l.states;
}
