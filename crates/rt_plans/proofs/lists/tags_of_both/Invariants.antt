use Rattle.std.proofs.Common.{◌≡◌, filter, map, take}
use Rattle.std.specs.Prelude.{All}
use Rattle.rt_tags.specs.States.{IsTag, is_on, name_at, state_at}
use Rattle.rt_plans.proofs.lists.tags_of_both.Given as goal

abbrev pub invariant-loop-tag : goal.invariant-loop-tag
invariant-loop-tag l = record {
  names : map (name_at l.states) l.both.items ≡ filter (λ name. is_on name (state_at l.states l.right)) (map (name_at l.states) (take l.tag-index l.tag-items));
  given : All (IsTag l.states) l.both.items;
}
