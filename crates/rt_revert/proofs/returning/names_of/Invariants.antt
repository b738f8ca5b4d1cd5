use Rattle.std.proofs.Common.{◌≡◌, ◌++◌, All, drop, map}
use Rattle.rt_stamps.specs.Words.{as_words}
use Rattle.rt_tags.specs.States.{IsTag, name_at}
use Rattle.rt_revert.proofs.returning.names_of.Given as goal

abbrev pub invariant-loop-tag : goal.invariant-loop-tag
invariant-loop-tag l = record {
  names : as_words l.names.items ++ map (name_at l.kept) (drop l.tag-index l.tag-items) ≡ map (name_at l.kept) l.tag-items;
  tags : All (IsTag l.kept) l.tag-items;
}
