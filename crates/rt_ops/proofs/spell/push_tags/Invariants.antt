use Rattle.std.proofs.Common.{◌≡◌, ◌∷◌, ◌++◌, length, take}
use Rattle.std.specs.List.{flat_map}
use Rattle.rt_stamps.specs.Words.{as_words}
use Rattle.rt_ops.specs.File.{name_bytes}
use Rattle.rt_ops.proofs.spell.push_tags.Given as goal

abbrev pub invariant-loop-tag : goal.invariant-loop-tag
invariant-loop-tag l = l.out.items ≡ l.fn.out.items ++ length l.tags ∷ flat_map name_bytes (as_words (take l.tag-index l.tags))
