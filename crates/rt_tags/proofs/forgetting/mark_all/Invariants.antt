use Rattle.std.proofs.Common.{◌≡◌, map, take}
use Rattle.rt_stamps.specs.Words.{as_words}
use Rattle.rt_tags.specs.Seen.{names_of}
use Rattle.rt_tags.specs.Tags.{is_forgotten}
use Rattle.rt_tags.proofs.forgetting.mark_all.Given as goal

abbrev pub invariant-loop-name : goal.invariant-loop-name
invariant-loop-name l = l.marks ≡ map (is_forgotten (as_words (take l.name-index l.given))) (names_of l.names)
