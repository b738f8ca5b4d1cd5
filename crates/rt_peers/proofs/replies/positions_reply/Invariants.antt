use Rattle.std.proofs.Common.{◌≡◌, ◌++◌, drop, map}
use Rattle.rt_stamps.specs.Places.{text_of_position}
use Rattle.rt_stamps.specs.Words.{as_words}
use Rattle.rt_peers.proofs.replies.positions_reply.Given as goal

abbrev pub invariant-loop-position : goal.invariant-loop-position
invariant-loop-position l = as_words l.words.items ++ map text_of_position (drop l.position-index l.positions) ≡ map text_of_position l.positions
