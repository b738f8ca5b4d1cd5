use Rattle.std.proofs.Common.{◌≡◌, ◌++◌, drop}
use Rattle.rt_stamps.specs.Words.{as_words}
use Rattle.rt_peers.proofs.pieces.copied.Given as goal

abbrev pub invariant-loop-word : goal.invariant-loop-word
invariant-loop-word l = as_words l.copies.items ++ as_words (drop l.word-index l.words) ≡ as_words l.words
