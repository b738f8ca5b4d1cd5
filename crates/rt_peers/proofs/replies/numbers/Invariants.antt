use Rattle.std.proofs.Common.{◌≡◌, ◌++◌, drop, map}
use Rattle.std.specs.Fmt.{signed_decimal}
use Rattle.rt_stamps.specs.Words.{as_words}
use Rattle.rt_peers.proofs.replies.numbers.Given as goal

abbrev pub invariant-loop-value : goal.invariant-loop-value
invariant-loop-value l = as_words l.words.items ++ map signed_decimal (drop l.value-index l.values) ≡ map signed_decimal l.values
