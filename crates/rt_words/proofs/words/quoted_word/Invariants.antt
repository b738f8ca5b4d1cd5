use Rattle.std.proofs.Common.{length, ◌-◌, string_bytes}
use Rattle.rt_words.proofs.Quotes.{QuotedTo}
use Rattle.rt_words.proofs.words.quoted_word.Given as goal

abbrev pub invariant-loop-start : goal.invariant-loop-start
invariant-loop-start l = QuotedTo l.text l.start (string_bytes l.word)

abbrev pub decreases-loop-start : goal.decreases-loop-start
decreases-loop-start l = length l.bytes - l.start
