use Rattle.std.proofs.Common.{length, ◌-◌, ◌≤◌, take}
use Rattle.rt_stamps.specs.Words.{as_words}
use Rattle.rt_words.specs.Separators.{separates}
use Rattle.rt_words.proofs.WordSteps.{Reading}
use Rattle.rt_words.proofs.words.words_by.Given as goal

abbrev pub invariant-loop-start : goal.invariant-loop-start
invariant-loop-start l = record {
  reading : Reading (separates l.separators) l.text l.start (as_words (take l.count l.words.items));
  within : l.count ≤ length l.words.items;
}

abbrev pub decreases-loop-start : goal.decreases-loop-start
decreases-loop-start l = length l.bytes - l.start
