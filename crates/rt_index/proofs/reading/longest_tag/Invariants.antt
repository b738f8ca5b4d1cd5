use Rattle.std.proofs.Common.{◌≡◌, ◌≤◌, length}
use Rattle.rt_index.specs.Expression.{longest_named}
use Rattle.rt_index.proofs.reading.longest_tag.Given as goal

abbrev pub invariant-loop-end : goal.invariant-loop-end
invariant-loop-end l = record {
  within : l.end ≤ length l.word;
  same : longest_named l.word l.end ≡ longest_named l.word (length l.word);
}

abbrev pub decreases-loop-end : goal.decreases-loop-end
decreases-loop-end l = l.end
