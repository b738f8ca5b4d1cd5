use Rattle.std.proofs.Common.{◌≤◌}
use Rattle.rt_words.proofs.Braces.{OpenAt}
use Rattle.rt_words.proofs.words.closing_brace.Given as goal

abbrev pub invariant-loop-i : goal.invariant-loop-i
invariant-loop-i l = record {
  at : OpenAt l.text l.i l.depth;
  few : l.depth ≤ l.i;
}
