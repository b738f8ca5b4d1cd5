use Rattle.std.proofs.Common.{◌≡◌, ℕ, ◌-◌, ◌≤◌, ◌++◌, List}
use Rattle.rt_tagcmd.specs.Elements.{text_values}
use Rattle.rt_tagcmd.proofs.Values.{values_left}
use Rattle.rt_text.specs.Ranges.{text_between}
use Rattle.rt_tagcmd.proofs.texts.values_of.Given as goal

abbrev pub invariant-loop-start : goal.invariant-loop-start
invariant-loop-start l = record {
  after : l.from ≤ l.start;
  whole : (text : List ℕ) → text_between text l.from l.to ≡ l.chars → text_values text l.others l.from l.to ≡ l.values.items ++ values_left text l.others l.to l.start;
}

abbrev pub decreases-loop-start : goal.decreases-loop-start
decreases-loop-start l = l.to - l.start
