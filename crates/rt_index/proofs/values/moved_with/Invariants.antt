use Rattle.std.proofs.Common.{◌≡◌, ◌≤◌, length, drop}
use Rattle.rt_index.specs.Values.{all_moved}
use Rattle.rt_index.specs.KeptWords.{AreWords}
use Rattle.rt_index.proofs.values.moved_with.Given as goal

abbrev pub invariant-loop-modifier : goal.invariant-loop-modifier
invariant-loop-modifier g l = let text = (g.G.Ground.widget l.ground).text in record {
  within : l.reached ≤ length text;
  words : AreWords text l.words;
  same : all_moved text l.reached (drop l.modifier-index l.modifiers) ≡ all_moved text l.fn.place l.modifiers;
}
