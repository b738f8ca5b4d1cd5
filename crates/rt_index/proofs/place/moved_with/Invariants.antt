use Rattle.std.proofs.Common.{◌≡◌, ◌≤◌, length, Ok}
use Rattle.rt_index.specs.Index.{moved_from}
use Rattle.rt_index.specs.Reading.{modifiers_of}
use Rattle.rt_index.specs.KeptWords.{AreWords}
use Rattle.rt_index.proofs.place.moved_with.Given as goal

-- what all modifiers make of the first place is what those that are left make of the one reached
abbrev pub invariant-loop-rest : goal.invariant-loop-rest
invariant-loop-rest g l = let text = (g.G.Ground.widget l.ground).text in record {
  within : l.place ≤ length text;
  words : AreWords text l.words;
  same : moved_from text (Ok l.place) (modifiers_of l.rest) ≡ moved_from text (Ok l.fn.start) (modifiers_of l.text);
}

abbrev pub decreases-loop-rest : goal.decreases-loop-rest
decreases-loop-rest g l = length l.rest
