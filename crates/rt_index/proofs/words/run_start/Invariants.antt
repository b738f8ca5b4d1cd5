use Rattle.std.proofs.Common.{◌≡◌, ◌+◌, ◌<◌, ◌≤◌, take, reverse}
use Rattle.std.specs.List.{prefix_len}
use Rattle.rt_index.specs.Characters.{is_word_character}
use Rattle.rt_index.specs.declared.words.TheConstants.{READ_CHARACTERS}
use Rattle.rt_index.proofs.words.run_start.Given as goal

abbrev pub invariant-loop-found : goal.invariant-loop-found
invariant-loop-found g l = let text = (g.G.Ground.widget l.ground).text in record {
  within : l.start ≤ l.place;
  few : l.found ≤ READ_CHARACTERS;
  more : l.found ≡ READ_CHARACTERS → l.place + prefix_len is_word_character (reverse (take l.start text)) ≡ l.start + prefix_len is_word_character (reverse (take l.place text));
  done : l.found < READ_CHARACTERS → l.start + prefix_len is_word_character (reverse (take l.place text)) ≡ l.place;
}

abbrev pub decreases-loop-found : goal.decreases-loop-found
decreases-loop-found g l = l.start + l.found
