use Rattle.std.proofs.Common.{◌≡◌, ◌+◌, ◌-◌, ◌<◌, ◌≤◌, length, drop}
use Rattle.std.specs.List.{prefix_len}
use Rattle.rt_index.specs.Characters.{is_word_character}
use Rattle.rt_index.specs.declared.words.TheConstants.{READ_CHARACTERS}
use Rattle.rt_index.proofs.words.run_end.Given as goal

abbrev pub invariant-loop-found : goal.invariant-loop-found
invariant-loop-found g l = let text = (g.G.Ground.widget l.ground).text in record {
  within : l.end ≤ length text;
  few : l.found ≤ READ_CHARACTERS;
  more : l.found ≡ READ_CHARACTERS → l.end + prefix_len is_word_character (drop l.end text) ≡ l.place + prefix_len is_word_character (drop l.place text);
  done : l.found < READ_CHARACTERS → l.end ≡ l.place + prefix_len is_word_character (drop l.place text);
}

abbrev pub decreases-loop-found : goal.decreases-loop-found
decreases-loop-found g l = (length (g.G.Ground.widget l.ground).text - l.end) + l.found
