use Rattle.std.proofs.Common.{◌≡◌, ◌++◌, ◌∷◌, take, flat_map, string_bytes}
use Rattle.rt_words.specs.Writing.{text_of_word}
use Rattle.rt_script.proofs.reply.push_words.Given as goal

abbrev pub invariant-loop-word : goal.invariant-loop-word
invariant-loop-word l = l.line.items ≡ l.initial.line.items ++ flat_map (λ w. 32 ∷ text_of_word (string_bytes w)) (take l.word-index l.words)
