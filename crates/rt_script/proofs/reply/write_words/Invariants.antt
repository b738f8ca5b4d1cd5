use Rattle.std.proofs.Common.{◌≡◌, take, flat_map, ◌∷◌, string_bytes}
use Rattle.std.specs.Io.KnownBytes.{Appends}
use Rattle.rt_words.specs.Writing.{text_of_word}
use Rattle.rt_script.proofs.reply.write_words.Given as goal

abbrev pub invariant-loop-word : goal.invariant-loop-word
invariant-loop-word g l = record {
  wrote : Appends (g.W.Sink.stream l.fn.out).bytes (g.W.Sink.stream l.out).bytes (flat_map (λ w. 32 ∷ text_of_word (string_bytes w)) (take l.word-index l.words));
  failures : (g.W.Sink.stream l.out).failures ≡ (g.W.Sink.stream l.fn.out).failures;
}
