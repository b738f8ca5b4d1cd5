use Rattle.std.proofs.Common.{◌≡◌, take, flat_map, ◌∷◌, string_bytes}
use Rattle.std.specs.Io.KnownBytes.{Appends}
use Rattle.rt_words.specs.Writing.{text_of_word}
use Rattle.rt_files.proofs.parts.write_names.Given as goal

abbrev pub invariant-loop-name : goal.invariant-loop-name
invariant-loop-name g l = record {
  wrote : Appends (g.W.Sink.stream l.fn.out).bytes (g.W.Sink.stream l.out).bytes (flat_map (λ name. 32 ∷ text_of_word (string_bytes name)) (take l.name-index l.names));
  failures : (g.W.Sink.stream l.out).failures ≡ (g.W.Sink.stream l.fn.out).failures;
}
