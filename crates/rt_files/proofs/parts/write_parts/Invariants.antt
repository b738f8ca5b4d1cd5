use Rattle.std.proofs.Common.{◌≡◌, take, flat_map, ◌∷◌}
use Rattle.std.specs.Io.KnownBytes.{Appends}
use Rattle.rt_files.specs.Parts.{text_of_part}
use Rattle.rt_files.proofs.parts.write_parts.Given as goal

abbrev pub invariant-loop-part : goal.invariant-loop-part
invariant-loop-part g l = record {
  wrote : Appends (g.W.Sink.stream l.fn.out).bytes (g.W.Sink.stream l.out).bytes (flat_map (λ part. 32 ∷ text_of_part part) (take l.part-index l.parts));
  failures : (g.W.Sink.stream l.out).failures ≡ (g.W.Sink.stream l.fn.out).failures;
}
