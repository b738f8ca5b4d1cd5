use Rattle.std.proofs.Common.{◌≡◌, take, flat_map, ◌∷◌}
use Rattle.std.specs.Io.KnownBytes.{Appends}
use Rattle.rt_files.specs.Shown.{text_of_span}
use Rattle.rt_files.proofs.parts.write_spans.Given as goal

abbrev pub invariant-loop-span : goal.invariant-loop-span
invariant-loop-span g l = record {
  wrote : Appends (g.W.Sink.stream l.fn.out).bytes (g.W.Sink.stream l.out).bytes (flat_map (λ span. 32 ∷ text_of_span span) (take l.span-index l.spans));
  failures : (g.W.Sink.stream l.out).failures ≡ (g.W.Sink.stream l.fn.out).failures;
}
