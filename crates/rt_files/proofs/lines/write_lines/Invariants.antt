use Rattle.std.proofs.Common.{◌≡◌, take, flat_map}
use Rattle.std.specs.Io.KnownBytes.{Appends}
use Rattle.rt_files.specs.Shown.{shown_line}
use Rattle.rt_files.proofs.lines.write_lines.Given as goal

abbrev pub invariant-loop-op : goal.invariant-loop-op
invariant-loop-op g l = record {
  wrote : Appends (g.W.Sink.stream l.fn.out).bytes (g.W.Sink.stream l.out).bytes (flat_map shown_line (take l.op-index l.ops));
  failures : (g.W.Sink.stream l.out).failures ≡ (g.W.Sink.stream l.fn.out).failures;
}
