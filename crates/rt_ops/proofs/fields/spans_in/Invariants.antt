use Rattle.std.proofs.Common.{◌≡◌, ◌+◌, ◌*◌, ◌++◌, length}
use Rattle.std.specs.List.{flat_map, AllByRecursion}
use Rattle.std.specs.Int.{byte_len}
use Rattle.rt_ops.specs.Versions.{layout}
use Rattle.rt_ops.specs.File.{span_bytes}
use Rattle.rt_ops.specs.Decoding.{SpanFits}
use Rattle.rt_ops.proofs.fields.spans_in.Given as goal

abbrev pub invariant-loop : goal.invariant-loop
invariant-loop l = record {
  bytes : l.bytes ≡ flat_map (span_bytes l.version) l.spans.items ++ l.left;
  size : length l.left + (16 + byte_len (layout l.version).site) * l.counter ≡ (16 + byte_len (layout l.version).site) * l.count;
  count : length l.spans.items ≡ l.counter;
  fits : AllByRecursion (SpanFits l.version) l.spans.items;
}
