use Rattle.std.proofs.Common.{◌≡◌, ◌++◌, length, take}
use Rattle.std.specs.List.{flat_map, AllByRecursion}
use Rattle.std.specs.Int.{w32}
use Rattle.rt_ops.specs.File.{number, span_bytes}
use Rattle.rt_ops.specs.Decoding.{SpanFits}
use Rattle.rt_ops.proofs.spell.push_spans.Given as goal

abbrev pub invariant-loop-span : goal.invariant-loop-span
invariant-loop-span l = record {
  wrote : l.out.items ≡ l.fn.out.items ++ (number w32 (length l.spans) ++ flat_map (span_bytes l.version) (take l.span-index l.spans));
  fit : AllByRecursion (SpanFits l.version) (take l.span-index l.spans);
}
