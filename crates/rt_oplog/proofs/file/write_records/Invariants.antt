use Rattle.rt_rows.specs.Places.{op_at}
use Rattle.std.proofs.Common.{◌≡◌, map, take}
use Rattle.std.specs.Io.KnownBytes.{Appends}
use Rattle.std.specs.List.{AllByRecursion, flat_map}
use Rattle.rt_ops.specs.File.{record_of, HasRecord}
use Rattle.rt_oplog.specs.Runs.{places_in}
use Rattle.rt_oplog.proofs.file.write_records.Given as goal

abbrev pub invariant-loop-run : goal.invariant-loop-run
invariant-loop-run g l = record {
  wrote : Appends (g.W.Sink.stream l.fn.out).bytes (g.W.Sink.stream l.out).bytes (flat_map (record_of l.version) (map (op_at l.ops.rows) (places_in (take l.run-index l.runs))));
  records : AllByRecursion (HasRecord l.version) (map (op_at l.ops.rows) (places_in (take l.run-index l.runs)));
  failures : (g.W.Sink.stream l.out).failures ≡ (g.W.Sink.stream l.fn.out).failures;
}
