use Rattle.rt_rows.specs.Places.{op_at}
use Rattle.std.proofs.Common.{◌≡◌, map, take}
use Rattle.std.specs.Io.KnownBytes.{Appends}
use Rattle.std.specs.List.{AllByRecursion}
use Rattle.rt_ops.specs.File.{file_of, HasRecord}
use Rattle.rt_oplog.specs.Blocks.{places_in_blocks}
use Rattle.rt_oplog.proofs.file.write_in.Given as goal

abbrev pub invariant-loop-block : goal.invariant-loop-block
invariant-loop-block g l = record {
  wrote : Appends (g.W.Sink.stream l.fn.out).bytes (g.W.Sink.stream l.out).bytes (file_of l.version (map (op_at l.ops.rows) (places_in_blocks (take l.block-index l.blocks))));
  records : AllByRecursion (HasRecord l.version) (map (op_at l.ops.rows) (places_in_blocks (take l.block-index l.blocks)));
  failures : (g.W.Sink.stream l.out).failures ≡ (g.W.Sink.stream l.fn.out).failures;
}
