use Rattle.std.proofs.Common.{◌≡◌, length}
use Rattle.rt_ops.specs.Reading.{offsets_from}
use Rattle.rt_ops.specs.Records.{HasTaken}
use Rattle.rt_ops.proofs.bytes.read_bytes.Given as goal

abbrev pub invariant-records : goal.invariant-records
invariant-records l = record {
  taken : HasTaken l.records l.ops.items;
  bytes : l.records.bytes ≡ l.fn.bytes;
  offsets : l.offsets.items ≡ offsets_from l.records.version 8 l.ops.items;
}

abbrev pub decreases-records : goal.decreases-records
decreases-records l = length l.records.rest
