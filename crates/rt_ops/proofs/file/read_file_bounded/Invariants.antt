use Rattle.std.proofs.Common.{◌≡◌}
use Rattle.rt_ops.specs.File.{file_of, AreInFile}
use Rattle.rt_ops.specs.Intake.{GaveSome, Takes}
use Rattle.rt_ops.specs.Reading.{offsets_from, stamp_of_last}
use Rattle.rt_ops.proofs.file.read_file_bounded.Given as goal

abbrev pub invariant-records : goal.invariant-records
invariant-records g l = record {
  takes : Takes (g.R.Source.stream l.fn.reader)
      (g.R.Source.stream l.reader) (record { bytes = l.max_bytes; reads = l.fn.max_reads }) l.bounds (file_of l.version l.ops.items);
  gave : GaveSome g.R.Source.stream l.fn.reader l.reader;
  are : AreInFile l.version l.ops.items;
  offsets : l.offsets.items ≡ offsets_from l.version 8 l.ops.items;
  last : l.last ≡ stamp_of_last l.ops.items;
}

abbrev pub decreases-records : goal.decreases-records
decreases-records g l = l.bounds.bytes
