use Rattle.std.proofs.Common.{◌≡◌, ◌⊎◌, ◌≤◌, ◌-◌, length}
use Rattle.rt_stamps.specs.declared.limits.TheConstants.{PIECE_BYTES}
use Rattle.rt_ops.specs.Intake.{GaveSome, Takes}
use Rattle.rt_ops.proofs.intake.gather.Given as goal

abbrev pub invariant-loop-piece : goal.invariant-loop-piece
invariant-loop-piece g l = record {
  takes : Takes (g.R.Source.stream l.fn.reader)
      (g.R.Source.stream l.reader) l.fn.bounds l.bounds l.buffer.items;
  last : ((l.reader ≡ l.fn.reader) × (l.bounds ≡ l.fn.bounds) × (length l.buffer.items ≡ 0)) ⊎ GaveSome g.R.Source.stream l.fn.reader l.reader;
  within : length l.buffer.items ≤ l.wanted;
  piece : length l.piece ≡ PIECE_BYTES;
}

abbrev pub decreases-loop-piece : goal.decreases-loop-piece
decreases-loop-piece g l = l.wanted - length l.buffer.items
