-- Readers and writers, by what they tell of themselves.
use Rattle.std.specs.Prelude.{ℕ, List, Option}
use Rattle.rt_stamps.specs.declared.limits.Bounds.{Bounds}
use Rattle.rt_stamps.specs.declared.limits.TheConstants.{MOST_BYTES, MOST_READS}

-- the calls of a reader or a writer, those that failed, and where they are known the bytes that are left to read, or that
-- were written
pub record Stream : Type 0 where
  pub calls : ℕ
  pub failures : ℕ
  pub bytes : Option (List ℕ)

-- how much of a script or a file is read at most
abbrev pub FILE_BOUNDS : Bounds
FILE_BOUNDS = record { bytes = MOST_BYTES; reads = MOST_READS }
