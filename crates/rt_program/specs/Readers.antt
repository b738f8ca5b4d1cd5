-- Files as they are read, joined and shown, whose bytes may be known or not, from their first read and the first write on.
use Rattle.std.specs.Prelude.{ℕ, List, Option, Result, Vec}
use Rattle.std.specs.declared.alloc.Global.{Global}
use Rattle.rt_stamps.specs.declared.fault.Fault.{Fault}
use Rattle.rt_stamps.specs.Streams.{FILE_BOUNDS, Stream}
use Rattle.rt_ops.specs.Intake.{ReadsWhole}
use Rattle.rt_files.specs.declared.join.JoinFault.{JoinFault}
use Rattle.rt_files.specs.Files.{JoinsFiles, ShowsFile}

-- a stream of which nothing was read, or to which nothing was written
abbrev pub fresh : Option (List ℕ) → Stream
fresh bytes = record { calls = 0; failures = 0; bytes = bytes }

-- what a reader or a writer tells by its counts and its bytes
abbrev pub stream_of : ℕ → ℕ → Option (List ℕ) → Stream
stream_of calls failures bytes = record { calls = calls; failures = failures; bytes = bytes }

-- all bytes of a file are read
abbrev pub ReadsFresh : Option (List ℕ) → Stream → Result (Vec ℕ Global) Fault → Type 0
ReadsFresh file left result = ReadsWhole FILE_BOUNDS (fresh file) left result

-- a file is joined with another one
abbrev pub JoinsFresh : Option (List ℕ) → Stream → Option (List ℕ) → Stream → Result (Vec ℕ Global) JoinFault → Type 0
JoinsFresh first read second then result = JoinsFiles (fresh first) read (fresh second) then result

-- the lines of a file are written behind what was written before
abbrev pub ShowsFresh : Option (List ℕ) → Stream → Option (List ℕ) → Stream → Result (Unit {0}) (Fault × ℕ) → Type 0
ShowsFresh file left before after result = ShowsFile (fresh file) left (fresh before) after result
