-- What is made of files of operations: their lines, and the join of two.
use Rattle.std.specs.Prelude.{◌≡◌, ◌⊎◌, ℕ, ◌+◌, ◌<◌, List, length, reverse, slice_get, Option, Some, None, Result, Ok, Err, MatchResult, Vec}
use Rattle.std.specs.declared.alloc.Global.{Global}
use Rattle.std.specs.Io.KnownBytes.{Appends}
use Rattle.rt_stamps.specs.declared.fault.Fault.{Fault}
use Rattle.rt_stamps.specs.declared.fault.Fault.TheVariants.{NoMemory, WriteFault}
use Rattle.rt_stamps.specs.Streams.{FILE_BOUNDS, Stream}
use Rattle.rt_stamps.specs.Written.{AppendsPart}
use Rattle.rt_ops.specs.File.{spelling}
use Rattle.rt_ops.specs.Intake.{ReadsFile, LacksMemory}
use Rattle.rt_oplog.specs.Logs.{joined}
use Rattle.rt_ops.specs.Operations.{Operation}
use Rattle.rt_oplog.specs.Outcomes.{IsFirstRefused, IsLogOf}
use Rattle.rt_files.specs.Shown.{shown_lines}
use Rattle.rt_files.specs.declared.join.JoinFault.{JoinFault}

-- a reading ended with no fault, or with this one at an offset
abbrev pub ending_of : Option (Fault × ℕ) → Result (Unit {0}) (Fault × ℕ)
ending_of None = Ok tt
ending_of (Some fault) = Err fault

-- The lines of the operations were written, and then the ending of their reading is told. Or a write failed, after a front
-- of the lines.
abbrev pub TellsLines : List Operation → Option (Fault × ℕ) → Stream → Stream → Result (Unit {0}) (Fault × ℕ) → Type 0
TellsLines ops fault before after result =
    (Appends before.bytes after.bytes (shown_lines ops) × (after.failures ≡ before.failures) × (result ≡ ending_of fault))
    ⊎ (AppendsPart before.bytes after.bytes (shown_lines ops) × (after.failures ≡ before.failures + 1) × (result ≡ Err (WriteFault, 0)))

-- The file was read to its end or its first fault, and the lines of its operations were told. Or they found no memory
-- before that, and nothing was written.
abbrev pub ShowsFile : Stream → Stream → Stream → Stream → Result (Unit {0}) (Fault × ℕ) → Type 0
ShowsFile old new before after result =
    ((ops : List Operation) × (offsets : List ℕ) × (fault : Option (Fault × ℕ)) × ReadsFile FILE_BOUNDS old new ops offsets fault
    × TellsLines ops fault before after result)
    ⊎ ((result ≡ Err (NoMemory, 0)) × LacksMemory FILE_BOUNDS old new × (after ≡ before))

-- one of a file's operations is the first that is refused, and the fault has the offset of its record
abbrev pub IsRefusedAt : List Operation → List ℕ → Fault × ℕ → Type 0
IsRefusedAt ops offsets found = (place : ℕ) × IsFirstRefused ops place found.0 × (slice_get offsets place ≡ Some found.1)

-- What a file gives: the log of its operations, where its reading has no fault. Or its first fault: of the first operation
-- that is refused, else that of the reading, which comes after all of them.
abbrev pub FileGives : Stream → Stream → Result (List Operation) (Fault × ℕ) → Type 0
FileGives old new result =
    (ops : List Operation) × (offsets : List ℕ) × (fault : Option (Fault × ℕ)) × ReadsFile FILE_BOUNDS old new ops offsets fault
    × MatchResult result
    (λ log. (fault ≡ None) × IsLogOf ops log)
    (λ found. IsRefusedAt ops offsets found ⊎ ((fault ≡ Some found) × ((log : List Operation) × IsLogOf ops log)))

-- a fault of the first or the second file
abbrev pub in_file : ℕ → Fault × ℕ → JoinFault
in_file file found = record { file = file; fault = found.0; offset = found.1 }

-- a fault of neither file
abbrev pub of_neither : Fault → JoinFault
of_neither fault = record { file = 0; fault = fault; offset = 0 }

-- A file's operations found no memory: before all were read, and no read had failed. Or some were read, however the
-- reading ended, and then memory was wanting for the log of them.
abbrev pub FindsNoMemory : Stream → Stream → Type 0
FindsNoMemory old new =
    LacksMemory FILE_BOUNDS old new
    ⊎ ((ops : List Operation) × (offsets : List ℕ) × (fault : Option (Fault × ℕ)) × ReadsFile FILE_BOUNDS old new ops offsets fault × (0 < length ops))

-- why there is no log of a file: its first fault, or want of memory
abbrev pub GivesNoLog : ℕ → Stream → Stream → JoinFault → Type 0
GivesNoLog file old new why =
    ((found : Fault × ℕ) × (why ≡ in_file file found) × FileGives old new (Err found))
    ⊎ ((why ≡ of_neither NoMemory) × FindsNoMemory old new)

-- the bytes spell the join of the logs of two files
pub record AreJoined (first read second then : Stream) (bytes : List ℕ) : Type 0 where
  pub one : List Operation
  pub other : List Operation
  pub log : List Operation
  pub first_gives : FileGives first read (Ok one)
  pub second_gives : FileGives second then (Ok other)
  pub join : joined one other ≡ Ok log
  pub spelled : bytes ≡ spelling (reverse log)

-- the first file has no log, and the second is not read
pub record FirstHasNone (first read second then : Stream) (why : JoinFault) : Type 0 where
  pub none : GivesNoLog 1 first read why
  pub unread : then ≡ second

-- the first file has a log, and the second has none
pub record SecondHasNone (first read second then : Stream) (why : JoinFault) : Type 0 where
  pub one : List Operation
  pub first_gives : FileGives first read (Ok one)
  pub none : GivesNoLog 2 second then why

-- both files have logs, and these have no join, or it found no memory, which is the fault of neither file
pub record HaveNoJoin (first read second then : Stream) (why : JoinFault) : Type 0 where
  pub one : List Operation
  pub other : List Operation
  pub fault : Fault
  pub first_gives : FileGives first read (Ok one)
  pub second_gives : FileGives second then (Ok other)
  pub unjoined : (joined one other ≡ Err fault) ⊎ (fault ≡ NoMemory)
  pub of_none : why ≡ of_neither fault

-- Two files are joined; or the first has no log, or only the second has none, or their logs have no join.
abbrev pub JoinsFiles : Stream → Stream → Stream → Stream → Result (Vec ℕ Global) JoinFault → Type 0
JoinsFiles first read second then result = MatchResult result
    (λ bytes. AreJoined first read second then bytes.items)
    (λ why. FirstHasNone first read second then why ⊎ SecondHasNone first read second then why ⊎ HaveNoJoin first read second then why)
