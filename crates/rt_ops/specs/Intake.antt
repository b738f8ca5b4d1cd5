-- Bytes taken from a reader, within bounds.
use Rattle.std.specs.Prelude.{◌≡◌, ◌≢◌, ◌⊎◌, ℕ, ◌+◌, ◌<◌, ◌≤◌, List, [], ◌∷◌, ◌++◌, length, take, Option, Some, Result, Err, MatchResult, MatchOption, Vec}
use Rattle.std.specs.declared.alloc.Global.{Global}
use Rattle.std.specs.Int.{w32}
use Rattle.std.specs.Io.KnownBytes.{Consumes, IsAtEnd}
use Rattle.rt_stamps.specs.declared.limits.Bounds.{Bounds}
use Rattle.rt_stamps.specs.declared.limits.TheConstants.{MOST_RECORD_BYTES}
use Rattle.rt_stamps.specs.declared.fault.Fault.{Fault}
use Rattle.rt_stamps.specs.declared.fault.Fault.TheVariants.{NoMemory, Truncated, BadRecord, ReadFault}
use Rattle.rt_stamps.specs.Streams.{Stream}
use Rattle.rt_ops.specs.declared.version.Version.{Version}
use Rattle.rt_ops.specs.Operations.{Operation}
use Rattle.rt_ops.specs.File.{magic, number, record_of, HasRecord}
use Rattle.rt_ops.specs.Versions.{fewest}
use Rattle.rt_ops.specs.Reading.{head_of, EndsEarly, HasNoRecord, Reads, Stops}

-- These bytes were taken in no more reads than there are bytes, and none failed. `had` and `has` are what the bounds allowed
-- before and allow now.
pub record Takes (old new : Stream) (had has : Bounds) (bytes : List ℕ) : Type 0 where
  pub consumed : Consumes old.bytes new.bytes bytes
  pub failures : new.failures ≡ old.failures
  pub calls : new.calls ≤ old.calls + length bytes
  pub room : length bytes + has.bytes ≡ had.bytes
  pub reads : new.calls + has.reads ≡ old.calls + had.reads

-- These bytes were taken, and then one read told that they are the last.
pub record Finishes (old new : Stream) (had has : Bounds) (bytes : List ℕ) : Type 0 where
  pub consumed : Consumes old.bytes new.bytes bytes
  pub failures : new.failures ≡ old.failures
  pub calls : new.calls ≤ old.calls + length bytes + 1
  pub room : length bytes + has.bytes ≡ had.bytes
  pub reads : new.calls + has.reads ≡ old.calls + had.reads
  pub at_end : IsAtEnd new.bytes

-- after these bytes a read failed
abbrev pub FailsAfter : Stream → Stream → List ℕ → Type 0
FailsAfter old new bytes = Consumes old.bytes new.bytes bytes × (new.failures ≡ old.failures + 1)

-- these are as many bytes as the bounds allow, and one more came
abbrev pub PassesBytes : Stream → Stream → Bounds → List ℕ → Type 0
PassesBytes old new had bytes =
    (byte : ℕ) × Consumes old.bytes new.bytes (bytes ++ byte ∷ []) × (new.failures ≡ old.failures) × (length bytes ≡ had.bytes)

-- As many reads as the bounds allow gave these bytes, of which there are no fewer, and none failed.
pub record IsReadUp (bounds : Bounds) (old new : Stream) (bytes : List ℕ) : Type 0 where
  pub consumed : Consumes old.bytes new.bytes bytes
  pub failures : new.failures ≡ old.failures
  pub calls : new.calls ≡ old.calls + bounds.reads
  pub some : bounds.reads ≤ length bytes

-- The last read of a reader gave a piece, and up to it the reader had given a front.
pub record LastGave {R : Type 0} (stream : R → Stream) (old new : R) (front piece : List ℕ) : Type 0 where
  -- The reader as it was before that read. It is a value of the reader's own type, which may be any type, so a proof has no values of it
  -- but those that the reader went through; a `Stream` that is made up wouldn't do.
  pub before : R
  pub gave : Consumes (stream old).bytes (stream before).bytes front
  pub calls : (stream new).calls ≡ (stream before).calls + 1
  pub last : Consumes (stream before).bytes (stream new).bytes piece

-- the last read gave some bytes, so it didn't find the end
abbrev pub GaveSome : {R : Type 0} → (R → Stream) → R → R → Type 0
GaveSome stream old new = (front piece : List ℕ) × (piece ≢ []) × LastGave stream old new front piece

-- The end wasn't found: no read is allowed, and the reader is as it was; or the last read gave some bytes.
abbrev pub EndIsUnseen : {R : Type 0} → (R → Stream) → Bounds → R → R → Type 0
EndIsUnseen stream bounds old new = ((bounds.reads ≡ 0) × (new ≡ old)) ⊎ GaveSome stream old new

-- Where reading was stopped though no read failed, the end wasn't found.
abbrev pub StopsUnseen : {R : Type 0} → (R → Stream) → Bounds → R → R → Fault → Type 0
StopsUnseen stream bounds old new fault = fault ≡ ReadFault → (stream new).failures ≡ (stream old).failures → EndIsUnseen stream bounds old new

-- These bytes were taken, and then a read failed, or one more byte came than is allowed, or no more reads were.
pub record IsStopped (old new : Stream) (had : Bounds) (bytes : List ℕ) : Type 0 where
  pub within : length bytes ≤ had.bytes
  pub calls : new.calls ≤ old.calls + length bytes + 1
  pub reads : new.calls ≤ old.calls + had.reads
  pub cause : FailsAfter old new bytes ⊎ (PassesBytes old new had bytes ⊎ IsReadUp had old new bytes)

-- a read of at most so many bytes, none only at the end
abbrev pub GetsSome : Stream → Stream → Bounds → Bounds → ℕ → Result ℕ Fault → List ℕ → Type 0
GetsSome old new had has most result buf = MatchResult result
    (λ n. (n ≤ length buf) × (n ≤ most) × (0 < n → Takes old new had has (take n buf)) × (n ≡ 0 → Finishes old new had has []))
    (λ fault. (fault ≡ ReadFault) × IsStopped old new had [])

-- so many bytes, fewer only at the end
abbrev pub Gathers : Stream → Stream → Bounds → Bounds → ℕ → Result (Unit {0}) Fault → List ℕ → Type 0
Gathers old new had has wanted result bytes = MatchResult result
    (λ _. (length bytes ≤ wanted) × (wanted ≤ length bytes → Takes old new had has bytes) × (length bytes < wanted → Finishes old new had has bytes))
    (λ fault. ((fault ≡ NoMemory) × (taken : List ℕ) × Takes old new had has taken)
    ⊎ ((fault ≡ ReadFault) × (taken : List ℕ) × (length taken < wanted) × IsStopped old new had taken))

-- why a record isn't read, with the bytes of it that were taken
abbrev pub Fails : Version → Stream → Stream → Bounds → Bounds → Fault → Type 0
Fails version old new had has fault = (bytes : List ℕ) × (
    ((fault ≡ NoMemory) × Takes old new had has bytes)
    ⊎ (((fault ≡ Truncated) × Finishes old new had has bytes × (0 < length bytes) × EndsEarly version bytes)
    ⊎ (((fault ≡ BadRecord) × Takes old new had has bytes × HasNoRecord version bytes)
    ⊎ ((fault ≡ ReadFault) × IsStopped old new had bytes × EndsEarly version bytes))))

-- a record's length field, or none at the end
abbrev pub GetsLength : Version → Stream → Stream → Bounds → Bounds → Result (Option ℕ) Fault → Type 0
GetsLength version old new had has result = MatchResult result
    (λ found. MatchOption found (Finishes old new had has [])
    (λ n. Takes old new had has (number w32 n) × (fewest version ≤ n) × (n ≤ MOST_RECORD_BYTES)))
    (Fails version old new had has)

-- a record, or none at the end
abbrev pub GetsRecord : Version → Stream → Stream → Bounds → Bounds → Result (Option Operation) Fault → Type 0
GetsRecord version old new had has result = MatchResult result
    (λ found. MatchOption found (Finishes old new had has []) (λ op. Takes old new had has (record_of version op) × HasRecord version op))
    (Fails version old new had has)

-- the first eight bytes of a file, which tell its version, or why they aren't read
abbrev pub GetsHead : Stream → Stream → Bounds → Bounds → Result Version Fault → Type 0
GetsHead old new had has result = MatchResult result
    (λ version. Takes old new had has (magic version))
    (λ fault. (bytes : List ℕ) × (
    ((fault ≡ NoMemory) × Takes old new had has bytes)
    ⊎ (((head_of bytes ≡ Err fault) × (length bytes ≤ 8) × (8 ≤ length bytes → Takes old new had has bytes)
    × (length bytes < 8 → Finishes old new had has bytes))
    ⊎ ((fault ≡ ReadFault) × IsStopped old new had bytes × (length bytes < 8)))))

-- These bytes were read within the bounds, in at most one read more than there are bytes, and none failed.
pub record HasRead (bounds : Bounds) (old new : Stream) (bytes : List ℕ) : Type 0 where
  pub consumed : Consumes old.bytes new.bytes bytes
  pub within : length bytes ≤ bounds.bytes
  pub failures : new.failures ≡ old.failures
  pub calls : new.calls ≤ old.calls + bounds.reads
  pub each : new.calls ≤ old.calls + length bytes + 1

-- A file that begins with these bytes is read so: it has no others, or whatever others follow.
abbrev pub IsTold : Option (List ℕ) → List ℕ → List Operation → List ℕ → Option (Fault × ℕ) → Type 0
IsTold left bytes ops offsets fault = (IsAtEnd left × Reads bytes ops offsets fault) ⊎ ((more : List ℕ) → Reads (bytes ++ more) ops offsets fault)

-- Some bytes were read, and what is told is what they are read as. They are those that were left, where these are known.
-- Or reading was stopped before any fault: a read failed, or more bytes came or more reads were wanted than are allowed.
abbrev pub ReadsFile : Bounds → Stream → Stream → List Operation → List ℕ → Option (Fault × ℕ) → Type 0
ReadsFile bounds old new ops offsets fault =
    ((bytes : List ℕ) × HasRead bounds old new bytes × IsTold new.bytes bytes ops offsets fault)
    ⊎ ((at : ℕ) × (front : List ℕ) × (fault ≡ Some (ReadFault, at)) × Stops front ops offsets at × IsStopped old new bounds front)

-- Memory was wanting after some bytes, within the bounds, and no read had failed.
abbrev pub LacksMemory : Bounds → Stream → Stream → Type 0
LacksMemory bounds old new = (bytes : List ℕ) × HasRead bounds old new bytes

-- All bytes were read, to the end. Or memory was wanting after some. Or reading was stopped: a read failed, or more bytes came
-- or more reads were wanted than are allowed.
abbrev pub ReadsWhole : Bounds → Stream → Stream → Result (Vec ℕ Global) Fault → Type 0
ReadsWhole bounds old new result = MatchResult result
    (λ bytes. HasRead bounds old new bytes.items × IsAtEnd new.bytes)
    (λ fault. ((fault ≡ NoMemory) × LacksMemory bounds old new) ⊎ ((fault ≡ ReadFault) × ((front : List ℕ) × IsStopped old new bounds front)))
