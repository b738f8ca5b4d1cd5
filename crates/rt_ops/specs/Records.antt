-- The records of a file in memory, taken one after another.
use Rattle.std.specs.Prelude.{◌≡◌, ◌⊎◌, ℕ, ◌+◌, ◌<◌, ◌≤◌, List, [], ◌∷◌, ◌++◌, length, take, drop, Option, Some, Result, Err, MatchResult}
use Rattle.std.specs.Int.{w32}
use Rattle.rt_stamps.specs.declared.limits.TheConstants.{MOST_RECORD_BYTES}
use Rattle.rt_stamps.specs.declared.fault.Fault.{Fault}
use Rattle.rt_stamps.specs.declared.fault.Fault.TheVariants.{NoMemory, Truncated, BadRecord}
use Rattle.rt_stamps.specs.declared.stamp.Stamp.{Stamp}
use Rattle.rt_ops.specs.declared.version.Version.{Version}
use Rattle.rt_ops.specs.Operations.{Operation}
use Rattle.rt_ops.specs.File.{number, record_of, file_of, AreInFile}
use Rattle.rt_ops.specs.Reading.{head_of, EndsEarly, HasNoRecord, IsEnd, StandsWhole, stamp_of_last}
use Rattle.rt_ops.specs.Versions.{fewest}

-- the version of a file, its bytes, and those of them that are left
pub record Left : Type 0 where
  pub version : Version
  pub bytes : List ℕ
  pub rest : List ℕ

-- These operations were taken: the file is one of theirs, and then the bytes that are left.
pub record HasTaken (left : Left) (ops : List Operation) : Type 0 where
  pub bytes : left.bytes ≡ file_of left.version ops ++ left.rest
  pub are : AreInFile left.version ops

-- So many bytes are a file of these operations, of which the last one has this stamp.
pub record IsFileUpTo (version : Version) (bytes : List ℕ) (offset : ℕ) (last : Option Stamp) (ops : List Operation) : Type 0 where
  pub taken : HasTaken (record { version = version; bytes = bytes; rest = drop offset bytes }) ops
  pub offset_is : offset ≡ length (file_of version ops)
  pub last_is : last ≡ stamp_of_last ops

-- The records of a file, none of them taken; refused where its first eight bytes have a fault.
abbrev pub BeginsRecords : List ℕ → Result Left Fault → Type 0
BeginsRecords bytes result = MatchResult result
    (λ left. (left.bytes ≡ bytes) × HasTaken left [])
    (λ fault. head_of (take 8 bytes) ≡ Err fault)

-- The operation's record was taken: it stood before the bytes that are left now.
pub record TakesRecord (old : Left) (op : Operation) (new : Left) : Type 0 where
  pub version : new.version ≡ old.version
  pub bytes : new.bytes ≡ old.bytes
  pub record_is : old.rest ≡ record_of old.version op ++ new.rest
  pub taken : (ops : List Operation) → HasTaken old ops → HasTaken new (ops ++ op ∷ [])

-- Why no record is taken: memory was wanting, where one stands whole; or what stands there is the end, with its fault.
abbrev pub RefusesRecord : Left → Fault → Type 0
RefusesRecord left fault =
    ((fault ≡ NoMemory) × StandsWhole left.version left.rest)
    ⊎ ((ops : List Operation) → HasTaken left ops → IsEnd left.version ops left.rest (Some (fault, length (file_of left.version ops))))

-- A length field stands at the front, and what follows it. Truncated of fewer bytes, BadRecord where no record has the length.
abbrev pub TellsLength : {X : Type 0} → Version → (X → ℕ) → (X → List ℕ) → List ℕ → Result X Fault → Type 0
TellsLength version size rest bytes result = MatchResult result
    (λ found. (bytes ≡ number w32 (size found) ++ rest found) × (fewest version ≤ size found) × (size found ≤ MOST_RECORD_BYTES))
    (λ fault. ((fault ≡ Truncated) × (length bytes < 4)) ⊎ ((fault ≡ BadRecord) × (4 ≤ length bytes) × HasNoRecord version (take 4 bytes)))

-- A whole record stands at the front, which has this content. Refused where the end comes within it, or none has its length.
abbrev pub FindsContent : {X : Type 0} → Version → (X → List ℕ) → List ℕ → Result X Fault → Type 0
FindsContent version content bytes result = MatchResult result
    (λ found. (fewest version ≤ length (content found)) × (length (content found) ≤ MOST_RECORD_BYTES)
    × (bytes ≡ (number w32 (length (content found)) ++ content found) ++ drop (4 + length (content found)) bytes))
    (λ fault. ((fault ≡ Truncated) × EndsEarly version bytes) ⊎ ((fault ≡ BadRecord) × HasNoRecord version bytes))
