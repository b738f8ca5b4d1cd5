-- What reading makes of the bytes of a file.
use Rattle.std.specs.Prelude.{◌≡◌, ◌⊎◌, ℕ, ◌+◌, ◌<◌, ◌≤◌, Bool, true, not, nat_lt, List, [], ◌∷◌, ◌++◌, length, take, Option, Some, None, option_map, Result, Ok, Err, if◌then◌else◌}
use Rattle.std.specs.List.{last_or}
use Rattle.std.specs.Int.{w32}
use Rattle.std.specs.Str.{bytes_eq}
use Rattle.rt_stamps.specs.declared.limits.TheConstants.{MOST_RECORD_BYTES}
use Rattle.rt_stamps.specs.declared.fault.Fault.{Fault}
use Rattle.rt_stamps.specs.declared.stamp.Stamp.{Stamp}
use Rattle.rt_stamps.specs.declared.fault.Fault.TheVariants.{BadMagic, BadVersion, Truncated, BadRecord}
use Rattle.rt_ops.specs.declared.version.Version.{Version}
use Rattle.rt_ops.specs.declared.version.Version.TheVariants.{One, Two}
use Rattle.rt_ops.specs.Operations.{Operation, stamp_of}
use Rattle.rt_stamps.specs.Stamps.{is_before}
use Rattle.rt_ops.specs.File.{magic, number, record_of, file_of, version_of, HasRecord, AreInFile}
use Rattle.rt_ops.specs.Versions.{file_name, fewest}

-- the version that a file's first eight bytes tell, or their fault; of all bytes where there are fewer
abbrev pub head_of : List ℕ → Result Version Fault
head_of front =
    if not (bytes_eq (take 7 front) (take (length front) file_name)) then Err BadMagic
    else if nat_lt (length front) 8 then Err Truncated
    else if bytes_eq front (magic One) then Ok One
    else if bytes_eq front (magic Two) then Ok Two
    else Err BadVersion

-- where each record begins, the first of them at `at`
abbrev pub offsets_from : Version → ℕ → List Operation → List ℕ
offsets_from version at [] = []
offsets_from version at (op ∷ ops) = at ∷ offsets_from version (at + length (record_of version op)) ops

-- where each record begins in the file that is written of these operations
abbrev pub offsets_of : List Operation → List ℕ
offsets_of ops = offsets_from (version_of ops) 8 ops

-- fewer bytes than a length field has, or than a length in its range says
abbrev pub EndsEarly : Version → List ℕ → Type 0
EndsEarly version rest =
    (length rest < 4)
    ⊎ ((n : ℕ) × (content : List ℕ) × (rest ≡ number w32 n ++ content) × (fewest version ≤ n) × (n ≤ MOST_RECORD_BYTES) × (length content < n))

-- a length in its range stands at the front, and as many bytes follow it
pub record StandsWhole (version : Version) (rest : List ℕ) : Type 0 where
  pub content : List ℕ
  pub more : List ℕ
  pub parts : rest ≡ (number w32 (length content) ++ content) ++ more
  pub least : fewest version ≤ length content
  pub most : length content ≤ MOST_RECORD_BYTES

-- whatever follows, these bytes are whole and begin with the record of no operation
pub record HasNoRecord (version : Version) (bytes : List ℕ) : Type 0 where
  pub some : 0 < length bytes
  pub whole : (more : List ℕ) → EndsEarly version (bytes ++ more) → ⊥
  pub none : (op : Operation) (more tail : List ℕ) → HasRecord version op → bytes ++ more ≡ record_of version op ++ tail → ⊥

-- a record was begun, and the end comes within it
abbrev pub IsCutShort : Version → List ℕ → Type 0
IsCutShort version rest = (0 < length rest) × EndsEarly version rest

-- after these operations there are bytes that aren't cut short, and that begin with the record of no operation that may follow
pub record IsBroken (version : Version) (ops : List Operation) (rest : List ℕ) : Type 0 where
  pub some : 0 < length rest
  pub whole : EndsEarly version rest → ⊥
  pub none : (op : Operation) (more : List ℕ) → AreInFile version (ops ++ op ∷ []) → rest ≡ record_of version op ++ more → ⊥

-- what follows the records of these operations: nothing where there is no fault, and else what has the fault
abbrev pub IsEnd : Version → List Operation → List ℕ → Option (Fault × ℕ) → Type 0
IsEnd version ops rest None = rest ≡ []
IsEnd version ops rest (Some fault) = (fault.1 ≡ length (file_of version ops))
    × (((fault.0 ≡ Truncated) × IsCutShort version rest) ⊎ ((fault.0 ≡ BadRecord) × IsBroken version ops rest))

-- What is read of a file whose first eight bytes tell this version, or have this fault, which has the offset 0. Else the bytes
-- are a file of operations with their offsets, up to the end or to the first fault, which has the offset of its record.
abbrev pub ReadsAs : Result Version Fault → List ℕ → List Operation → List ℕ → Option (Fault × ℕ) → Type 0
ReadsAs (Err found) bytes ops offsets fault = (ops ≡ []) × (offsets ≡ []) × (fault ≡ Some (found, 0))
ReadsAs (Ok version) bytes ops offsets fault = (rest : List ℕ) × (bytes ≡ file_of version ops ++ rest) × AreInFile version ops
    × (offsets ≡ offsets_from version 8 ops) × IsEnd version ops rest fault

-- The bytes begin with a file of these operations, of this version.
abbrev pub IsBegunIn : Version → List ℕ → List Operation → Type 0
IsBegunIn version bytes ops = (rest : List ℕ) × (bytes ≡ file_of version ops ++ rest) × AreInFile version ops

abbrev pub IsBegun : List ℕ → List Operation → Type 0
IsBegun bytes ops = (version : Version) × IsBegunIn version bytes ops

-- these operations are the first of all, or all of them
abbrev pub AreFirstOf : List Operation → List Operation → Type 0
AreFirstOf ops all = (more : List Operation) × (all ≡ ops ++ more)

-- what is read of a file's bytes
abbrev pub Reads : List ℕ → List Operation → List ℕ → Option (Fault × ℕ) → Type 0
Reads bytes ops offsets fault = ReadsAs (head_of (take 8 bytes)) bytes ops offsets fault

-- Reading was stopped after these bytes, before any fault: they end in the first eight bytes, or behind the records of
-- the operations, or within the record after those.
abbrev pub Stops : List ℕ → List Operation → List ℕ → ℕ → Type 0
Stops front ops offsets at =
    ((length front < 8) × (ops ≡ []) × (offsets ≡ []) × (at ≡ 0))
    ⊎ ((version : Version) × (rest : List ℕ) × (front ≡ file_of version ops ++ rest) × AreInFile version ops × (offsets ≡ offsets_from version 8 ops)
    × (at ≡ length (file_of version ops)) × EndsEarly version rest)

-- the stamp of the last operation, if there is any
abbrev pub stamp_of_last : List Operation → Option Stamp
stamp_of_last ops = option_map stamp_of (last_or None ops)

-- whether an operation's stamp is after the last one, if there is any
abbrev pub may_follow : Option Stamp → Operation → Bool
may_follow None op = true
may_follow (Some last) op = is_before last (stamp_of op)
