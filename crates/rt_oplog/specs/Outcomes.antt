-- What the calls of a log answer and leave.
use Rattle.std.specs.Prelude.{◌≡◌, ℕ, ◌+◌, ◌<◌, ◌≤◌, ◌⊎◌, List, length, take, slice_get, Some, Result, Ok, Err, MatchResult}
use Rattle.rt_stamps.specs.declared.fault.Fault.{Fault}
use Rattle.rt_stamps.specs.declared.fault.Fault.TheVariants.{NoMemory}
use Rattle.rt_ops.specs.Operations.{Operation}
use Rattle.rt_oplog.specs.declared.log.Refused.{Refused}
use Rattle.rt_oplog.specs.Logs.{AreOf, IsLog, pushed, joined, with_operation}

-- a log's operations, the newest first, and how many pushes will take no memory
pub record Log : Type 0 where
  pub operations : List Operation
  pub room : ℕ

-- A push makes of the operations what `pushed` says, in at most one place of the room. A refused one leaves them. Memory is
-- wanting only for one that would be added, where there is no room.
abbrev pub Pushes : Operation → Log → Result (Unit {0}) Fault → Log → Type 0
Pushes op old result new = MatchResult result
    (λ _. (pushed op old.operations ≡ Ok new.operations) × (old.room ≤ new.room + 1))
    (λ fault. (new.operations ≡ old.operations) × (old.room ≤ new.room) × ((pushed op old.operations ≡ Err fault)
    ⊎ ((fault ≡ NoMemory) × (old.room ≡ 0) × (pushed op old.operations ≡ Ok (with_operation op old.operations)))))

-- the log that has just these operations
pub record IsLogOf (ops log : List Operation) : Type 0 where
  pub is_log : IsLog log
  pub members : AreOf log ops

-- The operation at a place is the first that is not sound, or clashes with one before it: those before it have a log, and a
-- push to that refuses it.
pub record IsFirstRefused (ops : List Operation) (place : ℕ) (fault : Fault) : Type 0 where
  pub op : Operation
  pub log : List Operation
  pub there : slice_get ops place ≡ Some op
  pub before : IsLogOf (take place ops) log
  pub refused : pushed op log ≡ Err fault

-- Operations have a log. Or one of them is the first that is refused. Or memory is wanting for one of them, and those
-- before it have a log.
abbrev pub MakesLog : List Operation → Result Log Refused → Type 0
MakesLog ops result = MatchResult result
    (λ log. IsLogOf ops log.operations)
    (λ refused. IsFirstRefused ops refused.place refused.fault
    ⊎ ((refused.fault ≡ NoMemory) × (refused.place < length ops) × ((log : List Operation) × IsLogOf (take refused.place ops) log)))

-- A join gives what `joined` says, or want of memory.
abbrev pub Joins : List Operation → List Operation → Result Log Fault → Type 0
Joins one other result = MatchResult result (λ log. joined one other ≡ Ok log.operations) (λ fault. (joined one other ≡ Err fault) ⊎ (fault ≡ NoMemory))
