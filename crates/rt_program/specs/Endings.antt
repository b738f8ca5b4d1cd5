-- How the program ends.
use Rattle.std.specs.Prelude.{ℕ, ◌&&◌, ◌==◌, Bool, true, false, nat_le, List, ◌++◌, Option, Some, None, Result, Ok, Err, codes, if◌then◌else◌}
use Rattle.std.specs.Borrow.{Bor}
use Rattle.std.specs.Fmt.{decimal}
use Rattle.std.specs.declared.io.ErrorKind.{ErrorKind}
use Rattle.std.specs.declared.io.ErrorKind.TheVariants.{OutOfMemory}
use Rattle.rt_stamps.specs.Fault.{number_of, fault_text}
use Rattle.rt_stamps.specs.declared.fault.Fault.{Fault}
use Rattle.rt_stamps.specs.declared.fault.Fault.TheVariants.{NoMemory, WriteFault}
use Rattle.rt_files.specs.declared.join.JoinFault.{JoinFault}
use Rattle.rt_program.specs.declared.ending.Failure.{Failure}

-- 1 where the program failed: a refused command is a reply, and no failure
abbrev pub status_of : Option Failure → ℕ
status_of None = 0
status_of (Some failure) = 1

-- a fault of the records of a file, numbered from 30 to 37, has an offset
abbrev pub has_offset : Fault → Bool
has_offset fault = nat_le 30 (number_of fault) && nat_le (number_of fault) 37

-- The line on standard error, without its newline: the file, if one is at fault, the fault, and the offset of a fault of
-- a file's records.
abbrev pub fault_line : Option (Bor (List ℕ) × ℕ) → Fault → List ℕ
fault_line None fault = codes "peertext: " ++ fault_text fault
fault_line (Some place) fault =
    if has_offset fault then codes "peertext: " ++ (place.0.now ++ (codes ": " ++ (fault_text fault ++ (codes " at " ++ decimal place.1))))
    else codes "peertext: " ++ (place.0.now ++ (codes ": " ++ fault_text fault))

abbrev pub error_line : Failure → List ℕ
error_line failure = fault_line failure.file failure.fault

-- a run has no file
abbrev pub run_failure : Option Fault → Option Failure
run_failure None = None
run_failure (Some fault) = Some (record { fault = fault; file = None })

-- the file that is at fault in a join: the first, the second, or neither
abbrev pub join_file : ℕ → ℕ → Bor (List ℕ) → Bor (List ℕ) → Option (Bor (List ℕ) × ℕ)
join_file file offset a b =
    if file == 1 then Some (a, offset)
    else if file == 2 then Some (b, offset) else None

abbrev pub join_failure : JoinFault → Bor (List ℕ) → Bor (List ℕ) → Failure
join_failure why a b = record { fault = why.fault; file = join_file why.file why.offset a b }

-- want of memory and a failed write of the lines are no faults of the file
abbrev pub is_of_file : Fault → Bool
is_of_file NoMemory = false
is_of_file WriteFault = false
is_of_file fault = true

-- a file that is read is at fault, or no file is
abbrev pub file_failure : Fault × ℕ → Bor (List ℕ) → Failure
file_failure found path = record { fault = found.0; file = if is_of_file found.0 then Some (path, found.1) else None }

-- a site did not begin: its log's file is at fault, if there is one, or memory was wanting
abbrev pub log_failure : Fault × ℕ → Option (Bor (List ℕ)) → Failure
log_failure found None = record { fault = found.0; file = None }
log_failure found (Some path) = file_failure found path

-- the fault with which a script ended comes before that of the file which gets the log
abbrev pub first_failure : Option Fault → Option Failure → Option Failure
first_failure None out = out
first_failure (Some fault) out = run_failure (Some fault)

-- how `show` ends: with a failed write where its lines were not all written, else as the file was read
abbrev pub show_failure : Result (Unit {0}) (Fault × ℕ) → Bool → Bor (List ℕ) → Option Failure
show_failure shown false path = Some (record { fault = WriteFault; file = None })
show_failure (Ok x) true path = None
show_failure (Err found) true path = Some (file_failure found path)

-- a write of a file failed: for want of memory, or for the file's sake
abbrev pub write_failure : ErrorKind → Bor (List ℕ) → Failure
write_failure OutOfMemory path = record { fault = NoMemory; file = None }
write_failure kind path = record { fault = WriteFault; file = Some (path, 0) }
