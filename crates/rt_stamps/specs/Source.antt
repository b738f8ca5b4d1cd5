-- What a call of a reader or a writer adds to the failures.
use Rattle.std.specs.Prelude.{ℕ, ◌==◌, ◌&&◌, nat_lt, List, length, Result, Ok, Err, if◌then◌else◌}

-- a read fails where it answers an error
abbrev pub failed_reads : {E : Type 0} → Result ℕ E → ℕ
failed_reads (Ok n) = 0
failed_reads (Err e) = 1

-- a write fails where it answers an error, or takes nothing of a piece that isn't empty
abbrev pub failed_writes : {E : Type 0} → Result ℕ E → List ℕ → ℕ
failed_writes (Ok n) piece = if (n == 0) && nat_lt 0 (length piece) then 1 else 0
failed_writes (Err e) piece = 1

-- a call that goes on writing ends at the first failure
abbrev pub failures_of : {T E : Type 0} → Result T E → ℕ
failures_of (Ok x) = 0
failures_of (Err e) = 1
