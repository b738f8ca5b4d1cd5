-- Fresh counts, and whether they fit.
use Rattle.std.specs.Prelude.{ℕ, ◌+◌, nat_lt, Option, Some, None, Result, if◌then◌else◌}
use Rattle.rt_stamps.specs.declared.limits.TheConstants.{GREATEST_COUNT}
use Rattle.rt_stamps.specs.declared.fault.Fault.{Fault}
use Rattle.rt_stamps.specs.declared.fault.Fault.TheVariants.{ClockSpent}
use Rattle.rt_stamps.specs.Outcomes.{unless}

-- a clock may go as far as a count
abbrev pub clock_check : ℕ → Option Fault
clock_check count = if nat_lt GREATEST_COUNT count then Some ClockSpent else None

-- the first of k counts after the greatest that was seen, if the last of them is a count
abbrev pub fresh_count : ℕ → ℕ → Result ℕ Fault
fresh_count seen k = unless (clock_check (seen + k)) (seen + 1)
