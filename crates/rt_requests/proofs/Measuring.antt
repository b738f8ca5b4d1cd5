-- Measures that switches ask for, one more.
use Rattle.std.proofs.Common.{List, ◌++◌, Option}
use Rattle.std.specs.Prelude.{option_map}
use Rattle.rt_index.specs.declared.measure.Measure.{Measure}

-- what was read, before what the rest asks for
abbrev pub before : List Measure → Option (List Measure) → Option (List Measure)
before read rest = option_map (λ others. read ++ others) rest
