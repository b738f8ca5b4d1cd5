-- What is counted between two places, as it is asked for (Tk text manual, "count").
use Rattle.std.specs.Prelude.{Option, Some, None, if◌then◌else◌, codes}
use Rattle.std.specs.Str.{bytes_eq}
use Rattle.rt_stamps.specs.Words.{Word}
use Rattle.rt_index.specs.declared.measure.Measure.{Measure}
use Rattle.rt_index.specs.declared.measure.Measure.TheVariants.{Chars, Indices, Lines}

-- a measure as it is written
abbrev pub switch_of : Measure → Word
switch_of Chars = codes "-chars"
switch_of Indices = codes "-indices"
switch_of Lines = codes "-lines"

-- what a switch asks to be counted
abbrev pub measure_of : Word → Option Measure
measure_of switch =
    if bytes_eq switch (codes "-chars") then Some Chars
    else if bytes_eq switch (codes "-indices") then Some Indices
    else if bytes_eq switch (codes "-lines") then Some Lines
    else None
