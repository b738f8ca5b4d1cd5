-- Comparisons of two places, as they are written (Tk text manual, "compare").
use Rattle.std.specs.Prelude.{Option, Some, None, if◌then◌else◌, codes}
use Rattle.std.specs.Str.{bytes_eq}
use Rattle.rt_stamps.specs.Words.{Word}
use Rattle.rt_index.specs.declared.comparison.Comparison.{Comparison}
use Rattle.rt_index.specs.declared.comparison.Comparison.TheVariants.{Less, LessOrEqual, Equal, GreaterOrEqual, Greater, NotEqual}

-- a comparison as it is written
abbrev pub operator_of : Comparison → Word
operator_of Less = codes "<"
operator_of LessOrEqual = codes "<="
operator_of Equal = codes "=="
operator_of GreaterOrEqual = codes ">="
operator_of Greater = codes ">"
operator_of NotEqual = codes "!="

-- the comparison that an operator names
abbrev pub comparison_of : Word → Option Comparison
comparison_of operator =
    if bytes_eq operator (codes "<") then Some Less
    else if bytes_eq operator (codes "<=") then Some LessOrEqual
    else if bytes_eq operator (codes "==") then Some Equal
    else if bytes_eq operator (codes ">=") then Some GreaterOrEqual
    else if bytes_eq operator (codes ">") then Some Greater
    else if bytes_eq operator (codes "!=") then Some NotEqual
    else None
