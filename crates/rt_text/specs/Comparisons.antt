-- The comparisons of two places (Tk text manual).
use Rattle.std.specs.Prelude.{ℕ, nat_lt, nat_le, ◌==◌, not, Bool}
use Rattle.rt_index.specs.declared.comparison.Comparison.{Comparison}
use Rattle.rt_index.specs.declared.comparison.Comparison.TheVariants.{Less, LessOrEqual, Equal, GreaterOrEqual, Greater, NotEqual}

-- a comparison holds of two places
abbrev pub holds_of : Comparison → ℕ → ℕ → Bool
holds_of Less a b = nat_lt a b
holds_of LessOrEqual a b = nat_le a b
holds_of Equal a b = a == b
holds_of GreaterOrEqual a b = nat_le b a
holds_of Greater a b = nat_lt b a
holds_of NotEqual a b = not (a == b)
