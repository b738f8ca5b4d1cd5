use Rattle.std.proofs.Common.{◌≡◌, ◌++◌, length, map}
use Rattle.std.specs.Prelude.{option_map}
use Rattle.rt_index.specs.Expression.{kept_modifier}
use Rattle.rt_index.specs.Reading.{modifiers_of}
use Rattle.rt_index.proofs.reading.modifiers_of.Given as goal

abbrev pub invariant-loop-rest : goal.invariant-loop-rest
invariant-loop-rest l =
    option_map (λ ms. l.modifiers.items ++ map kept_modifier ms) (modifiers_of l.rest) ≡ option_map (map kept_modifier) (modifiers_of l.text)

abbrev pub decreases-loop-rest : goal.decreases-loop-rest
decreases-loop-rest l = length l.rest
