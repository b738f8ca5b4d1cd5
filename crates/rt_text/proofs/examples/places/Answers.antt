use Rattle.std.proofs.Common.{◌∙◌, ◌++◌, ap, arith}
use Rattle.std.specs.Prelude.{codes}
use Rattle.std.proofs.lemmas.Fmt.{decimal_digit, decimal_step}
use Rattle.rt_text.proofs.examples.places.Goals as goal

pub returns-clause-first : goal.returns-clause-first
returns-clause-first c = ap (λ digits. codes "1.0+" ++ (digits ++ codes "c")) (decimal_digit 0 (omega arith))

pub returns-clause-twelve : goal.returns-clause-twelve
returns-clause-twelve c =
    ap (λ digits. codes "1.0+" ++ (digits ++ codes "c"))
    (decimal_step 12 (omega arith) (omega arith) ∙ ap (λ digits. digits ++ codes "2") (decimal_digit 1 (omega arith)))
