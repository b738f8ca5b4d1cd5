use Rattle.std.proofs.Common.{arith}
use Rattle.std.proofs.lemmas.Bool.Decides.{nat_tests}
use Rattle.rt_ops.proofs.Adjacent.{scalars_are}
use Rattle.rt_ops.proofs.rules.is_text.Goals as goal

pub returns-then-text-le-MOST_CHARACTERS : goal.returns-then-text-le-MOST_CHARACTERS
returns-then-text-le-MOST_CHARACTERS c = rw (scalars_are c.args.text.now) (grind (arith, nat_tests))
