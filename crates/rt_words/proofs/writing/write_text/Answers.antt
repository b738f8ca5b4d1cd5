use Rattle.std.proofs.Common.{arith}
use Rattle.std.proofs.lemmas.Bool.Decides.{nat_tests}
use Rattle.rt_words.proofs.TextLaws.{empty_text, quoted_text, bare_text}
use Rattle.rt_words.proofs.writing.write_text.Goals as goal

pub returns-then-is_empty : goal.returns-then-is_empty
returns-then-is_empty g c = rw (empty_text c.args.text.now (grind (arith, nat_tests, c.is_empty.ensures))) c.write_all.ensures

pub returns-then-is_quoted : goal.returns-then-is_quoted
returns-then-is_quoted g c = rw (quoted_text c.args.text.now (grind (arith, c.is_quoted.ensures))) c.write_quoted_text.ensures

pub returns : goal.returns
returns g c =
    rw (bare_text c.args.text.now (grind (arith, nat_tests, c.is_empty.ensures)) (grind (arith, c.is_quoted.ensures))) c.write_bare_text.ensures
