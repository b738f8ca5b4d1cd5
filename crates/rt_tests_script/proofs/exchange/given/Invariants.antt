use Rattle.rt_script.specs.Site.{AreWithin}
use Rattle.rt_tests_script.proofs.exchange.given.Given as goal

abbrev pub invariant-loop-file : goal.invariant-loop-file
invariant-loop-file l = AreWithin l.given.items
