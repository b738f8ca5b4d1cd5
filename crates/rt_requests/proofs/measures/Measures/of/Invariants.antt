use Rattle.std.proofs.Common.{◌≡◌, drop}
use Rattle.rt_stamps.specs.Words.{as_words}
use Rattle.rt_requests.specs.Switches.{measures_of}
use Rattle.rt_requests.proofs.Measuring.{before}
use Rattle.rt_requests.proofs.measures.Measures.of.Given as goal

abbrev pub invariant-loop-switch : goal.invariant-loop-switch
invariant-loop-switch l = measures_of (as_words l.switches) ≡ before l.measures.items (measures_of (as_words (drop l.switch-index l.switches)))
