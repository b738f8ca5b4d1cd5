use Rattle.std.proofs.Common.{◌≡◌, ◌++◌, drop, flat_map}
use Rattle.rt_stamps.specs.Words.{as_words}
use Rattle.rt_peers.specs.ViewStep.{element_words}
use Rattle.rt_peers.proofs.commands.dumping.elements_reply.Given as goal

abbrev pub invariant-loop-element : goal.invariant-loop-element
invariant-loop-element l = as_words l.words.items ++ flat_map element_words (drop l.element-index l.elements) ≡ flat_map element_words l.elements
