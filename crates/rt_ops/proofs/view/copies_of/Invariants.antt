use Rattle.std.proofs.Common.{◌≡◌, take}
use Rattle.rt_stamps.specs.Words.{as_words}
use Rattle.rt_ops.proofs.view.copies_of.Given as goal

abbrev pub invariant-loop-name : goal.invariant-loop-name
invariant-loop-name l = as_words l.copies.items ≡ as_words (take l.name-index l.names)
