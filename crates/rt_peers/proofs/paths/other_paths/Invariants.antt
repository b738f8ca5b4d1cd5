use Rattle.std.proofs.Common.{◌≡◌, ◌++◌, drop}
use Rattle.rt_stamps.specs.Words.{as_words}
use Rattle.rt_peers.specs.PeerStep.{other_paths}
use Rattle.rt_peers.proofs.paths.other_paths.Given as goal

abbrev pub invariant-loop-other : goal.invariant-loop-other
invariant-loop-other l = as_words l.others.items ++ other_paths l.path (as_words (drop l.other-index l.paths)) ≡ other_paths l.path (as_words l.paths)
