use Rattle.std.proofs.Common.{length}
use Rattle.rt_stamps.specs.Words.{as_words}
use Rattle.rt_requests.proofs.ReadSettings.{AreRead}
use Rattle.rt_requests.proofs.settings.read_pairs.Given as goal

abbrev pub invariant-loop-left : goal.invariant-loop-left
invariant-loop-left l = AreRead (as_words l.fn.words) (as_words l.left) l.settings

abbrev pub decreases-loop-left : goal.decreases-loop-left
decreases-loop-left l = length l.left
