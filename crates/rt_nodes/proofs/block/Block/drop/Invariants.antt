use Rattle.std.proofs.Common.{length}
use Rattle.rt_nodes.specs.Claims.{IsClaimOn}
use Rattle.rt_nodes.proofs.block.Block.drop.Given as goal

abbrev pub invariant-loop-entries : goal.invariant-loop-entries
invariant-loop-entries g l = IsClaimOn l.claim l.entries l.heap

abbrev pub decreases-loop-entries : goal.decreases-loop-entries
decreases-loop-entries g l = length l.entries.items
