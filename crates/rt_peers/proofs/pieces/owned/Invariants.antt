use Rattle.std.proofs.Common.{◌≡◌, ◌++◌, drop, map}
use Rattle.rt_peers.specs.ViewStep.{as_piece}
use Rattle.rt_peers.proofs.pieces.owned.Given as goal

abbrev pub invariant-loop-piece : goal.invariant-loop-piece
invariant-loop-piece l = l.copies.items ++ map as_piece (drop l.piece-index l.pieces) ≡ map as_piece l.pieces
