use Rattle.std.proofs.Common.{◌≡◌, drop}
use Rattle.rt_text.specs.Neighbours.{ends_behind, ends_with_newline, pieces_text}
use Rattle.rt_text.proofs.neighbours.end_with_newline.Given as goal

abbrev pub invariant-loop-piece : goal.invariant-loop-piece
invariant-loop-piece l = ends_behind l.ends (pieces_text (drop l.piece-index l.pieces)) ≡ ends_with_newline (pieces_text l.pieces)
