use Rattle.std.proofs.Common.{◌≡◌, drop}
use Rattle.std.specs.List.{list_any}
use Rattle.rt_stamps.specs.Places.{is_newline}
use Rattle.rt_text.specs.Neighbours.{pieces_text}
use Rattle.rt_text.proofs.neighbours.have_newline.Given as goal

abbrev pub invariant-loop-piece : goal.invariant-loop-piece
invariant-loop-piece l = list_any is_newline (pieces_text (drop l.piece-index l.pieces)) ≡ list_any is_newline (pieces_text l.pieces)
