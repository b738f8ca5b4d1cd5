use Rattle.std.proofs.Common.{◌≡◌, All, drop, map, take}
use Rattle.rt_stamps.specs.Outcomes.{first_of}
use Rattle.rt_stamps.specs.Names.{name_check}
use Rattle.rt_plans.specs.DeletionLaws.{IsPiece}
use Rattle.rt_text.specs.Commands.{names_in}
use Rattle.rt_text.proofs.preparing.check_names.Given as goal

abbrev pub invariant-loop-piece : goal.invariant-loop-piece
invariant-loop-piece l = record {
  checks : first_of (map name_check (names_in (drop l.piece-index l.pieces))) ≡ first_of (map name_check (names_in l.pieces));
  pieces : All IsPiece (take l.piece-index l.pieces);
}
