use Rattle.std.proofs.Common.{◌≡◌, ◌≤◌, List, [], map, take}
use Rattle.rt_stamps.specs.declared.limits.TheConstants.{GREATEST_COUNT, MOST_CHARACTERS}
use Rattle.rt_stamps.specs.declared.stamp.Stamp.{Stamp}
use Rattle.rt_stamps.specs.Words.{Word}
use Rattle.rt_ops.specs.Edits.{body_of}
use Rattle.rt_rga.specs.OneOrMany.{items_in}
use Rattle.rt_plans.specs.InsertionDrafts.{pieces_drafts}
use Rattle.rt_plans.specs.Insertions.{with_pieces}
use Rattle.rt_plans.specs.PlannedPieces.{AreSoFar}
use Rattle.rt_plans.proofs.pieces.PlannedPieces.of.Given as goal

abbrev pub invariant-loop-piece : goal.invariant-loop-piece
invariant-loop-piece l = record {
  drafts : (sel : List Stamp) (others : List (List Stamp)) (tags : List Word)
      → map body_of (items_in l.all.texts.drafts) ≡ pieces_drafts MOST_CHARACTERS l.site.number l.fn.after (take l.piece-index l.pieces) (record { cells = []; count = l.count; sel = sel; others = others; tags = tags });
  so_far : (sel : List Stamp) (others : List (List Stamp)) (tags : List Word)
      → AreSoFar l.fn.after sel tags l.all (with_pieces l.site.number (take l.piece-index l.pieces) (record { cells = []; count = l.count; sel = sel; others = others; tags = tags }));
  within : l.all.texts.count ≤ GREATEST_COUNT;
  few : l.all.characters ≤ l.all.texts.count;
}
