use Rattle.std.proofs.Common.{◌≡◌, ◌∙◌, ◌+◌, ◌<◌, ◌∷◌, ap, arith, drop, length, sym}
use Rattle.std.specs.Str.{chars}
use Rattle.std.proofs.lemmas.List.{drop_more}
use Rattle.rt_text.specs.Neighbours.{ends_behind, pieces_text}
use Rattle.rt_text.proofs.LineCounts.{ends_append}
use Rattle.rt_text.proofs.neighbours.end_with_newline.Goals as goal

pub loop-piece-preserved : goal.loop-piece-preserved
loop-piece-preserved c =
    let pieces = c.args.pieces.now in
    let i = c.loop-piece.piece-index in
    let piece = c.piece-item.result in
    let before = c.loop-piece.ends in
    let within : i < length pieces = omega arith in
    let here : drop i pieces ≡ piece ∷ drop (i + 1) pieces = drop_more pieces i piece within ∙ ap (λ p. p ∷ drop (i + 1) pieces) (sym c.piece-item.is) in
    ap (λ b. ends_behind b (pieces_text (drop (i + 1) pieces))) (c.ends_behind-ends.ensures ∙ ap (λ t. ends_behind before (chars t)) c.text.ensures)
    ∙ sym (ends_append before (chars piece.text) (pieces_text (drop (i + 1) pieces)))
    ∙ ap (λ l. ends_behind before (pieces_text l)) (sym here) ∙ c.loop-piece.invariant
