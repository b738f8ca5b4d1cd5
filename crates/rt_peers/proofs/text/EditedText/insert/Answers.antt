use Rattle.std.proofs.Common.{◌≡◌, ◌==◌, ◌∙◌, [], ap, arith, length, map, sym, true}
use Rattle.std.proofs.lemmas.List.{nil_from_length}
use Rattle.std.proofs.lemmas.Bool.Decides.{nat_tests}
use Rattle.rt_recording.specs.Edits.{text_inserted}
use Rattle.rt_peers.specs.ViewStep.{as_piece}
use Rattle.rt_peers.proofs.Steps.{changed_answers}
use Rattle.rt_peers.proofs.text.EditedText.insert.Goals as goal

pub returns-then-is_empty : goal.returns-then-is_empty
returns-then-is_empty c =
    let zero : (length c.pieces.result.now == 0) ≡ true = sym c.is_empty.ensures ∙ c.if-is_empty.true in
    let none : c.args.texts.now.pieces ≡ [] = sym c.pieces.ensures ∙ nil_from_length c.pieces.result.now (grind (arith, nat_tests, zero)) in
    let pieces = ap (map as_piece) (sym none) in
    changed_answers c.args.self.now _ _ _ _ c.insert-plain.result c.changed.result c.self.view_is
    (λ i. text_inserted (c.self.view_is i) (c.text.ensures i) (pieces i) (c.rest.ensures i)) c.insert-plain.ensures.ok c.insert-plain.ensures.err c.insert-plain.ensures.unchanged c.changed.ensures
