use Rattle.std.proofs.Common.{◌≡◌, ◌∙◌, ◌<◌, ◌≤◌, All, None, ap, arith, length, map, subst, sym}
use Rattle.std.proofs.lemmas.List.{take_all}
use Rattle.std.proofs.lemmas.List.Elements.{All-more}
use Rattle.std.proofs.lemmas.Result.{err_from_is_err_and}
use Rattle.rt_stamps.specs.Outcomes.{first_of}
use Rattle.rt_stamps.specs.Names.{name_check}
use Rattle.rt_stamps.proofs.Names.{all_named, none_found, some_found}
use Rattle.rt_plans.specs.DeletionLaws.{IsPiece}
use Rattle.rt_text.proofs.ReadyLaws.{names_bad, names_fine}
use Rattle.rt_text.proofs.preparing.check_names.Goals as goal

pub returns-in_err-check_names : goal.returns-in_err-check_names
returns-in_err-check_names c =
    let within : c.loop-piece.piece-index < length c.args.pieces.now = omega arith in
    let p = err_from_is_err_and c.from_residual.result c.from_residual.ensures.1 in
    rw (p.1, p.2) (record {
      ok = tt;
      pieces = tt;
      err = sym c.loop-piece.invariant.checks ∙ names_bad c.args.pieces.now c.loop-piece.piece-index c.piece-item.result c.in_err-check_names.field-0.0 within c.piece-item.is
          (ap (λ l. first_of (map name_check l)) (sym c.tags.ensures) ∙ some_found _ _ (sym c.check_names.ensures ∙ c.in_err-check_names.was));
    })

pub loop-piece-preserved : goal.loop-piece-preserved
loop-piece-preserved c =
    let within : c.loop-piece.piece-index < length c.args.pieces.now = omega arith in
    let piece = c.piece-item.result in
    let fine : first_of (map name_check piece.tags) ≡ None = ap (λ l. first_of (map name_check l)) (sym c.tags.ensures) ∙ none_found _ _ (sym c.check_names.ensures ∙ c.in_ok-check_names.was) in
    let named = all_named piece.tags fine in
    record {
      checks = names_fine c.args.pieces.now c.loop-piece.piece-index piece within c.piece-item.is fine ∙ c.loop-piece.invariant.checks;
      pieces = All-more IsPiece c.args.pieces.now c.loop-piece.piece-index piece within c.loop-piece.invariant.pieces
          (subst IsPiece c.piece-item.is (record { text = c.is_text.ensures.text; names = λ k d lt. (c.is_text.ensures.tags k d lt, named k d lt) }));
    }

pub returns-clause-pieces : goal.returns-clause-pieces
returns-clause-pieces c =
    let past : length c.args.pieces.now ≤ c.loop-piece.piece-index = omega arith in
    subst (All IsPiece) (take_all c.loop-piece.piece-index c.args.pieces.now past) c.loop-piece.invariant.pieces
