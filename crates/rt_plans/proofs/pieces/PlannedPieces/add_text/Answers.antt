use Rattle.std.proofs.Common.{inl, refl}
use Rattle.std.proofs.lemmas.Result.{err_from_is_err_and}
use Rattle.rt_plans.proofs.pieces.PlannedPieces.add_text.Goals as goal

pub returns-in_err-push_text : goal.returns-in_err-push_text
returns-in_err-push_text c =
    let p = err_from_is_err_and c.from_residual.result c.from_residual.ensures.1 in
    rw (p.1, p.2) (record {
      drafts = tt;
      characters = tt;
      few = tt;
      count = tt;
      within = tt;
      behind = tt;
      names = tt;
      selected = refl;
      last = refl;
      err = c.in_err-push_text.ensures.err;
    })

pub returns-in_err-more : goal.returns-in_err-more
returns-in_err-more c =
    let p = err_from_is_err_and c.from_residual-in_err-more.result c.from_residual-in_err-more.ensures.1 in
    rw (p.1, p.2) (record {
      drafts = tt;
      characters = tt;
      few = tt;
      count = tt;
      within = tt;
      behind = tt;
      names = tt;
      selected = refl;
      last = refl;
      err = inl c.in_err-more.ensures.err;
    })

pub returns-in_err-append : goal.returns-in_err-append
returns-in_err-append c =
    let p = err_from_is_err_and c.from_residual-in_err-append.result c.from_residual-in_err-append.ensures.1 in
    rw (p.1, p.2) (record {
      drafts = tt;
      characters = tt;
      few = tt;
      count = tt;
      within = tt;
      behind = tt;
      names = tt;
      selected = refl;
      last = refl;
      err = inl refl;
    })
