use Rattle.std.proofs.Common.{◌⊎◌, inl, inr, refl}
use Rattle.std.proofs.lemmas.Result.{err_from_is_err_and}
use Rattle.rt_text.proofs.preparing.make_planned.Goals as goal

memory_first : {A B C : Type 0} → A ⊎ (B × C) → B ⊎ A
memory_first (inl a) = inr a
memory_first (inr p) = inl p.0

pub returns-in_err-make_room : goal.returns-in_err-make_room
returns-in_err-make_room g c =
    let p = err_from_is_err_and c.from_residual.result c.from_residual.ensures.1 in
    rw (p.1, p.2) (record {
      fits = tt;
      refused = inl c.in_err-make_room.ensures.err;
      log = tt;
      cells = tt;
      same = refl;
      site = refl;
      limit = refl;
      tags = c.make_room.ensures.tags;
      selection = c.make_room.ensures.selection;
      others = c.make_room.ensures.others;
      ready = tt;
      selects = tt;
      between = tt;
    })

pub returns-in_err-commit : goal.returns-in_err-commit
returns-in_err-commit g c =
    let p = err_from_is_err_and c.from_residual-in_err-commit.result c.from_residual-in_err-commit.ensures.1 in
    rw (p.1, p.2) (record {
      fits = tt;
      refused = memory_first c.in_err-commit.ensures.refused;
      log = tt;
      cells = tt;
      same = c.in_err-commit.ensures.same;
      site = c.commit.ensures.site;
      limit = c.commit.ensures.limit;
      tags = c.make_room.ensures.tags;
      selection = c.make_room.ensures.selection;
      others = c.make_room.ensures.others;
      ready = tt;
      selects = tt;
      between = tt;
    })

pub returns : goal.returns
returns g c = record {
  fits = c.in_ok-commit.ensures.fits;
  refused = tt;
  log = c.in_ok-commit.ensures.log;
  cells = c.in_ok-commit.ensures.cells;
  same = tt;
  site = c.commit.ensures.site;
  limit = c.commit.ensures.limit;
  tags = c.make_room.ensures.tags;
  selection = c.make_room.ensures.selection;
  others = c.make_room.ensures.others;
  ready = c.in_ok-make_room.ensures.ready;
  selects = c.in_ok-make_room.ensures.selects;
  between = c.in_ok-make_room.ensures.between;
}
