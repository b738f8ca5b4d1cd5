use Rattle.std.proofs.Common.{◌∙◌, List, ap, inr, refl}
use Rattle.std.proofs.lemmas.Result.{err_from_is_err_and}
use Rattle.rt_ops.specs.Operations.{Operation}
use Rattle.rt_rga.specs.Drafts.{with_operations}
use Rattle.rt_tags.proofs.Keeping.{keeps_itself}
use Rattle.rt_rga.proofs.replica.Replica.make.Goals as goal

pub returns-in_err-ops : goal.returns-in_err-ops
returns-in_err-ops g c =
    let (y, is, gives) = err_from_is_err_and c.from_residual.result c.from_residual.ensures.1 in
    rw (is, gives) (record {
      made = tt;
      makes = record {
        fits = tt;
        refused = c.in_err-ops.ensures.refused;
        log = tt;
        cells = tt;
        same = refl;
        kept = λ no. refl;
        site = refl;
        limit = refl;
        ids = keeps_itself c.args.self.now.table;
      };
    })

pub returns-in_err-copies : goal.returns-in_err-copies
returns-in_err-copies g c =
    let (y, is, gives) = err_from_is_err_and c.from_residual-in_err-copies.result c.from_residual-in_err-copies.ensures.1 in
    rw (is, gives) (record {
      made = tt;
      makes = record {
        fits = tt;
        refused = inr (c.in_err-copies.ensures.fault, c.in_ok-ops.ensures.fits);
        log = tt;
        cells = tt;
        same = refl;
        kept = λ no. refl;
        site = refl;
        limit = refl;
        ids = keeps_itself c.args.self.now.table;
      };
    })

pub returns-in_err-make_all : goal.returns-in_err-make_all
returns-in_err-make_all g c =
    let (y, is, gives) = err_from_is_err_and c.from_residual-in_err-make_all.result c.from_residual-in_err-make_all.ensures.1 in
    rw (is, gives) (record {
      made = tt;
      makes = record {
        fits = tt;
        refused = inr (c.in_err-make_all.ensures.fault, c.in_ok-ops.ensures.fits);
        log = tt;
        cells = tt;
        same = c.in_err-make_all.ensures.same;
        kept = λ no. absurd (no c.in_ok-ops.ensures.fits);
        site = c.make_all.ensures.site;
        limit = c.make_all.ensures.limit;
        ids = c.make_all.ensures.ids;
      };
    })

pub returns : goal.returns
returns g c = record {
  made = c.in_ok-copies.ensures.ops ∙ c.list_of.ensures ∙ c.in_ok-ops.ensures.made;
  makes = record {
    fits = c.in_ok-ops.ensures.fits;
    refused = tt;
    log = c.in_ok-make_all.ensures.log ∙ ap (λ (ops : List Operation). with_operations ops c.args.self.now.log) c.in_ok-ops.ensures.made;
    cells = c.in_ok-make_all.ensures.cells;
    same = tt;
    kept = λ no. absurd (no c.in_ok-ops.ensures.fits);
    site = c.make_all.ensures.site;
    limit = c.make_all.ensures.limit;
    ids = c.make_all.ensures.ids;
  };
}
