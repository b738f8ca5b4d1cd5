use Rattle.std.proofs.Common.{◌≡◌, ◌∙◌, List, ap, inr, refl}
use Rattle.std.proofs.lemmas.Result.{IfErr-weaker, on_ok_weaker}
use Rattle.rt_stamps.specs.declared.fault.Fault.TheVariants.{NoMemory}
use Rattle.rt_ops.specs.Operations.{Operation}
use Rattle.rt_rga.specs.Drafts.{with_operations}
use Rattle.rt_tags.proofs.Keeping.{keeps_itself}
use Rattle.rt_rga.proofs.replica.Replica.commit_one_or_many.Goals as goal

pub returns-in-Err : goal.returns-in-Err
returns-in-Err g c = record {
  fits = tt;
  refused = c.in-Err.ensures.refused;
  log = tt;
  cells = tt;
  same = refl;
  kept = λ no. refl;
  site = refl;
  limit = refl;
  ids = keeps_itself c.args.self.now.table;
}

pub returns-in-Ok : goal.returns-in-Ok
returns-in-Ok g c = record {
  fits = on_ok_weaker c.make_all.result (λ log. c.in-Ok.ensures.fits) c.make_all.ensures.log;
  refused = IfErr-weaker c.make_all.result (λ fault. fault ≡ NoMemory) _ (λ fault e. inr (e, c.in-Ok.ensures.fits)) c.make_all.ensures.fault;
  log = on_ok_weaker c.make_all.result (λ log. log ∙ ap (λ (ops : List Operation). with_operations ops c.args.self.now.log) c.in-Ok.ensures.made) c.make_all.ensures.log;
  cells = c.make_all.ensures.cells;
  same = c.make_all.ensures.same;
  kept = λ no. absurd (no c.in-Ok.ensures.fits);
  site = c.make_all.ensures.site;
  limit = c.make_all.ensures.limit;
  ids = c.make_all.ensures.ids;
}
