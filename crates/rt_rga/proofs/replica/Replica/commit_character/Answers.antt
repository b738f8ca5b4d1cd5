use Rattle.std.proofs.Common.{◌≡◌, ◌∙◌, inl, inr, refl, subst, sym}
use Rattle.std.proofs.lemmas.Result.{IfErr-weaker, on_err_weaker, on_ok_weaker}
use Rattle.rt_stamps.specs.declared.fault.Fault.TheVariants.{NoMemory}
use Rattle.rt_tags.proofs.Keeping.{keeps_itself}
use Rattle.rt_tags.specs.States.{KeepsIds, TagStates}
use Rattle.rt_rga.specs.Kept.{ReplicaValue}
use Rattle.rt_rga.proofs.Typing.{one_continues}
use Rattle.rt_rga.proofs.replica.Replica.commit_character.Goals as goal

pub make_character-requires-clause-continues : goal.make_character-requires-clause-continues
make_character-requires-clause-continues g c =
    one_continues c.args.self.now.site c.args.self.now.limit c.args.after c.args.character c.args.self.now.log c.in-Ok.ensures.positive c.requires (c.in-Ok.ensures.fits c.args.after c.args.character)

pub returns-in-Err : goal.returns-in-Err
returns-in-Err g c = record {
  makes = record {
    fits = tt;
    refused = inl (c.in-Err.ensures.refused c.args.after c.args.character);
    log = tt;
    cells = tt;
    same = refl;
    kept = λ no. refl;
    site = refl;
    limit = refl;
    ids = keeps_itself c.args.self.now.table;
  };
  table = refl;
}

pub returns-in-Ok-clause-makes : goal.returns-in-Ok-clause-makes
returns-in-Ok-clause-makes g c =
    let old : ReplicaValue = c.args.self.now in
    let fits = c.in-Ok.ensures.fits c.args.after c.args.character in
    record {
      fits = on_ok_weaker c.make_character.result (λ log. fits) c.make_character.ensures.log;
      refused = IfErr-weaker c.make_character.result (λ fault. fault ≡ NoMemory) _ (λ fault e. inr (e, fits)) c.make_character.ensures.fault;
      log = c.make_character.ensures.log;
      cells = c.make_character.ensures.cells;
      same = on_err_weaker c.make_character.result (λ same. same ∙ (λ i. record old { table = sym c.make_character.ensures.table i })) c.make_character.ensures.same;
      kept = λ no. absurd (no fits);
      site = c.make_character.ensures.site;
      limit = c.make_character.ensures.limit;
      ids = subst (λ (table : TagStates). KeepsIds old.table table) (sym c.make_character.ensures.table) (keeps_itself old.table);
    }
