use Rattle.std.proofs.Common.{◌≡◌, ◌∙◌, ◌<◌, ◌≤◌, true, All, ap, arith, length, string_bytes, subst, sym}
use Rattle.std.proofs.lemmas.List.{take_all}
use Rattle.std.proofs.lemmas.Result.{err_from_is_err_and}
use Rattle.rt_stamps.specs.Words.{as_words}
use Rattle.rt_tags.specs.Tags.{IsName, is_ready}
use Rattle.rt_tags.proofs.Places.{name_itself}
use Rattle.rt_plans.proofs.PlanLaws.{named_at}
use Rattle.rt_text.proofs.ReadyLaws.{for_memory, named_here, no_answer, only_given, only_left, ready_more, still_ready, sure}
use Rattle.rt_text.proofs.preparing.prepare_tags.Goals as goal

pub returns-in_err-prepare : goal.returns-in_err-prepare
returns-in_err-prepare c =
    let within : c.loop-name.name-index < length c.args.names.now = omega arith in
    let p = err_from_is_err_and c.from_residual.result c.from_residual.ensures.1 in
    rw (p.1, p.2) (record {
      names = c.prepare.ensures.names ∙ c.loop-name.invariant.names;
      ready = tt;
      kept = λ q h. ap (is_ready q) c.in_err-prepare.ensures.err ∙ c.loop-name.invariant.kept q h;
      only = only_left (as_words c.args.names.now) c.args.table.now c.loop-name.table c.prepare.new.self c.in_err-prepare.ensures.err c.loop-name.invariant.only;
      memory = λ all.
          let name = c.deref.result.now in
          let named : IsName name = named_here IsName (λ w. string_bytes w) c.args.names.now c.loop-name.name-index c.name-item.result name within c.name-item.is c.deref.ensures c.requires in
          let was : is_ready name c.args.table.now ≡ true = named_here (λ n. is_ready n c.args.table.now ≡ true) (λ w. string_bytes w) c.args.names.now c.loop-name.name-index c.name-item.result name within c.name-item.is c.deref.ensures all in
          absurd (no_answer c.prepare.result c.in_err-prepare.field-0.0 c.in_err-prepare.was
          (sure name c.loop-name.table c.prepare.result c.prepare.ensures.fault c.prepare.ensures.bad_name c.prepare.ensures.memory named (c.loop-name.invariant.kept name was)));
      err = for_memory c.deref.result.now c.prepare.result c.in_err-prepare.field-0.0 c.in_err-prepare.was c.in_err-prepare.ensures.fault c.prepare.ensures.bad_name
          (named_here IsName (λ w. string_bytes w) c.args.names.now c.loop-name.name-index c.name-item.result c.deref.result.now within c.name-item.is c.deref.ensures c.requires);
    })

pub loop-name-preserved : goal.loop-name-preserved
loop-name-preserved c =
    let within : c.loop-name.name-index < length c.args.names.now = omega arith in
    record {
      names = c.prepare.ensures.names ∙ c.loop-name.invariant.names;
      ready = ready_more (λ w. string_bytes w) c.args.names.now c.loop-name.name-index c.name-item.result c.deref.result.now c.loop-name.table c.prepare.new.self within c.name-item.is c.deref.ensures c.in_ok-prepare.ensures.ready c.loop-name.invariant.ready;
      kept = λ q h. still_ready q c.deref.result.now c.loop-name.table c.prepare.new.self c.in_ok-prepare.ensures.ready (c.loop-name.invariant.kept q h);
      only = only_given (as_words c.args.names.now) c.deref.result.now c.args.table.now c.loop-name.table c.prepare.new.self
          (named_at (λ w. string_bytes w) c.deref.result.now c.args.names.now c.loop-name.name-index c.name-item.result within c.name-item.is (sym c.deref.ensures) (name_itself c.deref.result.now))
          c.in_ok-prepare.ensures.ready c.loop-name.invariant.only;
    }

pub returns-clause-ready : goal.returns-clause-ready
returns-clause-ready c =
    let past : length c.args.names.now ≤ c.loop-name.name-index = omega arith in
    subst (All (λ w. is_ready (string_bytes w) c.loop-name.table ≡ true)) (take_all c.loop-name.name-index c.args.names.now past) c.loop-name.invariant.ready
