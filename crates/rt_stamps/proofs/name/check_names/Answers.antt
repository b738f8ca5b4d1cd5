use Rattle.std.proofs.Common.{◌≡◌, ◌∙◌, Option, Some, Err, ap, sym, string_bytes}
use Rattle.std.proofs.lemmas.Result.{err_from_is_err_and}
use Rattle.rt_stamps.specs.declared.fault.Fault.{Fault}
use Rattle.rt_stamps.specs.Outcomes.{unless}
use Rattle.rt_stamps.specs.Names.{name_check}
use Rattle.rt_stamps.proofs.Names.{checks_end, checks_more, checks_stop, none_found, some_found}
use Rattle.rt_stamps.proofs.name.check_names.Goals as goal

pub returns-in_err-check_name : goal.returns-in_err-check_name
returns-in_err-check_name c =
    let p = err_from_is_err_and c.from_residual.result c.from_residual.ensures.1 in
    let found : name_check (string_bytes c.name-item.result) ≡ Some c.in_err-check_name.field-0.0 =
    ap name_check (sym c.deref.ensures) ∙ some_found _ _ (sym c.check_name.ensures.value ∙ c.in_err-check_name.was) in
    p.1 ∙ ap (λ f. Err f) p.2 ∙ sym (ap (λ (o : Option Fault). unless o (tt {0})) (checks_stop c.args.names.now c.loop-name.name-index c.name-item.result c.in_err-check_name.field-0.0 c.loop-name-test.true c.name-item.is found c.loop-name.invariant))

pub loop-name-preserved : goal.loop-name-preserved
loop-name-preserved c =
    checks_more c.args.names.now c.loop-name.name-index c.name-item.result c.loop-name-test.true c.name-item.is
    (ap name_check (sym c.deref.ensures) ∙ none_found _ _ (sym c.check_name.ensures.value ∙ c.in_ok-check_name.was)) c.loop-name.invariant

pub returns : goal.returns
returns c = sym (ap (λ (o : Option Fault). unless o (tt {0})) (checks_end c.args.names.now c.loop-name.name-index c.loop-name-test.false c.loop-name.invariant))
