use Rattle.std.proofs.Common.{◌∙◌, ◌∷◌, [], inr, Some, ap, map, sym}
use Rattle.std.proofs.lemmas.Result.{IfErr-weaker, err_from_is_err_and, on_ok_weaker}
use Rattle.rt_stamps.specs.Names.{name_check}
use Rattle.rt_text.specs.Commands.{clock_check, with_tags_deleted}
use Rattle.rt_text.specs.Widgets.{ViewValue}
use Rattle.rt_stamps.proofs.Names.{none_found, some_found}
use Rattle.rt_stamps.specs.Words.{as_words}
use Rattle.rt_tagcmd.proofs.TagChecks.{given, refused_first, refused_last}
use Rattle.rt_tagcmd.proofs.tag.tag_delete.Goals as goal

pub returns-in_err-check_names-clause-err : goal.returns-in_err-check_names-clause-err
returns-in_err-check_names-clause-err g c =
    let names = as_words c.args.names.now in
    let after = with_tags_deleted c.args.view.now names in
    let p = err_from_is_err_and c.from_residual.result c.from_residual.ensures.1 in
    let found = some_found _ _ (sym c.check_names.ensures ∙ c.in_err-check_names.was) in
    rw p.1 (refused_first (map name_check names) (clock_check after.doc.count ∷ []) after p.0 (inr (found ∙ ap (λ f. Some f) (sym p.2))))

pub returns-clause-ok : goal.returns-clause-ok
returns-clause-ok g c =
    let names = as_words c.args.names.now in
    let after = with_tags_deleted c.args.view.now names in
    let none = none_found _ _ (sym c.check_names.ensures ∙ c.in_ok-check_names.was) in
    on_ok_weaker c.delete_tags.result
    (λ h. given (map name_check names) (clock_check after.doc.count) after c.delete_tags.new.self none (ap (λ (v : ViewValue). clock_check v.doc.count) (sym h.0) ∙ h.1) (sym h.0))
    c.delete_tags.ensures.ok

pub returns-clause-err : goal.returns-clause-err
returns-clause-err g c =
    let names = as_words c.args.names.now in
    let after = with_tags_deleted c.args.view.now names in
    let none = none_found _ _ (sym c.check_names.ensures ∙ c.in_ok-check_names.was) in
    IfErr-weaker c.delete_tags.result _ _
    (λ fault h. refused_last (map name_check names) (clock_check after.doc.count) after fault none h)
    c.delete_tags.ensures.err
