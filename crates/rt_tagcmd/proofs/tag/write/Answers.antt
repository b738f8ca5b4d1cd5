use Rattle.std.proofs.Common.{◌≡◌, ◌∙◌, ◌∷◌, [], None, List, ap, map, sym}
use Rattle.std.proofs.lemmas.Result.{IfErr-weaker, err_from_is_err_and, on_ok_weaker}
use Rattle.rt_plans.specs.declared.range.Range.{Range}
use Rattle.rt_stamps.specs.Names.{name_check}
use Rattle.rt_text.specs.Commands.{clock_check, with_tag_in}
use Rattle.rt_text.specs.Index.{index_check, place_at_index}
use Rattle.rt_text.specs.Ranges.{ranges_of}
use Rattle.rt_text.specs.Widgets.{ViewValue, widget_of}
use Rattle.rt_stamps.proofs.Names.{none_found}
use Rattle.rt_stamps.specs.Words.{as_words}
use Rattle.rt_tagcmd.proofs.TagChecks.{given, passed, passed_fault, refused_first, refused_last}
use Rattle.rt_tagcmd.proofs.tag.write.Goals as goal

pub returns-in_err-ranges-clause-err : goal.returns-in_err-ranges-clause-err
returns-in_err-ranges-clause-err g c =
    let view = c.args.view.now in
    let name = c.args.name.now in
    let w = widget_of view in
    let indices = as_words c.args.indices.now in
    let after = with_tag_in view c.args.on name (ranges_of (map (place_at_index w) indices)) in
    let none = none_found _ _ (sym c.check_name.ensures.value ∙ c.in_ok-check_name.was) in
    let p = err_from_is_err_and c.from_residual-in_err-ranges.result c.from_residual-in_err-ranges.ensures.1 in
    let found = passed_fault (name_check name) (map (index_check w) indices) c.in_err-ranges.field-0.0 none c.in_err-ranges.ensures.err in
    rw p.1 (rw p.2 (refused_first (name_check name ∷ map (index_check w) indices) (clock_check after.doc.count ∷ []) after c.in_err-ranges.field-0.0 found))

pub returns-clause-ok : goal.returns-clause-ok
returns-clause-ok g c =
    let view = c.args.view.now in
    let name = c.args.name.now in
    let w = widget_of view in
    let indices = as_words c.args.indices.now in
    let written : List Range → ViewValue = with_tag_in view c.args.on name in
    let none = none_found _ _ (sym c.check_name.ensures.value ∙ c.in_ok-check_name.was) in
    let same : c.deref.result.now ≡ ranges_of (map (place_at_index w) indices) = c.deref.ensures.value ∙ c.in_ok-ranges.ensures.ok in
    let after = written (ranges_of (map (place_at_index w) indices)) in
    on_ok_weaker c.write_tag.result
    (λ h. let all : after ≡ c.write_tag.new.self = ap written (sym same) ∙ h.0 in
    given (name_check name ∷ map (index_check w) indices) (clock_check after.doc.count) after c.write_tag.new.self
    (passed (name_check name) (map (index_check w) indices) None none c.in_ok-ranges.ensures.checked)
    (ap (λ (v : ViewValue). clock_check v.doc.count) all ∙ h.1)
    all)
    c.write_tag.ensures.ok

pub returns-clause-err : goal.returns-clause-err
returns-clause-err g c =
    let view = c.args.view.now in
    let name = c.args.name.now in
    let w = widget_of view in
    let indices = as_words c.args.indices.now in
    let written : List Range → ViewValue = with_tag_in view c.args.on name in
    let none = none_found _ _ (sym c.check_name.ensures.value ∙ c.in_ok-check_name.was) in
    let same : c.deref.result.now ≡ ranges_of (map (place_at_index w) indices) = c.deref.ensures.value ∙ c.in_ok-ranges.ensures.ok in
    let after = written (ranges_of (map (place_at_index w) indices)) in
    IfErr-weaker c.write_tag.result _ _
    (λ fault h. refused_last (name_check name ∷ map (index_check w) indices) (clock_check after.doc.count) after fault
    (passed (name_check name) (map (index_check w) indices) None none c.in_ok-ranges.ensures.checked) (rw (← same) h))
    c.write_tag.ensures.err
