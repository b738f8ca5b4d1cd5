use Rattle.std.proofs.Common.{◌∙◌, Some, ap, filter, sym}
use Rattle.std.specs.Prelude.{option_map}
use Rattle.std.proofs.lemmas.Result.{IfOk-weaker}
use Rattle.rt_stamps.specs.Words.{as_words}
use Rattle.rt_tags.specs.States.{is_on, state_at}
use Rattle.rt_store.specs.Shown.{shown}
use Rattle.rt_plans.specs.Insertions.{on_left, tags_between}
use Rattle.rt_plans.proofs.RestLaws.{between_last, no_last}
use Rattle.rt_plans.proofs.pieces.PlannedPieces.names_between.Goals as goal

pub returns-in-Some-last-clause-ok : goal.returns-in-Some-last-clause-ok
returns-in-Some-last-clause-ok c =
    let t = c.args.states.now in
    let left = option_map (shown t) c.args.left in
    let right = c.in-Some.right in
    IfOk-weaker c.names_also.result _ _
    (λ v e cells h. e
    ∙ ap (λ l. filter (λ name. is_on name (state_at t right.state)) (as_words l)) c.deref.ensures.value
    ∙ between_last cells left (shown t right) (as_words c.in-Some-last.names.items)
    (sym (ap (option_map (λ names. as_words names.items)) c.in-Some-last.is) ∙ h)
    ∙ ap (λ o. tags_between (on_left left cells) (option_map (shown t) o)) (sym c.in-Some.is))
    c.names_also.ensures.ok

pub returns-in-None-clause-ok : goal.returns-in-None-clause-ok
returns-in-None-clause-ok c =
    let t = c.args.states.now in
    let left = option_map (shown t) c.args.left in
    let right = c.in-Some.right in
    IfOk-weaker c.names_of_both.result _ _
    (λ v e cells h. e
    ∙ ap (λ o. tags_between o (Some (shown t right))) (no_last cells left
    (sym (ap (option_map (λ names. as_words names.items)) c.in-None.is) ∙ h))
    ∙ ap (λ o. tags_between (on_left left cells) (option_map (shown t) o)) (sym c.in-Some.is))
    c.names_of_both.ensures.ok
