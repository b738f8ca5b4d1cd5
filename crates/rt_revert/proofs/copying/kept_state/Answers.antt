use Rattle.std.proofs.Common.{◌∙◌, ap}
use Rattle.std.proofs.lemmas.Result.{IfOk-weaker}
use Rattle.rt_stamps.specs.Words.{as_words}
use Rattle.rt_tags.specs.States.{names_on, state_at}
use Rattle.rt_revert.proofs.Copied.{same_names}
use Rattle.rt_revert.proofs.copying.kept_state.Goals as goal

pub returns-clause-names : goal.returns-clause-names
returns-clause-names c =
    let words = as_words c.deref.result.now in
    IfOk-weaker c.state_of_list.result _ _
    (λ id e. ap names_on e ∙ same_names (state_at c.args.states.now c.args.state) words (c.order.ensures.by_name c.args.state c.requires)
    (ap as_words c.deref.ensures.value ∙ c.in_ok-names.ensures.ok))
    c.state_of_list.ensures.state
