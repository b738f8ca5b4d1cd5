use Rattle.std.proofs.Common.{◌≡◌, ◌∙◌, [], ap, map}
use Rattle.std.proofs.lemmas.Result.{IfOk-weaker}
use Rattle.rt_stamps.specs.declared.stamp.TheConstants.{ROOT}
use Rattle.rt_stamps.specs.Words.{as_words}
use Rattle.rt_tags.specs.States.{name_at, names_on}
use Rattle.rt_tags.specs.Writers.{listed_by, state_after}
use Rattle.rt_plans.specs.Insertions.{shared_names}
use Rattle.rt_plans.proofs.lists.shared_tags.Goals as goal

pub returns-clause-ok : goal.returns-clause-ok
returns-clause-ok c =
    let table = c.tags_of_list.new.states in
    let tags = ap (map (name_at table)) c.deref.ensures.value ∙ c.in_ok-tags.ensures.ok in
    IfOk-weaker c.in_order.result (λ v. map (name_at table) v.items ≡ names_on (state_after [] (listed_by ROOT (map (name_at table) c.deref.result.now)))) (λ v. map (name_at table) v.items ≡ shared_names (as_words c.args.names.now))
    (λ v e. e ∙ ap (λ names. names_on (state_after [] (listed_by ROOT names))) tags) c.in_order.ensures.names
