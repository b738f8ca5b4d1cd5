use Rattle.std.proofs.Common.{◌∙◌, ◌++◌, ◌∷◌, [], All, ap, map, subst, sym}
use Rattle.std.proofs.lemmas.List.{map-append}
use Rattle.rt_tags.specs.States.{IsTag, name_at}
use Rattle.rt_plans.proofs.Planning.{kept_one, names_kept, one_given, passed_over}
use Rattle.rt_plans.proofs.lists.push_tag.Goals as goal

pub returns-then-eq-clause-ok : goal.returns-then-eq-clause-ok
returns-then-eq-clause-ok c = passed_over (map (name_at c.args.states.now) c.args.tags.now.items) c.args.name.now (sym c.eq.ensures ∙ c.if-eq.true)

pub returns-clause-ok : goal.returns-clause-ok
returns-clause-ok c =
    let old = c.args.states.now in
    let new = c.number.new.self in
    let tags = c.args.tags.now.items in
    ap (map (name_at new)) c.in_ok-push.ensures.items
    ∙ map-append (name_at new) tags (c.in_ok-tag.tag ∷ [])
    ∙ (λ j. names_kept old new tags c.number.ensures.ids c.requires j ++ c.in_ok-tag.ensures.tag j ∷ [])
    ∙ kept_one (map (name_at old) tags) c.args.name.now (sym c.eq.ensures ∙ c.if-eq.false)

pub returns-clause-given : goal.returns-clause-given
returns-clause-given c =
    let new = c.number.new.self in
    subst (All (IsTag new)) (sym c.in_ok-push.ensures.items) (one_given c.args.states.now new c.args.tags.now.items c.in_ok-tag.tag c.number.ensures.ids c.requires c.in_ok-tag.ensures.given)
