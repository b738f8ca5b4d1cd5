use Rattle.std.proofs.Common.{[], ◌∷◌, List, arith, ap, sym, subst, ◌∙◌}
use Rattle.rt_stamps.specs.Outcomes.{Answers}
use Rattle.rt_stamps.specs.Words.{Word}
use Rattle.rt_peers.specs.ViewStep.{get_step}
use Rattle.rt_peers.proofs.Steps.{get_of_many, pair, single}
use Rattle.rt_peers.proofs.commands.reading.get.Goals as goal

pub returns-in-len1 : goal.returns-in-len1
returns-in-len1 c =
    let state = c.args.view.now in
    let one = single c.all-indices.result.now c.index-item.result c.in-len1.len_at_least c.in-len1.len_below c.index-item.is in
    subst (λ (l : List Word). Answers (get_step state l) state c.get_one.result state) (ap (λ w. w ∷ []) c.deref.ensures ∙ sym one ∙ c.all-indices.ensures) c.get_one.ensures

pub returns-in-len2 : goal.returns-in-len2
returns-in-len2 c =
    let state = c.args.view.now in
    let two = pair c.all-indices.result.now c.from-item.result c.to-item.result c.in-len2.len_at_least c.in-len2.len_below c.from-item.is c.to-item.is in
    subst (λ (l : List Word). Answers (get_step state l) state c.get_between.result state)
    ((λ i. c.deref-in-len2.ensures i ∷ c.deref-in-len2-2.ensures i ∷ []) ∙ sym two ∙ c.all-indices.ensures) c.get_between.ensures

pub returns-in-len3-up : goal.returns-in-len3-up
returns-in-len3-up c =
    let state = c.args.view.now in
    let many = get_of_many state c.all-indices.result.now (λ e. omega (arith, e, c.in-len3-up.len_at_least)) (λ e. omega (arith, e, c.in-len3-up.len_at_least)) in
    subst (λ (l : List Word). Answers (get_step state l) state c.get_list-in-len3-up.result state) c.all-indices.ensures (rw many c.get_list-in-len3-up.ensures)

pub returns-in-empty : goal.returns-in-empty
returns-in-empty c =
    let state = c.args.view.now in
    let many = get_of_many state c.all-indices.result.now (λ e. omega (arith, e, c.in-empty.len_below)) (λ e. omega (arith, e, c.in-empty.len_below)) in
    subst (λ (l : List Word). Answers (get_step state l) state c.get_list.result state) c.all-indices.ensures (rw many c.get_list.ensures)
