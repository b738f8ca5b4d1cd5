use Rattle.std.proofs.Common.{◌∙◌, ◌+◌, ap, arith}
use Rattle.std.specs.Prelude.{unwrap_or}
use Rattle.rt_revert.proofs.OffsetLaws.{place_small}
use Rattle.rt_revert.proofs.offsets.whole_place.Goals as goal

pub overflow_add-result : goal.overflow_add-result
overflow_add-result g c =
    let cells = g.S.TextStore.list c.args.copy.now in
    omega (arith, c.unwrap_or-place.ensures ∙ ap (λ o. unwrap_or o 0) c.place_of.ensures, place_small cells c.args.stamp, c.requires.few, c.unwrap_or-offset.ensures ∙ ap (λ o. unwrap_or o 0) c.get.ensures, c.requires.small c.args.stamp)

pub returns-clause-place : goal.returns-clause-place
returns-clause-place g c =
    λ i. (c.unwrap_or-place.ensures ∙ ap (λ o. unwrap_or o 0) c.place_of.ensures) i + (c.unwrap_or-offset.ensures ∙ ap (λ o. unwrap_or o 0) c.get.ensures) i

pub returns-clause-small : goal.returns-clause-small
returns-clause-small g c =
    let cells = g.S.TextStore.list c.args.copy.now in
    omega (arith, c.unwrap_or-place.ensures ∙ ap (λ o. unwrap_or o 0) c.place_of.ensures, place_small cells c.args.stamp, c.requires.few, c.unwrap_or-offset.ensures ∙ ap (λ o. unwrap_or o 0) c.get.ensures, c.requires.small c.args.stamp)
