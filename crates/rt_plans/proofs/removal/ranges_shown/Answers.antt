use Rattle.std.proofs.Common.{◌≡◌, ℕ, ◌∙◌, ◌&&◌, ◌+◌, ◌-◌, ◌≤◌, ◌^◌, All, ap, arith, map, subst, sym}
use Rattle.std.specs.Prelude.{nat_lt}
use Rattle.std.proofs.lemmas.Bool.{and_parts}
use Rattle.rt_plans.specs.declared.range.Range.{Range}
use Rattle.rt_plans.specs.Deletions.{places_from}
use Rattle.rt_plans.specs.Merging.{range_from}
use Rattle.rt_plans.specs.Removals.{RangesFollow, is_covered}
use Rattle.rt_plans.proofs.StampLaws.{order_weaker}
use Rattle.rt_plans.proofs.StretchLaws.{moved_covered, moved_fit, moved_in_order, moved_up_to}
use Rattle.rt_plans.proofs.WithinLaws.{all_within, apart_in_order, less_from}
use Rattle.rt_plans.proofs.removal.ranges_shown.Goals as goal

pub moved_on-requires : goal.moved_on-requires
moved_on-requires c =
    let stretch = c.args.stretch in
    let n = stretch.end - stretch.begin in
    let merged = c.in_ok-merged.merged.items in
    let order : RangesFollow 0 merged = apart_in_order 0 merged c.in_ok-merged.ensures.apart in
    let covered : (place : ℕ) → is_covered merged place ≡ (nat_lt place n && is_covered c.args.ranges.now place) =
    λ place. c.in_ok-merged.ensures.covered place ∙ ap (λ ranges. is_covered ranges place) c.deref.ensures.value ∙ c.in_ok-sorted.ensures.covered place in
    let within : All (λ (range : Range). range.to ≤ n) merged =
    all_within n 0 merged order (λ place e. less_from place n (and_parts (nat_lt place n) (is_covered c.args.ranges.now place) (sym (covered place) ∙ e)).0) in
    moved_fit stretch.begin n (2 ^ 64 - 1) 0 merged (omega (arith, c.requires)) order within

pub returns-clause-order : goal.returns-clause-order
returns-clause-order c =
    let begin = c.args.stretch.begin in
    let merged = c.in_ok-merged.merged.items in
    subst (RangesFollow 0) (sym c.moved_on.ensures)
    (order_weaker (begin + 0) 0 (map (range_from begin) merged) (omega arith) (moved_in_order begin 0 merged (apart_in_order 0 merged c.in_ok-merged.ensures.apart)))

pub returns-clause-within : goal.returns-clause-within
returns-clause-within c =
    let stretch = c.args.stretch in
    let n = stretch.end - stretch.begin in
    let merged = c.in_ok-merged.merged.items in
    let order : RangesFollow 0 merged = apart_in_order 0 merged c.in_ok-merged.ensures.apart in
    let covered : (place : ℕ) → is_covered merged place ≡ (nat_lt place n && is_covered c.args.ranges.now place) =
    λ place. c.in_ok-merged.ensures.covered place ∙ ap (λ ranges. is_covered ranges place) c.deref.ensures.value ∙ c.in_ok-sorted.ensures.covered place in
    let within : All (λ (range : Range). range.to ≤ n) merged =
    all_within n 0 merged order (λ place e. less_from place n (and_parts (nat_lt place n) (is_covered c.args.ranges.now place) (sym (covered place) ∙ e)).0) in
    subst (All (λ (range : Range). range.to ≤ stretch.end)) (sym c.moved_on.ensures) (moved_up_to stretch.begin n stretch.end merged (omega (arith, c.requires)) within)

pub returns-clause-places : goal.returns-clause-places
returns-clause-places c =
    let stretch = c.args.stretch in
    let n = stretch.end - stretch.begin in
    let merged = c.in_ok-merged.merged.items in
    λ place. ap (λ rs. is_covered rs place) c.moved_on.ensures ∙ moved_covered stretch.begin place merged
    ∙ ap (λ test. places_from stretch.begin test place) (λ i p. (c.in_ok-merged.ensures.covered p ∙ ap (λ ranges. is_covered ranges p) c.deref.ensures.value ∙ c.in_ok-sorted.ensures.covered p) i)
