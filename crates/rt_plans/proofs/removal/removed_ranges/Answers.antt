use Rattle.std.proofs.Common.{◌≡◌, ◌∙◌, ◌&&◌, ◌+◌, ◌-◌, ◌<◌, ◌^◌, All, ap, arith, sym, length, map, subst}
use Rattle.std.specs.Prelude.{nat_lt}
use Rattle.rt_store.specs.Cells.{text_of}
use Rattle.rt_lines.specs.Stretches.{part}
use Rattle.rt_lines.proofs.Parts.{part_length}
use Rattle.rt_plans.specs.declared.range.Range.{Range}
use Rattle.rt_plans.specs.Deletions.{places_from}
use Rattle.rt_plans.specs.Merging.{range_from}
use Rattle.rt_plans.specs.Removals.{RangesFollow, is_covered}
use Rattle.rt_plans.proofs.SparingLaws.{removed_same}
use Rattle.rt_plans.proofs.StampLaws.{order_weaker}
use Rattle.rt_plans.proofs.StretchLaws.{all_weaker, moved_before, moved_covered, moved_fit, moved_in_order}
use Rattle.rt_plans.proofs.removal.removed_ranges.Goals as goal

pub returns-clause-places : goal.returns-clause-places
returns-clause-places g c =
    let text = text_of (g.S.TextStore.list c.args.store.now) in
    let stretch = c.args.stretch in
    let begin = stretch.begin in
    let shown = part stretch text in
    let end : stretch.end - stretch.begin ≡ length shown = sym (part_length stretch text c.requires.1) in
    λ place. ap (λ rs. is_covered rs place) c.moved_on.ensures ∙ moved_covered begin place c.sparing.result.items
    ∙ ap (λ test. places_from begin test place) (λ i p. (c.sparing.ensures.places p
    ∙ removed_same shown c.in_ok-merged.merged.items c.args.ranges.now
    (λ p. c.in_ok-merged.ensures.covered p ∙ ap (λ ranges. is_covered ranges p) c.deref.ensures.value ∙ c.in_ok-sorted.ensures.covered p
    ∙ ap (λ n. nat_lt p n && is_covered c.args.ranges.now p) end) p) i)

pub returns-clause-ok : goal.returns-clause-ok
returns-clause-ok g c =
    let begin = c.args.stretch.begin in
    subst (RangesFollow 0) (sym c.moved_on.ensures)
    (order_weaker (begin + 0) 0 (map (range_from begin) c.sparing.result.items) (omega arith) (moved_in_order begin 0 c.sparing.result.items c.sparing.ensures.order))

pub moved_on-requires : goal.moved_on-requires
moved_on-requires g c =
    let text = text_of (g.S.TextStore.list c.args.store.now) in
    let stretch = c.args.stretch in
    let n = stretch.end - stretch.begin in
    let size : length (part stretch text) ≡ n = part_length stretch text c.requires.1 in
    moved_fit stretch.begin n (2 ^ 64 - 1) 0 c.sparing.result.items (omega (arith, c.requires.0)) c.sparing.ensures.order
    (all_weaker n c.sparing.result.items (subst (λ n. All (λ (range : Range). range.to < n) c.sparing.result.items) size c.sparing.ensures.within))

pub returns-clause-within : goal.returns-clause-within
returns-clause-within g c =
    let text = text_of (g.S.TextStore.list c.args.store.now) in
    let stretch = c.args.stretch in
    let n = stretch.end - stretch.begin in
    let size : length (part stretch text) ≡ n = part_length stretch text c.requires.1 in
    subst (All (λ (range : Range). range.to < stretch.end)) (sym c.moved_on.ensures)
    (moved_before stretch.begin n stretch.end c.sparing.result.items (omega (arith, c.requires.0))
    (subst (λ n. All (λ (range : Range). range.to < n) c.sparing.result.items) size c.sparing.ensures.within))
