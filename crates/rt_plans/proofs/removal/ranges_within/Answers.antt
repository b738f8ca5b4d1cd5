use Rattle.std.proofs.Common.{◌≡◌, ◌∙◌, ◌&&◌, ap, length, sym}
use Rattle.std.specs.Prelude.{nat_lt}
use Rattle.std.proofs.lemmas.Bool.{and_parts}
use Rattle.std.proofs.lemmas.Result.{IfOk-weaker}
use Rattle.rt_store.specs.Cells.{visible_of}
use Rattle.rt_plans.specs.Removals.{is_covered}
use Rattle.rt_plans.proofs.WithinLaws.{apart_in_order, all_within, both_if_ok, less_from}
use Rattle.rt_plans.proofs.removal.ranges_within.Goals as goal

pub returns-clause-order : goal.returns-clause-order
returns-clause-order g c = IfOk-weaker c.merged.result _ _ (λ within h. apart_in_order 0 within.items h) c.merged.ensures.apart

pub returns-clause-places : goal.returns-clause-places
returns-clause-places g c =
    IfOk-weaker c.merged.result _ _
    (λ within h place. h place ∙ ap (λ ranges. is_covered ranges place) c.deref.ensures.value ∙ c.in_ok-sorted.ensures.covered place ∙ ap (λ n. nat_lt place n && is_covered c.args.ranges.now place) c.visible.ensures)
    c.merged.ensures.covered

pub returns-clause-within : goal.returns-clause-within
returns-clause-within g c =
    let n = length (visible_of (g.S.TextStore.list c.args.store.now)) in
    both_if_ok c.merged.result _ _ _
    (λ within covered apart.
    all_within n 0 within.items (apart_in_order 0 within.items apart)
    (λ place e.
    let all : is_covered within.items place ≡ (nat_lt place n && is_covered c.args.ranges.now place) =
    covered place ∙ ap (λ ranges. is_covered ranges place) c.deref.ensures.value ∙ c.in_ok-sorted.ensures.covered place ∙ ap (λ n. nat_lt place n && is_covered c.args.ranges.now place) c.visible.ensures in
    less_from place n (and_parts (nat_lt place n) (is_covered c.args.ranges.now place) (sym all ∙ e)).0))
    c.merged.ensures.covered c.merged.ensures.apart
