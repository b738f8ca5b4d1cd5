use Rattle.std.proofs.Common.{◌≡◌, ◌<◌, ◌∙◌, List, All, ap, subst, sym, refl}
use Rattle.rt_plans.specs.declared.range.Range.{Range}
use Rattle.rt_plans.specs.Removals.{is_covered}
use Rattle.rt_plans.proofs.MergingLaws.{before, before_done, before_covers, before_all}
use Rattle.std.proofs.lemmas.Result.{err_from_is_err_and}
use Rattle.rt_plans.proofs.removal.ranges_before.Goals as goal

pub returns-clause-covered : goal.returns-clause-covered
returns-clause-covered c =
    let all : c.loop-range.before.items ≡ before c.args.end c.args.ranges.now =
    before_done c.args.end c.args.ranges.now c.loop-range.before.items c.loop-range.range-index c.loop-range-test.false c.loop-range.invariant in
    λ place. ap (λ ranges. is_covered ranges place) all ∙ before_covers c.args.end c.args.ranges.now place

pub returns-clause-some : goal.returns-clause-some
returns-clause-some c =
    let all : c.loop-range.before.items ≡ before c.args.end c.args.ranges.now =
    before_done c.args.end c.args.ranges.now c.loop-range.before.items c.loop-range.range-index c.loop-range-test.false c.loop-range.invariant in
    let P : List Range → Type 0 = λ ranges. All (λ range. range.from < range.to) ranges in
    subst P (sym all) (before_all c.args.end c.args.ranges.now)

pub returns-in_err-push : goal.returns-in_err-push
returns-in_err-push c =
    let (y, is, gives) = err_from_is_err_and c.from_residual.result c.from_residual.ensures.1 in
    rw (is, gives) (record { covered = tt; some = tt; err = refl })
