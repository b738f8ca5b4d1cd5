use Rattle.std.proofs.Common.{◌≡◌, ◌∙◌, ap, subst, sym, arith, refl}
use Rattle.rt_plans.specs.Merging.{AreSpaced}
use Rattle.rt_plans.specs.Removals.{is_covered}
use Rattle.rt_plans.proofs.MergingLaws.{merged_from, merged_done, merged_covers, merged_stand_apart}
use Rattle.std.proofs.lemmas.Result.{err_from_is_err_and}
use Rattle.rt_plans.proofs.removal.merged_after.Goals as goal

pub returns-clause-covered : goal.returns-clause-covered
returns-clause-covered c =
    let all : c.push-2.new.self.items ≡ merged_from c.args.first c.args.rest.now =
    c.in_ok-push-2.ensures.items ∙ merged_done c.loop-range.current c.args.rest.now c.loop-range.merged.items (merged_from c.args.first c.args.rest.now) c.loop-range.range-index c.loop-range-test.false c.loop-range.invariant in
    λ place. ap (λ ranges. is_covered ranges place) all ∙ merged_covers c.args.first c.args.rest.now place c.requires.rising

pub returns-clause-apart : goal.returns-clause-apart
returns-clause-apart c =
    let all : c.push-2.new.self.items ≡ merged_from c.args.first c.args.rest.now =
    c.in_ok-push-2.ensures.items ∙ merged_done c.loop-range.current c.args.rest.now c.loop-range.merged.items (merged_from c.args.first c.args.rest.now) c.loop-range.range-index c.loop-range-test.false c.loop-range.invariant in
    subst (AreSpaced 0) (sym all) (merged_stand_apart 0 c.args.first c.args.rest.now (omega arith) c.requires.some c.requires.rising)

pub returns-in_err-push : goal.returns-in_err-push
returns-in_err-push c =
    let (y, is, gives) = err_from_is_err_and c.from_residual.result c.from_residual.ensures.1 in
    rw (is, gives) (record { covered = tt; apart = tt; err = refl })

pub returns-in_err-push-2 : goal.returns-in_err-push-2
returns-in_err-push-2 c =
    let (y, is, gives) = err_from_is_err_and c.from_residual-in_err-push-2.result c.from_residual-in_err-push-2.ensures.1 in
    rw (is, gives) (record { covered = tt; apart = tt; err = refl })
