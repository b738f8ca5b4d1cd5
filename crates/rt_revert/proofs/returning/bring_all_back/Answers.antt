use Rattle.std.proofs.Common.{◌≡◌, ◌∙◌, ◌+◌, ◌++◌, drop, map, subst, ℕ}
use Rattle.std.proofs.lemmas.Result.{err_from_is_err_and}
use Rattle.std.specs.List.{AllByRecursion}
use Rattle.rt_plans.proofs.PlanLaws.{spent}
use Rattle.rt_tags.specs.States.{IsState}
use Rattle.rt_undo.specs.Actions.{Removed, removed_in, removed_of}
use Rattle.rt_revert.specs.Plans.{named_removed}
use Rattle.rt_revert.specs.Reverting.{with_returns}
use Rattle.rt_revert.specs.ReversionLaws.{MayReturn}
use Rattle.rt_revert.proofs.Had.{part_had}
use Rattle.rt_revert.proofs.Reaching.{every_parts, named_left, reach_early, reach_step, spans_left}
use Rattle.rt_revert.proofs.returning.bring_all_back.Goals as goal

pub bring_span_back-requires-clause-given : goal.bring_span_back-requires-clause-given
bring_span_back-requires-clause-given g c =
    let P : Removed ℕ → Type 0 = λ r. IsState c.args.kept.now r.tags in
    let rest = removed_in (drop (c.loop-part.part-index + 1) c.args.removed.now) in
    (every_parts P (removed_of c.part-item.result) rest
    (subst (AllByRecursion P) (spans_left c.args.removed.now c.loop-part.part-index c.part-item.result c.loop-part-test.true c.part-item.is) c.loop-part.invariant.given)).0

pub bring_span_back-requires-clause-may : goal.bring_span_back-requires-clause-may
bring_span_back-requires-clause-may g c =
    let table = c.args.kept.now in
    let rest = map (named_removed table) (removed_in (drop (c.loop-part.part-index + 1) c.args.removed.now)) in
    (every_parts MayReturn (map (named_removed table) (removed_of c.part-item.result)) rest
    (subst (AllByRecursion MayReturn) (named_left table c.args.removed.now c.loop-part.part-index c.part-item.result c.loop-part-test.true c.part-item.is) c.loop-part.invariant.may)).0

pub returns-in_err-bring_span_back-clause-err : goal.returns-in_err-bring_span_back-clause-err
returns-in_err-bring_span_back-clause-err g c =
    let p = err_from_is_err_and c.from_residual.result c.from_residual.ensures.1 in
    let table = c.args.kept.now in
    let i = c.loop-part.part-index in
    let removed = c.args.removed.now in
    rw (p.1, p.2) (spent
    (λ k part r had s. reach_early table c.args.site.number (g.S.TextStore.list c.loop-part.copy) c.loop-part.plan part (map (named_removed table) (removed_in (drop i removed)))
    (map (named_removed table) (removed_of c.part-item.result)) (map (named_removed table) (removed_in (drop (i + 1) removed))) (with_returns (map (named_removed table) (removed_in removed)) r)
    (named_left table removed i c.part-item.result c.loop-part-test.true c.part-item.is) (c.loop-part.invariant.so_far part r had s) (λ q. k part q (part_had part removed i c.part-item.result c.loop-part-test.true c.part-item.is had)))
    c.in_err-bring_span_back.ensures.err)

pub loop-part-preserved : goal.loop-part-preserved
loop-part-preserved g c =
    let table = c.args.kept.now in
    let i = c.loop-part.part-index in
    let removed = c.args.removed.now in
    let P : Removed ℕ → Type 0 = λ r. IsState table r.tags in
    let here = map (named_removed table) (removed_of c.part-item.result) in
    let rest = map (named_removed table) (removed_in (drop (i + 1) removed)) in
    let step : map (named_removed table) (removed_in (drop i removed)) ≡ here ++ rest = named_left table removed i c.part-item.result c.loop-part-test.true c.part-item.is in
    record {
      copy = c.in_ok-bring_span_back.ensures.copy;
      agrees = c.in_ok-bring_span_back.ensures.agrees;
      going = c.in_ok-bring_span_back.ensures.going;
      actions = c.in_ok-bring_span_back.ensures.actions ∙ c.loop-part.invariant.actions;
      given = (every_parts P (removed_of c.part-item.result) (removed_in (drop (i + 1) removed))
          (subst (AllByRecursion P) (spans_left removed i c.part-item.result c.loop-part-test.true c.part-item.is) c.loop-part.invariant.given)).1;
      may = (every_parts MayReturn here rest (subst (AllByRecursion MayReturn) step c.loop-part.invariant.may)).1;
      so_far = λ part r had s. reach_step table c.args.site.number (g.S.TextStore.list c.loop-part.copy) c.loop-part.plan part (map (named_removed table) (removed_in (drop i removed)))
          here rest (with_returns (map (named_removed table) (removed_in removed)) r)
          (g.S.TextStore.list c.bring_span_back.new.copy) c.bring_span_back.new.plan step (c.loop-part.invariant.so_far part r had s)
          (λ q. c.in_ok-bring_span_back.ensures.so_far part q (part_had part removed i c.part-item.result c.loop-part-test.true c.part-item.is had));
    }
