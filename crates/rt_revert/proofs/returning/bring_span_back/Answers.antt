use Rattle.std.proofs.Common.{◌≡◌, ◌∙◌, ◌+◌, ◌≤◌, [], ◌∷◌, List, arith, map, subst}
use Rattle.std.proofs.lemmas.Result.{err_from_is_err_and}
use Rattle.std.specs.List.{AllByRecursion}
use Rattle.rt_stamps.specs.Words.{Word}
use Rattle.rt_plans.proofs.PlanLaws.{spent}
use Rattle.rt_undo.specs.Actions.{Removed, removed_of, removed_with}
use Rattle.rt_revert.specs.Plans.{named_removed}
use Rattle.rt_revert.specs.Reverting.{with_returns}
use Rattle.rt_revert.specs.ReversionLaws.{MayReturn}
use Rattle.rt_revert.proofs.Had.{count_had}
use Rattle.rt_revert.proofs.Reaching.{reach_early, reach_end, reach_step, rest_none, rest_of, rest_step}
use Rattle.rt_revert.proofs.returning.bring_span_back.Goals as goal

pub bring_back-requires-clause-may : goal.bring_back-requires-clause-may
bring_back-requires-clause-may g c =
    let span = c.args.part.span in
    (subst (AllByRecursion MayReturn) (rest_step c.args.kept.now c.args.part.state span.site span.last c.loop-count.count (omega arith)) c.loop-count.invariant.may).0

pub returns-in_err-bring_back-clause-err : goal.returns-in_err-bring_back-clause-err
returns-in_err-bring_back-clause-err g c =
    let p = err_from_is_err_and c.from_residual.result c.from_residual.ensures.1 in
    let table = c.args.kept.now in
    let span = c.args.part.span in
    let state = c.args.part.state in
    let count = c.loop-count.count in
    let one : Removed (List Word) = named_removed table (removed_with state (record { count = count; site = span.site })) in
    rw (p.1, p.2) (spent
    (λ k portion r had s. reach_early table c.args.site.number (g.S.TextStore.list c.loop-count.copy) c.loop-count.plan portion (rest_of table state span.site span.last count) (one ∷ [])
    (rest_of table state span.site span.last (count + 1)) (with_returns (map (named_removed table) (removed_of c.args.part)) r)
    (rest_step table state span.site span.last count (omega arith)) (c.loop-count.invariant.so_far portion r had s) (λ q. k portion q (count_had portion c.args.part count (omega arith) (omega arith) had)))
    c.in_err-bring_back.ensures.err)

pub loop-count-preserved : goal.loop-count-preserved
loop-count-preserved g c =
    let table = c.args.kept.now in
    let span = c.args.part.span in
    let state = c.args.part.state in
    let count = c.loop-count.count in
    let one : Removed (List Word) = named_removed table (removed_with state (record { count = count; site = span.site })) in
    let step : rest_of table state span.site span.last count ≡ one ∷ rest_of table state span.site span.last (count + 1) = rest_step table state span.site span.last count (omega arith) in
    record {
      copy = c.in_ok-bring_back.ensures.copy;
      agrees = c.in_ok-bring_back.ensures.agrees;
      going = c.in_ok-bring_back.ensures.going;
      actions = c.in_ok-bring_back.ensures.actions ∙ c.loop-count.invariant.actions;
      may = (subst (AllByRecursion MayReturn) step c.loop-count.invariant.may).1;
      so_far = λ portion r had s. reach_step table c.args.site.number (g.S.TextStore.list c.loop-count.copy) c.loop-count.plan portion (rest_of table state span.site span.last count) (one ∷ [])
          (rest_of table state span.site span.last (count + 1)) (with_returns (map (named_removed table) (removed_of c.args.part)) r)
          (g.S.TextStore.list c.bring_back.new.copy) c.bring_back.new.plan step (c.loop-count.invariant.so_far portion r had s)
          (λ q. c.in_ok-bring_back.ensures.so_far portion q (count_had portion c.args.part count (omega arith) (omega arith) had));
    }

pub returns-in_ok-bring_back-clause-so_far : goal.returns-in_ok-bring_back-clause-so_far
returns-in_ok-bring_back-clause-so_far g c portion r had s =
    let table = c.args.kept.now in
    let span = c.args.part.span in
    let state = c.args.part.state in
    let count = c.loop-count.count in
    let one : Removed (List Word) = named_removed table (removed_with state (record { count = count; site = span.site })) in
    let end = with_returns (map (named_removed table) (removed_of c.args.part)) r in
    let last : span.last + 1 ≤ count + 1 = omega arith in
    reach_end table c.args.site.number (g.S.TextStore.list c.bring_back.new.copy) c.bring_back.new.plan portion (rest_of table state span.site span.last (count + 1)) end
    (rest_none table state span.site span.last (count + 1) last)
    (reach_step table c.args.site.number (g.S.TextStore.list c.loop-count.copy) c.loop-count.plan portion (rest_of table state span.site span.last count) (one ∷ [])
    (rest_of table state span.site span.last (count + 1)) end (g.S.TextStore.list c.bring_back.new.copy) c.bring_back.new.plan
    (rest_step table state span.site span.last count (omega arith)) (c.loop-count.invariant.so_far portion r had s)
    (λ q. c.in_ok-bring_back.ensures.so_far portion q (count_had portion c.args.part count (omega arith) (omega arith) had)))
