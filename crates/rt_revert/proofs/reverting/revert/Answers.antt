use Rattle.std.proofs.Common.{◌≡◌, ◌∙◌, ◌<◌, List, ap, drop, map, subst, sym}
use Rattle.std.proofs.lemmas.Result.{err_from_is_err_and}
use Rattle.rt_stamps.specs.declared.limits.TheConstants.{GREATEST_COUNT}
use Rattle.rt_stamps.specs.declared.stamp.TheConstants.{FINAL}
use Rattle.rt_ops.specs.Operations.{stamps_in}
use Rattle.rt_store.specs.Spans.{is_among}
use Rattle.rt_plans.proofs.PlanLaws.{spent}
use Rattle.rt_undo.specs.declared.action.RemovedSpan.{RemovedSpan}
use Rattle.rt_undo.specs.Actions.{removed_in}
use Rattle.rt_undo.specs.Renames.{now_of}
use Rattle.rt_revert.specs.declared.plan.Return.{Return}
use Rattle.rt_revert.specs.Plans.{named_removed}
use Rattle.rt_revert.specs.Portions.{HasEach, HasRemoved}
use Rattle.rt_revert.specs.Progress.{IsSoFar}
use Rattle.rt_revert.specs.Reverting.{stamp_after, with_removal, with_returns}
use Rattle.rt_revert.proofs.Acted.{acted, early_back, early_gone, gone_had, stamps_after, stays}
use Rattle.rt_revert.proofs.reverting.revert.Goals as goal

pub take_out-requires-clause-stays : goal.take_out-requires-clause-stays
take_out-requires-clause-stays g c =
    let f = now_of c.args.plan.now.renames in
    ap (λ l. is_among l FINAL) (ap stamps_in c.deref-2.ensures.value ∙ c.in_ok-spans.ensures.ok ∙ ap (λ l. map f (stamps_in l)) c.deref.ensures.value)
    ∙ stays c.args.kept.now c.args.plan.now (stamps_in c.args.action.now.inserted.items) c.requires.going c.requires.sound.inserted

pub returns-in_err-removed-clause-err : goal.returns-in_err-removed-clause-err
returns-in_err-removed-clause-err g c =
    let p = err_from_is_err_and c.from_residual-in_err-removed.result c.from_residual-in_err-removed.ensures.1 in
    let table = c.args.kept.now in
    let before = c.args.plan.now in
    let action = c.args.action.now in
    let stamps = stamps_in c.deref-2.result.now in
    let stamps_are : stamps ≡ map (stamp_after before.returns.items) (stamps_in action.inserted.items) =
    ap stamps_in c.deref-2.ensures.value ∙ c.in_ok-spans.ensures.ok ∙ ap (λ l. map (now_of before.renames) (stamps_in l)) c.deref.ensures.value
    ∙ stamps_after table before (stamps_in action.inserted.items) c.requires.going in
    rw (p.1, p.2) (spent
    (λ k part r had s. early_gone table c.args.site.number (g.S.TextStore.list c.args.copy.now) before part r action stamps s stamps_are (k c.args.site.number part r (gone_had table c.args.site.number (g.S.TextStore.list c.args.copy.now) before part r action stamps s stamps_are had) s))
    c.in_err-removed.ensures.err)

pub returns-in_err-bring_all_back-clause-err : goal.returns-in_err-bring_all_back-clause-err
returns-in_err-bring_all_back-clause-err g c =
    let p = err_from_is_err_and c.from_residual-in_err-bring_all_back.result c.from_residual-in_err-bring_all_back.ensures.1 in
    let table = c.args.kept.now in
    let before = c.args.plan.now in
    let action = c.args.action.now in
    let stamps = stamps_in c.deref-2.result.now in
    let stamps_are : stamps ≡ map (stamp_after before.returns.items) (stamps_in action.inserted.items) =
    ap stamps_in c.deref-2.ensures.value ∙ c.in_ok-spans.ensures.ok ∙ ap (λ l. map (now_of before.renames) (stamps_in l)) c.deref.ensures.value
    ∙ stamps_after table before (stamps_in action.inserted.items) c.requires.going in
    rw (p.1, p.2) (spent
    (λ k part r had s. early_back table c.args.site.number (g.S.TextStore.list c.args.copy.now) before part r action stamps s stamps_are
    (subst (λ (l : List RemovedSpan). GREATEST_COUNT < (with_returns (map (named_removed table) (removed_in l)) (with_removal stamps r)).doc.count) c.deref-3.ensures.value
    (k part (with_removal stamps r) (subst (λ (l : List RemovedSpan). HasRemoved part (removed_in l)) (sym c.deref-3.ensures.value) had.1)
    (c.in_ok-removed.ensures.so_far c.args.site.number part r (gone_had table c.args.site.number (g.S.TextStore.list c.args.copy.now) before part r action stamps s stamps_are had) s))))
    c.in_err-bring_all_back.ensures.err)

pub returns-clause-so_far : goal.returns-clause-so_far
returns-clause-so_far g c part r had s =
    let table = c.args.kept.now in
    let number = c.args.site.number in
    let before = c.args.plan.now in
    let action = c.args.action.now in
    let stamps = stamps_in c.deref-2.result.now in
    let stamps_are : stamps ≡ map (stamp_after before.returns.items) (stamps_in action.inserted.items) =
    ap stamps_in c.deref-2.ensures.value ∙ c.in_ok-spans.ensures.ok ∙ ap (λ l. map (now_of before.renames) (stamps_in l)) c.deref.ensures.value
    ∙ stamps_after table before (stamps_in action.inserted.items) c.requires.going in
    let new = g.S.TextStore.list c.bring_all_back.new.copy in
    let late = c.bring_all_back.new.plan in
    let has : HasEach part stamps = gone_had table number (g.S.TextStore.list c.args.copy.now) before part r action stamps s stamps_are had in
    acted table number (g.S.TextStore.list c.args.copy.now) before part r action stamps new late c.push.new.self c.in_ok-inserted.inserted c.in_ok-removed.removed s stamps_are
    (subst (λ (l : List RemovedSpan). IsSoFar table number new late part (with_returns (map (named_removed table) (removed_in l)) (with_removal stamps r))) c.deref-3.ensures.value
    (c.in_ok-bring_all_back.ensures.so_far part (with_removal stamps r) (subst (λ (l : List RemovedSpan). HasRemoved part (removed_in l)) (sym c.deref-3.ensures.value) had.1)
    (c.in_ok-removed.ensures.so_far number part r has s)))
    (c.in_ok-bring_all_back.ensures.actions ∙ c.in_ok-removed.ensures.actions)
    c.in_ok-push.ensures.items
    (c.in_ok-inserted.ensures.ok ∙ ap (map (λ (x : Return). x.newer)) (c.since.ensures ∙ (λ i. drop ((c.len-before.ensures ∙ c.args.plan.now.returns.ok.0) i) (c.deref-4.ensures.value i))))
    (c.in_ok-removed.ensures.removed number part r has s)
