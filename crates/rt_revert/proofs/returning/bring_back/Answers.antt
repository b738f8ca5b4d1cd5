use Rattle.std.proofs.Common.{◌∙◌, ◌<◌, None, Some, ap, subst, sym}
use Rattle.std.specs.Prelude.{is_some}
use Rattle.std.proofs.lemmas.Result.{IfErr-weaker, on_ok_weaker}
use Rattle.rt_stamps.specs.declared.limits.TheConstants.{GREATEST_COUNT}
use Rattle.rt_stamps.specs.declared.stamp.TheConstants.{FINAL}
use Rattle.rt_stamps.specs.Stamps.{is_same}
use Rattle.rt_store.specs.Cells.{stamps_of}
use Rattle.rt_store.specs.Spans.{is_among}
use Rattle.rt_store.proofs.Finding.{stamp_held}
use Rattle.rt_plans.proofs.PlanLaws.{spent}
use Rattle.rt_undo.specs.Actions.{removed_with}
use Rattle.rt_undo.specs.Renames.{is_moved}
use Rattle.rt_revert.specs.Plans.{named_removed}
use Rattle.rt_revert.specs.Progress.{IsSoFar}
use Rattle.rt_revert.specs.Reverting.{Reversion, gone_cell_of}
use Rattle.rt_revert.proofs.PlacesFound.{found_stamp}
use Rattle.rt_revert.proofs.Returned.{return_is, stamp_had}
use Rattle.rt_revert.proofs.Stamps.{after_apart, gone_found}
use Rattle.rt_revert.proofs.returning.bring_back.Goals as goal

pub put_back-requires-clause-there : goal.put_back-requires-clause-there
put_back-requires-clause-there g c =
    let cells = g.S.TextStore.list c.args.copy.now in
    ap (is_among (stamps_of cells)) (found_stamp cells c.now-stamp.result c.in-Some.old (gone_found cells c.now-stamp.result c.in-Some.old (sym c.in-Some.ensures)).0)
    ∙ sym (stamp_held cells c.now-stamp.result) ∙ ap is_some (gone_found cells c.now-stamp.result c.in-Some.old (sym c.in-Some.ensures)).0

pub put_back-requires-clause-other : goal.put_back-requires-clause-other
put_back-requires-clause-other g c =
    let cells = g.S.TextStore.list c.args.copy.now in
    ap (λ s. is_same s FINAL) (found_stamp cells c.now-stamp.result c.in-Some.old (gone_found cells c.now-stamp.result c.in-Some.old (sym c.in-Some.ensures)).0 ∙ c.now-stamp.ensures.now ∙ c.requires.going.now c.args.removed.0)
    ∙ after_apart c.args.plan.now.returns.items c.args.removed.0 c.requires.going.apart c.requires.may.stamp

pub put_back-requires-clause-still : goal.put_back-requires-clause-still
put_back-requires-clause-still g c =
    let cells = g.S.TextStore.list c.args.copy.now in
    ap (is_moved c.args.plan.now.renames) (found_stamp cells c.now-stamp.result c.in-Some.old (gone_found cells c.now-stamp.result c.in-Some.old (sym c.in-Some.ensures)).0) ∙ c.now-stamp.ensures.newest

pub returns-in-Some-clause-so_far : goal.returns-in-Some-clause-so_far
returns-in-Some-clause-so_far g c =
    let cells = g.S.TextStore.list c.args.copy.now in
    let table = c.args.kept.now in
    let plan = c.args.plan.now in
    let removed = named_removed table (removed_with c.args.removed.1 c.args.removed.0) in
    let stamp = found_stamp cells c.now-stamp.result c.in-Some.old (gone_found cells c.now-stamp.result c.in-Some.old (sym c.in-Some.ensures)).0 in
    let now = sym (c.requires.going.now c.args.removed.0) ∙ sym c.now-stamp.ensures.now ∙ sym stamp in
    let found = ap (gone_cell_of cells) stamp ∙ sym c.in-Some.ensures in
    on_ok_weaker c.put_back.result
    (λ h part r had s. subst (IsSoFar table c.args.site.number (g.S.TextStore.list c.put_back.new.copy) c.put_back.new.plan part)
    (sym (return_is table c.args.site.number cells plan part r removed c.in-Some.old.stamp (Some c.in-Some.old) had s now found))
    (h part r (stamp_had table c.args.site.number cells plan part r c.args.removed.0 c.in-Some.old.stamp had s now) s))
    c.put_back.ensures.so_far

pub returns-in-Some-clause-err : goal.returns-in-Some-clause-err
returns-in-Some-clause-err g c =
    let cells = g.S.TextStore.list c.args.copy.now in
    let table = c.args.kept.now in
    let plan = c.args.plan.now in
    let removed = named_removed table (removed_with c.args.removed.1 c.args.removed.0) in
    let stamp = found_stamp cells c.now-stamp.result c.in-Some.old (gone_found cells c.now-stamp.result c.in-Some.old (sym c.in-Some.ensures)).0 in
    let now = sym (c.requires.going.now c.args.removed.0) ∙ sym c.now-stamp.ensures.now ∙ sym stamp in
    let found = ap (gone_cell_of cells) stamp ∙ sym c.in-Some.ensures in
    IfErr-weaker c.put_back.result _ _
    (λ fault. spent (λ k part r had s. subst (λ (q : Reversion). GREATEST_COUNT < q.doc.count)
    (sym (return_is table c.args.site.number cells plan part r removed c.in-Some.old.stamp (Some c.in-Some.old) had s now found))
    (k part r (stamp_had table c.args.site.number cells plan part r c.args.removed.0 c.in-Some.old.stamp had s now) s)))
    c.put_back.ensures.err

pub returns-in-None-clause-so_far : goal.returns-in-None-clause-so_far
returns-in-None-clause-so_far g c part r had s =
    let cells = g.S.TextStore.list c.args.copy.now in
    let table = c.args.kept.now in
    let plan = c.args.plan.now in
    let removed = named_removed table (removed_with c.args.removed.1 c.args.removed.0) in
    let now = sym (c.requires.going.now c.args.removed.0) ∙ sym c.now-stamp.ensures.now in
    subst (IsSoFar table c.args.site.number cells plan part) (sym (return_is table c.args.site.number cells plan part r removed c.now-stamp.result None had s now (sym c.in-None.ensures))) s
