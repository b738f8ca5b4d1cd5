use Rattle.std.proofs.Common.{◌≡◌, ◌∙◌, ◌≤◌, ◌++◌, Bool, true, List, None, length, map, ap, arith, subst, sym}
use Rattle.std.specs.List.{AllByRecursion}
use Rattle.rt_stamps.specs.declared.stamp.Stamp.{Stamp}
use Rattle.rt_rga.specs.Cells.{cells_of}
use Rattle.rt_rga.specs.Histories.{IsHistory, greatest_last_count}
use Rattle.rt_plans.specs.DocValue.{DocValue}
use Rattle.rt_undo.specs.Actions.{Action, group_of}
use Rattle.rt_undo.specs.Renames.{is_moved}
use Rattle.rt_stamps.specs.Words.{Word}
use Rattle.rt_revert.specs.Reverting.{reversion, reverted_group}
use Rattle.rt_revert.specs.ReversionLaws.{AllMayRevert}
use Rattle.rt_text.specs.declared.reverted.Reverted.{Reverted}
use Rattle.rt_text.specs.Reversions.{reversion_check, view_reverted}
use Rattle.rt_text.specs.Widgets.{ViewValue}
use Rattle.rt_recording.specs.Naming.{HistoryIsGiven, named_group, named_history}
use Rattle.rt_recording.specs.Recordings.{HaveStayed, Recording, came_back}
use Rattle.rt_recording.specs.Returns.{AreReturns, IsOther, Return, back_after, stamp_after}
use Rattle.rt_recording.specs.Settled.{AreGoneOnce, is_gone_cell, taken_by}
use Rattle.rt_recording.proofs.Counted.{count_named, reversion_few}
use Rattle.rt_recording.proofs.Named.{history_kept, history_stays, prepared_kept, prepared_ready}
use Rattle.rt_recording.proofs.Settling.{if_both, if_checked, on_both, once_told, told}
use Rattle.rt_recording.proofs.Told.{IsReturned}
use Rattle.rt_recording.proofs.recorder.Recorder.revert.Given.{Over}
use Rattle.rt_recording.proofs.recorder.Recorder.revert.Goals as goal

-- what the reversion tells, where it is made
told_here : (g : Over) (c : goal.After-revert g) → reversion_check c.args.view.now.doc (named_group c.self.inside.table (group_of c.args.group.now)) ≡ None
    → IsReturned (is_moved c.self.inside.stacks.moves) c.args.view.now.doc (named_group c.self.inside.table (group_of c.args.group.now))
told_here g c checked =
    let s = c.self.inside in
    let doc = c.args.view.now.doc in
    let group = group_of c.args.group.now in
    told doc (named_group s.table group) (is_moved s.stacks.moves) c.site.result.number c.site.result.positive
    (c.site.ensures ∙ ap (λ (d : DocValue). d.site) c.doc-2.ensures)
    (subst (λ (d : DocValue). IsHistory d.log) c.doc.ensures c.log.ensures.history)
    (subst (λ (d : DocValue). d.cells ≡ cells_of d.log) c.doc.ensures c.log.ensures.cells)
    (subst (λ (d : DocValue). d.count ≡ greatest_last_count d.log) c.doc.ensures c.log.ensures.count)
    (subst (λ (v : Recording). AllMayRevert (named_group v.table group)) (sym c.self.view_is) c.requires.sound)
    (subst (λ (v : Recording). (stamp : Stamp) → came_back v stamp ≡ true → is_gone_cell doc.cells stamp ≡ true) (sym c.self.view_is) c.requires.gone)
    (subst (λ (v : Recording). HaveStayed (came_back v) (named_group v.table group)) (sym c.self.view_is) c.requires.stay)
    checked

-- and that who was taken away is gone once
once_here : (g : Over) (c : goal.After-revert g) → reversion_check c.args.view.now.doc (named_group c.self.inside.table (group_of c.args.group.now)) ≡ None → (others : List Stamp)
    → AreGoneOnce c.args.view.now.doc.cells (taken_by (named_group c.self.inside.table (group_of c.args.group.now)) ++ others)
    → AreGoneOnce (reversion c.args.view.now.doc (named_group c.self.inside.table (group_of c.args.group.now))).doc.cells
    (map (stamp_after (reversion c.args.view.now.doc (named_group c.self.inside.table (group_of c.args.group.now))).returns) others
    ++ taken_by (reverted_group c.args.view.now.doc (named_group c.self.inside.table (group_of c.args.group.now))))
once_here g c checked others once =
    let s = c.self.inside in
    let doc = c.args.view.now.doc in
    let group = group_of c.args.group.now in
    once_told doc (named_group s.table group) others c.site.result.number c.site.result.positive
    (c.site.ensures ∙ ap (λ (d : DocValue). d.site) c.doc-2.ensures)
    (subst (λ (d : DocValue). IsHistory d.log) c.doc.ensures c.log.ensures.history)
    (subst (λ (d : DocValue). d.cells ≡ cells_of d.log) c.doc.ensures c.log.ensures.cells)
    (subst (λ (d : DocValue). d.count ≡ greatest_last_count d.log) c.doc.ensures c.log.ensures.count)
    (subst (λ (v : Recording). AllMayRevert (named_group v.table group)) (sym c.self.view_is) c.requires.sound)
    checked once

pub invariant_of-self-2 : goal.invariant_of-self-2
invariant_of-self-2 g c =
    let s = c.self.inside in
    let table = c.revert.new.kept in
    record {
      given = subst (HistoryIsGiven table) (sym c.reserve.ensures.history) (history_stays s.table table c.revert.ensures.ids s.stacks.history c.self.invariant.given);
      next = prepared_ready s.table table c.revert.ensures.ids s.stacks c.reserve.new.self c.in_ok-reserve.ensures.ready s.next c.self.invariant.next;
    }

pub returns-clause-first_times : goal.returns-clause-first_times
returns-clause-first_times g c =
    let s = c.self.inside in
    let group = named_group s.table (group_of c.args.group.now) in
    let returns = (reversion c.args.view.now.doc group).returns in
    let moves = c.reserve.new.self.moves in
    if_checked (λ (r : Reverted). r.returns.items ≡ returns) (λ (r : Reverted). AreReturns (is_moved moves) r.returns.items) c.revert.result c.revert.ensures.checked c.revert.ensures.returns
    (λ checked r same. subst (AreReturns (is_moved moves)) (sym same)
    (subst (λ (back : Stamp → Bool). AreReturns back returns) (λ j u. sym (c.reserve.ensures.moves u) j) (told_here g c checked).returns))

pub returns-clause-others : goal.returns-clause-others
returns-clause-others g c =
    let s = c.self.inside in
    let group = named_group s.table (group_of c.args.group.now) in
    let returns = (reversion c.args.view.now.doc group).returns in
    if_checked (λ (r : Reverted). r.returns.items ≡ returns) (λ (r : Reverted). AllByRecursion IsOther r.returns.items) c.revert.result c.revert.ensures.checked c.revert.ensures.returns
    (λ checked r same. subst (AllByRecursion IsOther) (sym same) (told_here g c checked).others)

pub returns-clause-stay : goal.returns-clause-stay
returns-clause-stay g c =
    let s = c.self.inside in
    let doc = c.args.view.now.doc in
    let group = named_group s.table (group_of c.args.group.now) in
    let returns = (reversion doc group).returns in
    let moves = c.reserve.new.self.moves in
    let table = c.revert.new.kept in
    let R : Reverted → Type 0 = λ r. r.returns.items ≡ returns in
    let A : Reverted → Type 0 = λ r. named_group table (group_of r.actions.items) ≡ reverted_group doc group in
    if_checked (λ (r : Reverted). R r × A r) (λ (r : Reverted). HaveStayed (back_after r.returns.items (is_moved moves)) (named_group table (group_of r.actions.items))) c.revert.result
    c.revert.ensures.checked (if_both R A c.revert.result c.revert.ensures.returns c.revert.ensures.actions)
    (λ checked r both. subst (λ (l : List (Action (List Word))). HaveStayed (back_after r.returns.items (is_moved moves)) l) (sym both.1)
    (subst (λ (l : List Return). HaveStayed (back_after l (is_moved moves)) (reverted_group doc group)) (sym both.0)
    (subst (λ (back : Stamp → Bool). HaveStayed (back_after returns back) (reverted_group doc group)) (λ j u. sym (c.reserve.ensures.moves u) j) (told_here g c checked).stay)))

pub returns-clause-gone : goal.returns-clause-gone
returns-clause-gone g c =
    let s = c.self.inside in
    let doc = c.args.view.now.doc in
    let group = named_group s.table (group_of c.args.group.now) in
    let returns = (reversion doc group).returns in
    let moves = c.reserve.new.self.moves in
    if_checked (λ (r : Reverted). r.returns.items ≡ returns)
    (λ (r : Reverted). (stamp : Stamp) → back_after r.returns.items (is_moved moves) stamp ≡ true → is_gone_cell c.revert.new.self.doc.cells stamp ≡ true) c.revert.result
    (on_both (reversion_check doc group ≡ None) (c.revert.new.self ≡ view_reverted c.args.view.now group) c.revert.result c.revert.ensures.checked c.revert.ensures.ok) c.revert.ensures.returns
    (λ both r same stamp back. ap (λ (v : ViewValue). is_gone_cell v.doc.cells stamp) both.1
    ∙ (told_here g c both.0).gone stamp ((λ j. back_after (sym same j) (λ u. sym (c.reserve.ensures.moves u) j) stamp) ∙ back))

pub returns-clause-room : goal.returns-clause-room
returns-clause-room g c =
    let s = c.self.inside in
    let doc = c.args.view.now.doc in
    let kept = group_of c.args.group.now in
    let group = named_group s.table kept in
    let returns = (reversion doc group).returns in
    let most : c.in_ok-most.most ≤ c.reserve.new.self.moves.room = c.in_ok-reserve.ensures.room in
    if_checked (λ (r : Reverted). r.returns.items ≡ returns) (λ (r : Reverted). length r.returns.items ≤ c.reserve.new.self.moves.room) c.revert.result
    c.revert.ensures.checked c.revert.ensures.returns
    (λ checked r same. omega (arith, ap (λ (l : List Return). length l) same, reversion_few doc group, count_named s.table kept, c.in_ok-most.ensures.ok, most))

pub returns-clause-history : goal.returns-clause-history
returns-clause-history g c =
    let s = c.self.inside in
    let table = c.revert.new.kept in
    ap (named_history table) c.reserve.ensures.history
    ∙ history_kept s.table table c.revert.ensures.ids s.stacks.history c.self.invariant.given
    ∙ ap (λ (v : Recording). v.history) c.self.view_is

pub returns-clause-pending : goal.returns-clause-pending
returns-clause-pending g c =
    let s = c.self.inside in
    prepared_kept s.table c.revert.new.kept c.revert.ensures.ids s.stacks s.next c.self.invariant.next ∙ ap (λ (v : Recording). v.pending) c.self.view_is

pub returns-clause-taken : goal.returns-clause-taken
returns-clause-taken g c =
    let s = c.self.inside in
    let doc = c.args.view.now.doc in
    let group = named_group s.table (group_of c.args.group.now) in
    let returns = (reversion doc group).returns in
    let table = c.revert.new.kept in
    let R : Reverted → Type 0 = λ r. r.returns.items ≡ returns in
    let A : Reverted → Type 0 = λ r. named_group table (group_of r.actions.items) ≡ reverted_group doc group in
    if_checked (λ (r : Reverted). R r × A r)
    (λ (r : Reverted). (others : List Stamp) → AreGoneOnce doc.cells (taken_by (named_group c.args.self.now.table (group_of c.args.group.now)) ++ others)
    → AreGoneOnce c.revert.new.self.doc.cells (map (stamp_after r.returns.items) others ++ taken_by (named_group table (group_of r.actions.items)))) c.revert.result
    (on_both (reversion_check doc group ≡ None) (c.revert.new.self ≡ view_reverted c.args.view.now group) c.revert.result c.revert.ensures.checked c.revert.ensures.ok)
    (if_both R A c.revert.result c.revert.ensures.returns c.revert.ensures.actions)
    (λ both r same others once.
    subst (λ (l : List (Action (List Word))). AreGoneOnce c.revert.new.self.doc.cells (map (stamp_after r.returns.items) others ++ taken_by l)) (sym same.1)
    (subst (λ (l : List Return). AreGoneOnce c.revert.new.self.doc.cells (map (stamp_after l) others ++ taken_by (reverted_group doc group))) (sym same.0)
    (subst (λ (v : ViewValue). AreGoneOnce v.doc.cells (map (stamp_after returns) others ++ taken_by (reverted_group doc group))) (sym both.1)
    (once_here g c both.0 others
    (subst (λ (v : Recording). AreGoneOnce doc.cells (taken_by (named_group v.table (group_of c.args.group.now)) ++ others)) (sym c.self.view_is) once)))))
