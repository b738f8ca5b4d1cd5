-- What is so between commands holds again after a group was reverted.
use Rattle.std.proofs.Common.{◌≡◌, ℕ, ◌-◌, ◌<◌, ◌++◌, Bool, true, List, [], ◌∷◌, None, Result, Ok, Err, length, map, arith, refl, subst, sym}
use Rattle.std.specs.Prelude.{IfOk, OnOk}
use Rattle.std.specs.List.{AllByRecursion}
use Rattle.rt_stamps.specs.declared.stamp.Stamp.{Stamp}
use Rattle.rt_stamps.specs.Words.{Word}
use Rattle.rt_tags.proofs.Sorted.{every_append}
use Rattle.rt_rga.specs.Cells.{cells_of}
use Rattle.rt_rga.specs.Histories.{IsHistory, greatest_last_count}
use Rattle.rt_plans.specs.DocValue.{DocValue}
use Rattle.rt_undo.specs.Actions.{Action}
use Rattle.rt_undo.specs.Undo.{UndoHistory, as_group, but_newest, redo_done, renamed_by, to_undo, too_many, undo_done, with_stamps_in}
use Rattle.rt_revert.specs.Reverting.{reversion, reverted, reverted_group}
use Rattle.rt_revert.specs.ReversionLaws.{AllMayRevert}
use Rattle.rt_revert.proofs.Soundness.{group_renamed}
use Rattle.rt_text.specs.Reversions.{reversion_check}
use Rattle.rt_recording.specs.Recordings.{HaveStayed}
use Rattle.rt_recording.specs.Returns.{IsOther, Return, stamp_after}
use Rattle.rt_text.proofs.KeptLimits.{fits}
use Rattle.rt_recording.specs.Settled.{AreGoneOnce, is_gone_cell, taken_by}
use Rattle.rt_recording.proofs.Every.{every_drop, every_take}
use Rattle.rt_recording.proofs.OnceReverted.{reversion_once}
use Rattle.rt_recording.proofs.Told.{IsReturned, reversion_told}

-- WHERE THE COUNTS FIT

-- a document of a history, by which none of those who came back is visible, and a group of those who stayed
pub told : (doc : DocValue) (group : List (Action (List Word))) (back : Stamp → Bool) (number : ℕ) → 0 < number → number ≡ doc.site → IsHistory doc.log
    → doc.cells ≡ cells_of doc.log → doc.count ≡ greatest_last_count doc.log → AllMayRevert group → ((s : Stamp) → back s ≡ true → is_gone_cell doc.cells s ≡ true)
    → HaveStayed back group → reversion_check doc group ≡ None → IsReturned back doc group
told doc group back number p site history cells count sound gone stay checked =
    let positive : 0 < doc.site = omega (arith, p, site) in
    reversion_told doc.site doc.log doc group back positive history (record { cells = cells; site = refl; count = count }) sound (fits doc group checked) gone stay

-- and who was taken away is gone once, by the stamps of then
pub once_told : (doc : DocValue) (group : List (Action (List Word))) (others : List Stamp) (number : ℕ) → 0 < number → number ≡ doc.site → IsHistory doc.log
    → doc.cells ≡ cells_of doc.log → doc.count ≡ greatest_last_count doc.log → AllMayRevert group → reversion_check doc group ≡ None → AreGoneOnce doc.cells (taken_by group ++ others)
    → AreGoneOnce (reversion doc group).doc.cells (map (stamp_after (reversion doc group).returns) others ++ taken_by (reverted_group doc group))
once_told doc group others number p site history cells count sound checked once =
    let positive : 0 < doc.site = omega (arith, p, site) in
    (reversion_once doc.site doc.log doc group others positive history (record { cells = cells; site = refl; count = count }) sound (fits doc group checked) once).once

-- RESULTS

pub on_weaker : {A E : Type 0} (C D : Type 0) (r : Result A E) → OnOk r C → (C → D) → OnOk r D
on_weaker C D (Ok x) c f = f c
on_weaker C D (Err e) c f = tt

pub if_checked : {A E C : Type 0} (P Q : A → Type 0) (r : Result A E) → OnOk r C → IfOk r P → (C → (x : A) → P x → Q x) → IfOk r Q
if_checked P Q (Ok x) c p f = f c x p
if_checked P Q (Err e) c p f = tt

pub on_both : {A E : Type 0} (C D : Type 0) (r : Result A E) → OnOk r C → OnOk r D → OnOk r (C × D)
on_both C D (Ok x) c d = (c, d)
on_both C D (Err e) c d = tt

pub if_both : {A E : Type 0} (P Q : A → Type 0) (r : Result A E) → IfOk r P → IfOk r Q → IfOk r (λ x. P x × Q x)
if_both P Q (Ok x) p q = (p, q)
if_both P Q (Err e) p q = tt

-- SOUND HISTORIES

pub record HistoryIsSound (h : UndoHistory (List Word)) : Type 0 where
  pub closed : AllByRecursion AllMayRevert h.closed
  pub current : AllMayRevert h.current
  pub undone : AllByRecursion AllMayRevert h.undone

groups_renamed : (returns : List Return) (groups : List (List (Action (List Word)))) → AllByRecursion IsOther returns → AllByRecursion AllMayRevert groups
    → AllByRecursion AllMayRevert (map (with_stamps_in {T = List Word} (stamp_after returns)) groups)
groups_renamed returns [] h k = tt
groups_renamed returns (group ∷ groups) h k = (group_renamed returns group h k.0, groups_renamed returns groups h k.1)

renamed_sound : (returns : List Return) (h : UndoHistory (List Word)) → AllByRecursion IsOther returns → HistoryIsSound h → HistoryIsSound (renamed_by (stamp_after returns) h)
renamed_sound returns h others k = record {
  closed = groups_renamed returns h.closed others k.closed;
  current = group_renamed returns h.current others k.current;
  undone = groups_renamed returns h.undone others k.undone;
}

as_group_sound : (group : List (Action (List Word))) → AllMayRevert group → AllByRecursion AllMayRevert (as_group group)
as_group_sound [] h = tt
as_group_sound (a ∷ group) h = (h, tt)

to_undo_sound : (h : UndoHistory (List Word)) → HistoryIsSound h → AllByRecursion AllMayRevert (to_undo h)
to_undo_sound h k = every_append AllMayRevert h.closed (as_group h.current) k.closed (as_group_sound h.current k.current)

pub sound_undone : (returns : List Return) (reverted : List (Action (List Word))) (old between new : UndoHistory (List Word)) → AllByRecursion IsOther returns → AllMayRevert reverted
    → HistoryIsSound old → between ≡ old → new ≡ undo_done reverted (renamed_by (stamp_after returns) between) → HistoryIsSound new
sound_undone returns reverted old between new others r k b e =
    let h = renamed_by (stamp_after returns) between in
    let s = renamed_sound returns between others (subst HistoryIsSound (sym b) k) in
    let done : HistoryIsSound (undo_done reverted h) = record {
      closed = every_take AllMayRevert (length (to_undo h) - 1) (to_undo h) (to_undo_sound h s);
      current = tt;
      undone = every_append AllMayRevert h.undone (reverted ∷ []) s.undone (r, tt);
    } in
    subst HistoryIsSound (sym e) done

pub sound_redone : (returns : List Return) (reverted : List (Action (List Word))) (old between new : UndoHistory (List Word)) → AllByRecursion IsOther returns → AllMayRevert reverted
    → HistoryIsSound old → between ≡ old → new ≡ redo_done reverted (renamed_by (stamp_after returns) between) → HistoryIsSound new
sound_redone returns reverted old between new others r k b e =
    let h = renamed_by (stamp_after returns) between in
    let s = renamed_sound returns between others (subst HistoryIsSound (sym b) k) in
    let groups = to_undo h ++ reverted ∷ [] in
    let all : UndoHistory (List Word) = record h { closed = groups; current = []; undone = but_newest h.undone } in
    let done : HistoryIsSound (redo_done reverted h) = record {
      closed = every_drop AllMayRevert (too_many all) groups (every_append AllMayRevert (to_undo h) (reverted ∷ []) (to_undo_sound h s) (r, tt));
      current = tt;
      undone = every_take AllMayRevert (length h.undone - 1) h.undone s.undone;
    } in
    subst HistoryIsSound (sym e) done
