-- What is recorded of an edit, and that a site stays settled.
use Rattle.std.proofs.Common.{◌≡◌, ◌∙◌, ℕ, Bool, true, false, List, [], ◌∷◌, ◌++◌, Result, Ok, cond, map, length, ap, refl, subst, sym}
use Rattle.std.specs.Prelude.{◌&&◌}
use Rattle.std.specs.List.{AllByRecursion}
use Rattle.rt_stamps.specs.declared.fault.Fault.{Fault}
use Rattle.rt_stamps.specs.declared.stamp.Stamp.{Stamp}
use Rattle.rt_stamps.specs.Words.{Word}
use Rattle.rt_store.specs.Cells.{text_of}
use Rattle.rt_store.specs.Shown.{TaggedCell}
use Rattle.rt_revert.specs.Reverting.{as_removed}
use Rattle.rt_revert.specs.ReversionLaws.{AllMayRevert, MayRevert}
use Rattle.rt_recording.specs.Recordings.{HasStayed, Recording, came_back, span_action}
use Rattle.rt_recording.specs.Settled.{AreGoneOnce, IsSettled, removed_in_history, is_gone_cell}
use Rattle.rt_plans.specs.declared.range.Range.{Range}
use Rattle.rt_plans.specs.Deletions.{loss_in}
use Rattle.rt_text.specs.Commands.{lost_in}
use Rattle.rt_text.specs.Widgets.{ViewValue, begin_of, text_shown}
use Rattle.rt_undo.specs.declared.action.Kind.{Kind}
use Rattle.rt_undo.specs.Actions.{Action, Removed}
use Rattle.rt_undo.specs.Undo.{UndoHistory, as_group, asks_separator, forced_on, limited, recorded, separated, too_many, with_action, with_most}
use Rattle.rt_recording.specs.EditedValue.{edited}
use Rattle.rt_recording.specs.Edits.{edit_action, counts_between, has_changed, noted, noted_by, recorded_edit}
use Rattle.rt_recording.specs.Noting.{IsOfLog, Keeps}
use Rattle.rt_recording.proofs.Actions.{action_stays, places_stay}
use Rattle.rt_text.proofs.Growing.{Grows}
use Rattle.rt_recording.proofs.Every.{every_drop}
use Rattle.rt_recording.proofs.Growing.{cells_stay_gone}
use Rattle.rt_recording.proofs.Once.{HaveGone, in_limited, in_noted, once_fewer, once_grown, once_more}

-- SOUND HISTORIES

pub record IsSoundHistory (h : UndoHistory (List Word)) : Type 0 where
  pub closed : AllByRecursion AllMayRevert h.closed
  pub current : AllMayRevert h.current
  pub undone : AllByRecursion AllMayRevert h.undone

pub every_append : {X : Type 0} (P : X → Type 0) (xs ys : List X) → AllByRecursion P xs → AllByRecursion P ys → AllByRecursion P (xs ++ ys)
every_append P [] ys h k = k
every_append P (x ∷ xs) ys h k = (h.0, every_append P xs ys h.1 k)

group_sound : (group : List (Action (List Word))) → AllMayRevert group → AllByRecursion AllMayRevert (as_group group)
group_sound [] h = tt
group_sound (action ∷ group) h = (h, tt)

pub separated_sound : (h : UndoHistory (List Word)) → IsSoundHistory h → IsSoundHistory (separated h)
separated_sound h sound = record {
  closed = every_append AllMayRevert h.closed (as_group h.current) sound.closed (group_sound h.current sound.current);
  current = tt;
  undone = sound.undone;
}

recorded_sound : (action : Action (List Word)) (h : UndoHistory (List Word)) → MayRevert action → IsSoundHistory h → IsSoundHistory (recorded action h)
recorded_sound action h k sound = record { closed = sound.closed; current = every_append MayRevert h.current (action ∷ []) sound.current (k, tt); undone = tt }

limited_sound : (h : UndoHistory (List Word)) → IsSoundHistory h → IsSoundHistory (limited h)
limited_sound h sound = record { closed = every_drop AllMayRevert (too_many h) h.closed sound.closed; current = sound.current; undone = sound.undone }

added_sound : (auto : Bool) (action : Action (List Word)) (h : UndoHistory (List Word)) → MayRevert action → IsSoundHistory h → IsSoundHistory (with_action auto action h)
added_sound auto action h k sound =
    limited_sound (recorded action (cond (auto && asks_separator action.kind h) (separated h) h)) (by (auto && asks_separator action.kind h))
  where
    by : (b : Bool) → IsSoundHistory (recorded action (cond b (separated h) h))
    by true = recorded_sound action (separated h) k (separated_sound h sound)
    by false = recorded_sound action h k sound

pub forced_sound : (h : UndoHistory (List Word)) → IsSoundHistory h → IsSoundHistory (forced_on h)
forced_sound h sound = record { closed = sound.closed; current = sound.current; undone = sound.undone }

pub noted_sound : (changed undo auto : Bool) (action : Action (List Word)) (h : UndoHistory (List Word)) → MayRevert action → IsSoundHistory h → IsSoundHistory (noted_by changed undo auto action h)
noted_sound true true auto action h k sound = added_sound auto action h k sound
noted_sound true false auto action h k sound = forced_sound h sound
noted_sound false undo auto action h k sound = sound

pub history_of : (view : ViewValue) (recording : Recording) → IsSettled view recording → IsSoundHistory recording.history
history_of view recording settled = record { closed = settled.closed; current = settled.current; undone = settled.undone }

-- SETTLED SITES

-- who is gone stays so while the log grows
pub stay_gone : (view new : ViewValue) → IsOfLog view.doc → IsOfLog new.doc → Grows view.doc.log new.doc.log → (s : Stamp) → is_gone_cell view.doc.cells s ≡ true → is_gone_cell new.doc.cells s ≡ true
stay_gone view new kept same grows s h =
    ap (λ (cells : List TaggedCell). is_gone_cell cells s) same.cells
    ∙ cells_stay_gone view.doc.log new.doc.log same.history grows s (sym (ap (λ (cells : List TaggedCell). is_gone_cell cells s) kept.cells) ∙ h)

pub settled_after : (view new : ViewValue) (old next : Recording) → IsSettled view old → IsOfLog view.doc → IsOfLog new.doc → Grows view.doc.log new.doc.log
    → ((s : Stamp) → came_back next s ≡ came_back old s) → IsSoundHistory next.history → AreGoneOnce new.doc.cells (removed_in_history next.history) → IsSettled new next
settled_after view new old next settled kept same grows back sound once = record {
  gone = λ s h. stay_gone view new kept same grows s (settled.gone s (sym (back s) ∙ h));
  taken = once;
  closed = sound.closed;
  current = sound.current;
  undone = sound.undone;
}

-- where the oldest groups are dropped
pub settled_most : (view : ViewValue) (old new : Recording) (most : ℕ) → new ≡ record old { history = with_most most old.history } → IsSettled view old → IsSettled view new
settled_most view old new most e settled =
    let all : UndoHistory (List Word) = record old.history { most = most } in
    let sound = limited_sound all (record { closed = settled.closed; current = settled.current; undone = settled.undone }) in
    let left : IsSettled view (record old { history = with_most most old.history }) = record {
      gone = settled.gone;
      taken = once_fewer view.doc.cells (removed_in_history (with_most most old.history)) (removed_in_history old.history) (λ s. in_limited s all) settled.taken;
      closed = sound.closed;
      current = sound.current;
      undone = sound.undone;
    } in
    subst (IsSettled view) (sym e) left

pub keeps_itself : (old : Recording) → Keeps old old
keeps_itself old = record { history = refl; undo = refl; auto = refl; back = λ s. refl }

-- AN EDIT THAT IS MADE

module _ (kind : Kind) (lost : List TaggedCell) (view new : ViewValue) (old mid next : Recording) (cells visible count site : ℕ)
    (same_cells : cells ≡ length view.doc.cells) (same_visible : visible ≡ length (text_of view.doc.cells)) (same_count : count ≡ view.doc.count) (same_site : site ≡ view.doc.site)
    (keeps : Keeps old mid)
    (history : next.history ≡ noted_by (has_changed cells visible new.doc) mid.undo mid.auto (span_action kind (counts_between site count new.doc.count) (map as_removed lost)) mid.history)
    (settings : (next.undo ≡ mid.undo) × (next.auto ≡ mid.auto)) where
  pub noted_history : next.history ≡ noted kind lost (edited view old) new.doc
  noted_history = history ∙ (λ i. noted_by (has_changed (same_cells i) (same_visible i) new.doc) (keeps.undo i) (keeps.auto i)
      (span_action kind (counts_between (same_site i) (same_count i) new.doc.count) (map as_removed lost)) (keeps.history i))

  pub edit_done : (said : Result ViewValue Fault) → said ≡ Ok new → recorded_edit kind lost (edited view old) said ≡ Ok (edited new next)
  edit_done said e =
      ap (recorded_edit kind lost (edited view old)) e
      ∙ (λ i. Ok (record { view = new; history = sym noted_history i; undo = sym (settings.0 ∙ keeps.undo) i; auto = sym (settings.1 ∙ keeps.auto) i }))

  pub edit_settled : IsSettled view old → IsOfLog view.doc → IsOfLog new.doc → Grows view.doc.log new.doc.log → next.moves ≡ mid.moves
      → MayRevert (edit_action kind view.doc new.doc lost) → HaveGone view.doc.cells new.doc.cells (map (λ (r : Removed (List Word)). r.stamp) (map as_removed lost)) → IsSettled new next
  edit_settled settled kept same grows moves sound went =
      let changed = has_changed (length view.doc.cells) (length (text_of view.doc.cells)) new.doc in
      let action = edit_action kind view.doc new.doc lost in
      settled_after view new old next settled kept same grows (λ s. ap (λ m. came_back (record next { moves = m }) s) moves ∙ keeps.back s)
      (subst IsSoundHistory (sym noted_history)
      (noted_sound changed old.undo old.auto action old.history sound (history_of view old settled)))
      (subst (λ (h : UndoHistory (List Word)). AreGoneOnce new.doc.cells (removed_in_history h)) (sym noted_history)
      (once_fewer new.doc.cells (removed_in_history (noted_by changed old.undo old.auto action old.history)) (removed_in_history old.history ++ map (λ (r : Removed (List Word)). r.stamp) (map as_removed lost))
      (λ s. in_noted s changed old.undo old.auto action old.history)
      (once_more view.doc.cells new.doc.cells (removed_in_history old.history) (map (λ (r : Removed (List Word)). r.stamp) (map as_removed lost)) (stay_gone view new kept same grows) settled.taken went)))

-- who came back under another stamp is none of the edit's characters
pub edit_stays : (kind : Kind) (view : ViewValue) (old mid : Recording) (count site after : ℕ) (removed : List (Removed (List Word)))
    → count ≡ view.doc.count → site ≡ view.doc.site → IsSettled view old → IsOfLog view.doc → Keeps old mid
    → AllByRecursion (λ (r : Removed (List Word)). came_back mid r.stamp ≡ false) removed → HasStayed (came_back mid) (span_action kind (counts_between site count after) removed)
edit_stays kind view old mid count site after removed c s settled kept keeps h =
    let stays : HasStayed (came_back mid) (span_action kind (counts_between view.doc.site view.doc.count after) removed) =
    action_stays view.doc kept (came_back mid) (λ t back. settled.gone t (sym (keeps.back t) ∙ back)) kind after removed h in
    subst (λ (x : _). x) (λ i. HasStayed (came_back mid) (span_action kind (counts_between (sym s i) (sym c i) after) removed)) stays

pub lost_stay : (view : ViewValue) (old mid : Recording) (ranges : List Range) → IsSettled view old → IsOfLog view.doc → Keeps old mid
    → AllByRecursion (λ (r : Removed (List Word)). came_back mid r.stamp ≡ false) (map as_removed (lost_in view ranges))
lost_stay view old mid ranges settled kept keeps =
    places_stay view.doc kept (came_back mid) (λ t back. settled.gone t (sym (keeps.back t) ∙ back)) (loss_in (text_shown view) (begin_of view) ranges).places

-- WHAT IS ACCEPTED

-- the flag may be forced, where it is of no action
pub settled_forced : (view new : ViewValue) (old next : Recording) → next ≡ record old { history = forced_on old.history } → IsSettled view old → IsOfLog view.doc → IsOfLog new.doc
    → Grows view.doc.log new.doc.log → IsSettled new next
settled_forced view new old next e settled kept same grows =
    subst (IsSettled new) (sym e)
    (settled_after view new old (record old { history = forced_on old.history }) settled kept same grows (λ s. refl) (forced_sound old.history (history_of view old settled))
    (once_grown view.doc.cells new.doc.cells (removed_in_history old.history) (stay_gone view new kept same grows) settled.taken))

pub settled_same : (view new : ViewValue) (old next : Recording) → next ≡ old → IsSettled view old → IsOfLog view.doc → IsOfLog new.doc → Grows view.doc.log new.doc.log → IsSettled new next
settled_same view new old next e settled kept same grows =
    subst (IsSettled new) (sym e) (settled_after view new old old settled kept same grows (λ s. refl) (history_of view old settled)
    (once_grown view.doc.cells new.doc.cells (removed_in_history old.history) (stay_gone view new kept same grows) settled.taken))
