-- Histories with other stamps, and with the names of tags.
use Rattle.std.proofs.Common.{◌≡◌, ◌∙◌, ℕ, zero, suc, ◌+◌, ◌-◌, ◌<◌, ◌≤◌, ◌++◌, Bool, true, false, List, [], ◌∷◌, Option, Some, None, is_some, map, length, drop, drop-cons, add-one, get_or, option_map, ap, sym, refl, subst, arith}
use Rattle.std.specs.List.{AllByRecursion}
use Rattle.std.proofs.lemmas.List.{map-append}
use Rattle.std.proofs.lemmas.Simd.{map-map}
use Rattle.rt_stamps.specs.declared.stamp.Stamp.{Stamp}
use Rattle.rt_stamps.specs.Words.{Word}
use Rattle.rt_tags.specs.States.{TagStates, names_on, state_at}
use Rattle.rt_tags.proofs.Sorted.{every_append}
use Rattle.rt_undo.specs.declared.renames.Move.{Move}
use Rattle.rt_undo.specs.Actions.{Action, Removed, restamped, restamped_one}
use Rattle.rt_undo.specs.Groups.{NoneMoves}
use Rattle.rt_undo.specs.Renames.{SpanMapValue, is_moved, replaced}
use Rattle.rt_undo.specs.Undo.{UndoHistory, as_group, but_newest, newest, limited, next_redo, next_undo, redo_done, renamed_by, to_undo, too_many, undo_done, with_stamps_in}
use Rattle.rt_undo.proofs.Histories.{but_newest_map, newest_map, to_undo_renamed}
use Rattle.rt_recording.specs.Naming.{AreGiven, HistoryIsGiven, RemovedAreGiven, named_group, named_history, named_removed}
use Rattle.rt_recording.specs.Recordings.{HaveStayed}
use Rattle.rt_recording.specs.Returns.{AreReturns, IsReturn, Return, back_after, back_with, stamp_after}
use Rattle.rt_recording.proofs.Every.{every_drop, every_take}
use Rattle.rt_recording.proofs.Named.{limited_named, to_undo_named}

-- TWICE, AND NOT AT ALL

action_twice : (g f : Stamp → Stamp) (a : Action ℕ) → restamped g (restamped f a) ≡ restamped (λ s. g (f s)) a
action_twice g f a = λ i. record a {
  inserted = map-map g f a.inserted i;
  removed = map-map (restamped_one {T = ℕ} g) (restamped_one {T = ℕ} f) a.removed i;
}

group_twice : (g f : Stamp → Stamp) (group : List (Action ℕ)) → with_stamps_in g (with_stamps_in f group) ≡ with_stamps_in (λ s. g (f s)) group
group_twice g f [] = refl
group_twice g f (a ∷ group) = λ i. action_twice g f a i ∷ group_twice g f group i

groups_twice : (g f : Stamp → Stamp) (groups : List (List (Action ℕ)))
    → map (with_stamps_in {T = ℕ} g) (map (with_stamps_in {T = ℕ} f) groups) ≡ map (with_stamps_in {T = ℕ} (λ s. g (f s))) groups
groups_twice g f [] = refl
groups_twice g f (group ∷ groups) = λ i. group_twice g f group i ∷ groups_twice g f groups i

history_twice : (g f : Stamp → Stamp) (h : UndoHistory ℕ) → renamed_by g (renamed_by f h) ≡ renamed_by (λ s. g (f s)) h
history_twice g f h = λ i. record h {
  closed = groups_twice g f h.closed i;
  current = group_twice g f h.current i;
  undone = groups_twice g f h.undone i;
}

stamps_same : (stamps : List Stamp) → map (λ s. s) stamps ≡ stamps
stamps_same [] = refl
stamps_same (s ∷ stamps) = ap (λ l. s ∷ l) (stamps_same stamps)

removed_same : (removed : List (Removed ℕ)) → map (restamped_one {T = ℕ} (λ s. s)) removed ≡ removed
removed_same [] = refl
removed_same (r ∷ removed) = ap (λ l. r ∷ l) (removed_same removed)

group_same : (group : List (Action ℕ)) → with_stamps_in {T = ℕ} (λ s. s) group ≡ group
group_same [] = refl
group_same (a ∷ group) = λ i. record a { inserted = stamps_same a.inserted i; removed = removed_same a.removed i } ∷ group_same group i

groups_same : (groups : List (List (Action ℕ))) → map (with_stamps_in {T = ℕ} (λ s. s)) groups ≡ groups
groups_same [] = refl
groups_same (group ∷ groups) = λ i. group_same group i ∷ groups_same groups i

pub history_same : (h : UndoHistory ℕ) → renamed_by (λ s. s) h ≡ h
history_same h = λ i. record h {
  closed = groups_same h.closed i;
  current = group_same h.current i;
  undone = groups_same h.undone i;
}

-- ONE MORE CHARACTER THAT COMES BACK

pub return_here : (returns : List Return) (i : ℕ) (r : Return) → i < length returns → r ≡ get_or returns i r → drop i returns ≡ r ∷ drop (i + 1) returns
return_here returns i r l is = drop-cons returns i r l ∙ (λ j. sym is j ∷ drop (sym (add-one i) j) returns)

-- the one at an index, whatever stands for none
at_itself : (returns : List Return) (i : ℕ) (d : Return) → get_or returns i d ≡ get_or returns i (get_or returns i d)
at_itself [] i d = refl
at_itself (r ∷ returns) zero d = refl
at_itself (r ∷ returns) (suc i) d = at_itself returns i d

pub history_step : (returns : List Return) (i : ℕ) (d : Return) (old new start : UndoHistory ℕ) → i < length returns
    → new ≡ renamed_by (replaced (get_or returns i d).former (get_or returns i d).newer) old
    → renamed_by (stamp_after (drop i returns)) old ≡ start
    → renamed_by (stamp_after (drop (i + 1) returns)) new ≡ start
history_step returns i d old new start l e before =
    let r = get_or returns i d in
    let is = at_itself returns i d in
    ap (renamed_by (stamp_after (drop (i + 1) returns))) e
    ∙ history_twice (stamp_after (drop (i + 1) returns)) (replaced r.former r.newer) old
    ∙ ap (λ rs. renamed_by (stamp_after rs) old) (sym (return_here returns i r l is))
    ∙ before

pub moves_step : (returns : List Return) (i : ℕ) (d : Return) (old new : SpanMapValue Move) (start : Stamp → Bool) → i < length returns
    → ((s : Stamp) → is_moved new s ≡ back_with (get_or returns i d) (is_moved old) s)
    → ((s : Stamp) → back_after (drop i returns) (is_moved old) s ≡ start s)
    → (s : Stamp) → back_after (drop (i + 1) returns) (is_moved new) s ≡ start s
moves_step returns i d old new start l e before s =
    let r = get_or returns i d in
    let is = at_itself returns i d in
    (λ j. back_after (drop (i + 1) returns) (λ s. e s j) s)
    ∙ ap (λ rs. back_after rs (is_moved old) s) (sym (return_here returns i r l is))
    ∙ before s

pub return_now : (returns : List Return) (i : ℕ) (d : Return) (back : Stamp → Bool) → i < length returns → AreReturns back (drop i returns)
    → IsReturn back (get_or returns i d) × AreReturns (back_with (get_or returns i d) back) (drop (i + 1) returns)
return_now returns i d back l are = subst (AreReturns back) (return_here returns i (get_or returns i d) l (at_itself returns i d)) are

pub returns_step : (returns : List Return) (i : ℕ) (d : Return) (old new : SpanMapValue Move) → i < length returns
    → ((s : Stamp) → is_moved new s ≡ back_with (get_or returns i d) (is_moved old) s)
    → AreReturns (is_moved old) (drop i returns) → AreReturns (is_moved new) (drop (i + 1) returns)
returns_step returns i d old new l e are =
    subst (λ (back : Stamp → Bool). AreReturns back (drop (i + 1) returns)) (λ j s. sym (e s) j) (return_now returns i d (is_moved old) l are).1

-- none is left
none_left : (returns : List Return) (i : ℕ) → length returns ≤ i → drop i returns ≡ []
none_left [] zero l = refl
none_left [] (suc i) l = refl
none_left (r ∷ returns) zero l = absurd (omega arith)
none_left (r ∷ returns) (suc i) l = none_left returns i (omega arith)

pub history_end : (returns : List Return) (i : ℕ) (h : UndoHistory ℕ) → length returns ≤ i → h ≡ renamed_by (stamp_after (drop i returns)) h
history_end returns i h l = sym (ap (λ rs. renamed_by (stamp_after rs) h) (none_left returns i l) ∙ history_same h)

pub moves_end : (returns : List Return) (i : ℕ) (back : Stamp → Bool) (s : Stamp) → length returns ≤ i → back s ≡ back_after (drop i returns) back s
moves_end returns i back s l = sym (ap (λ rs. back_after rs back s) (none_left returns i l))

-- NAMES

removed_named : (t : TagStates) (f : Stamp → Stamp) (removed : List (Removed ℕ))
    → map (named_removed t) (map (restamped_one {T = ℕ} f) removed) ≡ map (restamped_one {T = List Word} f) (map (named_removed t) removed)
removed_named t f [] = refl
removed_named t f (r ∷ removed) = ap (λ l. record { stamp = f r.stamp; tags = names_on (state_at t r.tags) } ∷ l) (removed_named t f removed)

group_named : (t : TagStates) (f : Stamp → Stamp) (group : List (Action ℕ)) → named_group t (with_stamps_in f group) ≡ with_stamps_in f (named_group t group)
group_named t f [] = refl
group_named t f (a ∷ group) =
    λ i. record { number = a.number; kind = a.kind; inserted = map f a.inserted; removed = removed_named t f a.removed i } ∷ group_named t f group i

groups_named : (t : TagStates) (f : Stamp → Stamp) (groups : List (List (Action ℕ)))
    → map (named_group t) (map (with_stamps_in {T = ℕ} f) groups) ≡ map (with_stamps_in {T = List Word} f) (map (named_group t) groups)
groups_named t f [] = refl
groups_named t f (group ∷ groups) = λ i. group_named t f group i ∷ groups_named t f groups i

renamed_named : (t : TagStates) (f : Stamp → Stamp) (h : UndoHistory ℕ) → named_history t (renamed_by f h) ≡ renamed_by f (named_history t h)
renamed_named t f h = λ i. record {
  closed = groups_named t f h.closed i;
  current = group_named t f h.current i;
  undone = groups_named t f h.undone i;
  kept = h.kept;
  forced = h.forced;
  most = h.most;
}

undo_done_named : (t : TagStates) (reverted : List (Action ℕ)) (h : UndoHistory ℕ)
    → named_history t (undo_done reverted h) ≡ undo_done (named_group t reverted) (named_history t h)
undo_done_named t reverted h = λ i. record {
  closed = (sym (but_newest_map (named_group t) (to_undo h)) ∙ ap (λ l. but_newest l) (sym (to_undo_named t h))) i;
  current = [];
  undone = map-append (named_group t) h.undone (reverted ∷ []) i;
  kept = h.kept;
  forced = h.forced;
  most = h.most;
}

redo_done_named : (t : TagStates) (reverted : List (Action ℕ)) (h : UndoHistory ℕ)
    → named_history t (redo_done reverted h) ≡ redo_done (named_group t reverted) (named_history t h)
redo_done_named t reverted h =
    let all : UndoHistory ℕ = record h { closed = to_undo h ++ reverted ∷ []; current = []; undone = but_newest h.undone } in
    limited_named t all
    ∙ (λ i. limited (record {
      closed = (map-append (named_group t) (to_undo h) (reverted ∷ []) ∙ ap (λ l. l ++ named_group t reverted ∷ []) (sym (to_undo_named t h))) i;
      current = [];
      undone = sym (but_newest_map (named_group t) h.undone) i;
      kept = h.kept;
      forced = h.forced;
      most = h.most;
    }))

pub undone_is : (t : TagStates) (f : Stamp → Stamp) (reverted : List (Action ℕ)) (old between new : UndoHistory ℕ) → between ≡ renamed_by f old → new ≡ undo_done reverted between
    → named_history t new ≡ undo_done (named_group t reverted) (renamed_by f (named_history t old))
undone_is t f reverted old between new b e =
    ap (named_history t) e
    ∙ undo_done_named t reverted between
    ∙ ap (λ h. undo_done (named_group t reverted) (named_history t h)) b
    ∙ ap (undo_done (named_group t reverted)) (renamed_named t f old)

pub redone_is : (t : TagStates) (f : Stamp → Stamp) (reverted : List (Action ℕ)) (old between new : UndoHistory ℕ) → between ≡ renamed_by f old → new ≡ redo_done reverted between
    → named_history t new ≡ redo_done (named_group t reverted) (renamed_by f (named_history t old))
redone_is t f reverted old between new b e =
    ap (named_history t) e
    ∙ redo_done_named t reverted between
    ∙ ap (λ h. redo_done (named_group t reverted) (named_history t h)) b
    ∙ ap (redo_done (named_group t reverted)) (renamed_named t f old)

-- WHAT IS ASKED OF THE STACKS

some_map : {A B : Type 0} (f : A → B) (o : Option A) → is_some (option_map f o) ≡ is_some o
some_map f None = refl
some_map f (Some x) = refl

pub some_undo : (t : TagStates) (f : Stamp → Stamp) (old between : UndoHistory ℕ) → between ≡ renamed_by f old → is_some (next_undo (named_history t old)) ≡ true
    → is_some (next_undo between) ≡ true
some_undo t f old between b e =
    ap (λ h. is_some (next_undo h)) b
    ∙ ap (λ l. is_some (newest l)) (to_undo_renamed f old)
    ∙ ap (λ o. is_some o) (newest_map (with_stamps_in {T = ℕ} f) (to_undo old))
    ∙ some_map (with_stamps_in {T = ℕ} f) (newest (to_undo old))
    ∙ sym (some_map (named_group t) (newest (to_undo old)))
    ∙ sym (ap (λ o. is_some o) (newest_map (named_group t) (to_undo old)))
    ∙ sym (ap (λ l. is_some (newest l)) (to_undo_named t old))
    ∙ e

pub some_redo : (t : TagStates) (f : Stamp → Stamp) (old between : UndoHistory ℕ) → between ≡ renamed_by f old → is_some (next_redo (named_history t old)) ≡ true
    → is_some (next_redo between) ≡ true
some_redo t f old between b e =
    ap (λ h. is_some (next_redo h)) b
    ∙ ap (λ o. is_some o) (newest_map (with_stamps_in {T = ℕ} f) old.undone)
    ∙ some_map (with_stamps_in {T = ℕ} f) (newest old.undone)
    ∙ sym (some_map (named_group t) (newest old.undone))
    ∙ sym (ap (λ o. is_some o) (newest_map (named_group t) old.undone))
    ∙ e

removed_still : (t : TagStates) (back : Stamp → Bool) (removed : List (Removed ℕ)) → AllByRecursion (λ r. back r.stamp ≡ false) (map (named_removed t) removed)
    → AllByRecursion (λ r. back r.stamp ≡ false) removed
removed_still t back [] stays = tt
removed_still t back (r ∷ removed) stays = (stays.0, removed_still t back removed stays.1)

group_still : (t : TagStates) (moves : SpanMapValue Move) (group : List (Action ℕ)) → HaveStayed (is_moved moves) (named_group t group) → NoneMoves moves group
group_still t moves [] stay = tt
group_still t moves (a ∷ group) stay =
    (record { inserted = stay.0.inserted; removed = removed_still t (is_moved moves) a.removed stay.0.removed }, group_still t moves group stay.1)

pub still_after : (t : TagStates) (moves : SpanMapValue Move) (back : Stamp → Bool) (group : List (Action ℕ)) → ((s : Stamp) → is_moved moves s ≡ back s)
    → HaveStayed back (named_group t group) → NoneMoves moves group
still_after t moves back group e stay =
    group_still t moves group (subst (λ (b : Stamp → Bool). HaveStayed b (named_group t group)) (λ j s. sym (e s) j) stay)

removed_stayed : (t : TagStates) (back : Stamp → Bool) (removed : List (Removed ℕ)) → AllByRecursion (λ r. back r.stamp ≡ false) removed
    → AllByRecursion (λ r. back r.stamp ≡ false) (map (named_removed t) removed)
removed_stayed t back [] still = tt
removed_stayed t back (r ∷ removed) still = (still.0, removed_stayed t back removed still.1)

pub group_stayed : (t : TagStates) (moves : SpanMapValue Move) (group : List (Action ℕ)) → NoneMoves moves group → HaveStayed (is_moved moves) (named_group t group)
group_stayed t moves [] still = tt
group_stayed t moves (a ∷ group) still =
    (record { inserted = still.0.inserted; removed = removed_stayed t (is_moved moves) a.removed still.0.removed }, group_stayed t moves group still.1)

-- the next groups, with the names of tags
pub undo_named : (t : TagStates) (h : UndoHistory ℕ) → next_undo (named_history t h) ≡ option_map (named_group t) (next_undo h)
undo_named t h = ap (λ l. newest l) (to_undo_named t h) ∙ newest_map (named_group t) (to_undo h)

pub redo_named : (t : TagStates) (h : UndoHistory ℕ) → next_redo (named_history t h) ≡ option_map (named_group t) (next_redo h)
redo_named t h = newest_map (named_group t) h.undone

pub none_from : {A B : Type 0} (f : A → B) (o : Option A) → option_map f o ≡ None → o ≡ None
none_from f None e = refl
none_from f (Some x) e = absurd (cc e)

-- THE STATES OF TAGS

removed_given : (t : TagStates) (f : Stamp → Stamp) (removed : List (Removed ℕ)) → RemovedAreGiven t removed → RemovedAreGiven t (map (restamped_one {T = ℕ} f) removed)
removed_given t f [] given = tt
removed_given t f (r ∷ removed) given = (given.0, removed_given t f removed given.1)

group_given : (t : TagStates) (f : Stamp → Stamp) (group : List (Action ℕ)) → AreGiven t group → AreGiven t (with_stamps_in f group)
group_given t f [] given = tt
group_given t f (a ∷ group) given = (removed_given t f a.removed given.0, group_given t f group given.1)

groups_given : (t : TagStates) (f : Stamp → Stamp) (groups : List (List (Action ℕ))) → AllByRecursion (AreGiven t) groups
    → AllByRecursion (AreGiven t) (map (with_stamps_in {T = ℕ} f) groups)
groups_given t f [] given = tt
groups_given t f (group ∷ groups) given = (group_given t f group given.0, groups_given t f groups given.1)

pub given_renamed : (t : TagStates) (f : Stamp → Stamp) (h : UndoHistory ℕ) → HistoryIsGiven t h → HistoryIsGiven t (renamed_by f h)
given_renamed t f h given = record {
  closed = groups_given t f h.closed given.closed;
  current = group_given t f h.current given.current;
  undone = groups_given t f h.undone given.undone;
}

as_group_given : (t : TagStates) (group : List (Action ℕ)) → AreGiven t group → AllByRecursion (AreGiven t) (as_group group)
as_group_given t [] given = tt
as_group_given t (a ∷ group) given = (given, tt)

to_undo_given : (t : TagStates) (h : UndoHistory ℕ) → HistoryIsGiven t h → AllByRecursion (AreGiven t) (to_undo h)
to_undo_given t h given = every_append (AreGiven t) h.closed (as_group h.current) given.closed (as_group_given t h.current given.current)

pub given_undone : (t : TagStates) (reverted : List (Action ℕ)) (h : UndoHistory ℕ) → HistoryIsGiven t h → AreGiven t reverted → HistoryIsGiven t (undo_done reverted h)
given_undone t reverted h given r = record {
  closed = every_take (AreGiven t) (length (to_undo h) - 1) (to_undo h) (to_undo_given t h given);
  current = tt;
  undone = every_append (AreGiven t) h.undone (reverted ∷ []) given.undone (r, tt);
}

given_limited : (t : TagStates) (h : UndoHistory ℕ) → HistoryIsGiven t h → HistoryIsGiven t (limited h)
given_limited t h given = record { closed = every_drop (AreGiven t) (too_many h) h.closed given.closed; current = given.current; undone = given.undone }

pub given_redone : (t : TagStates) (reverted : List (Action ℕ)) (h : UndoHistory ℕ) → HistoryIsGiven t h → AreGiven t reverted → HistoryIsGiven t (redo_done reverted h)
given_redone t reverted h given r =
    let all : UndoHistory ℕ = record h { closed = to_undo h ++ reverted ∷ []; current = []; undone = but_newest h.undone } in
    given_limited t all (record {
      closed = every_append (AreGiven t) (to_undo h) (reverted ∷ []) (to_undo_given t h given) (r, tt);
      current = tt;
      undone = every_take (AreGiven t) (length h.undone - 1) h.undone given.undone;
    })
