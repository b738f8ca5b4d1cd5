-- Characters that are gone, each of which stands once among some.
use Rattle.std.proofs.Common.{◌≡◌, ◌∙◌, ℕ, ◌+◌, ◌≤◌, Bool, true, false, List, [], ◌∷◌, ◌++◌, cond, filter, length, map, ap, arith, refl, subst, sym}
use Rattle.std.specs.Prelude.{◌&&◌, drop, take}
use Rattle.std.specs.List.{flat_map}
use Rattle.std.proofs.lemmas.Grind.{flat_map-append}
use Rattle.std.proofs.lemmas.List.{map-append, take-append-drop}
use Rattle.rt_stamps.specs.declared.stamp.Stamp.{Stamp}
use Rattle.rt_stamps.specs.Stamps.{is_same, replaced}
use Rattle.rt_stamps.specs.Words.{Word}
use Rattle.rt_store.specs.Shown.{TaggedCell}
use Rattle.rt_undo.specs.Actions.{Action}
use Rattle.rt_undo.specs.Undo.{UndoHistory, as_group, asks_separator, forced_on, limited, recorded, separated, to_undo, too_many, with_action}
use Rattle.rt_recording.specs.Edits.{noted_by}
use Rattle.rt_recording.specs.Settled.{AreGoneOnce, removed_in_history, is_gone_cell, taken_by, times}

-- HOW OFTEN A STAMP STANDS AMONG SOME

pub times_append : (s : Stamp) (xs ys : List Stamp) → times s (xs ++ ys) ≡ times s xs + times s ys
times_append s [] ys = omega arith
times_append s (x ∷ xs) ys = by (is_same x s) (times_append s xs ys)
  where
    by : (b : Bool) → times s (xs ++ ys) ≡ times s xs + times s ys
        → length (cond b (x ∷ filter (λ t. is_same t s) (xs ++ ys)) (filter (λ t. is_same t s) (xs ++ ys))) ≡ length (cond b (x ∷ filter (λ t. is_same t s) xs) (filter (λ t. is_same t s) xs)) + times s ys
    by true e = omega (arith, e)
    by false e = e

-- under other stamps
abbrev pub times_by : Stamp → (Stamp → Stamp) → List Stamp → ℕ
times_by s f xs = times s (map f xs)

pub by_append : (s : Stamp) (f : Stamp → Stamp) (xs ys : List Stamp) → times_by s f (xs ++ ys) ≡ times_by s f xs + times_by s f ys
by_append s f xs ys = ap (times s) (map-append f xs ys) ∙ times_append s (map f xs) (map f ys)

-- one that doesn't stand among some needs no other in its stead
pub none_replaced : (former newer : Stamp) (xs : List Stamp) → times former xs ≡ 0 → map (replaced former newer) xs ≡ xs
none_replaced former newer [] h = refl
none_replaced former newer (x ∷ xs) h = by (is_same x former) h (none_replaced former newer xs)
  where
    by : (b : Bool) → length (cond b (x ∷ filter (λ t. is_same t former) xs) (filter (λ t. is_same t former) xs)) ≡ 0 → (times former xs ≡ 0 → map (replaced former newer) xs ≡ xs)
        → cond b newer x ∷ map (replaced former newer) xs ≡ x ∷ xs
    by true e rest = absurd (cc e)
    by false e rest = ap (λ l. x ∷ l) (rest e)

-- GONE ONCE

abbrev pub one_if : Bool → ℕ
one_if b = cond b 1 0

-- fewer of them
pub once_fewer : (cells : List TaggedCell) (xs ys : List Stamp) → ((s : Stamp) → times s xs ≤ times s ys) → AreGoneOnce cells ys → AreGoneOnce cells xs
once_fewer cells xs ys few once = λ s. omega (arith, few s, once s)

-- while those that are gone stay so
pub once_grown : (old new : List TaggedCell) (xs : List Stamp) → ((s : Stamp) → is_gone_cell old s ≡ true → is_gone_cell new s ≡ true) → AreGoneOnce old xs → AreGoneOnce new xs
once_grown old new xs stay once = λ s. by s (is_gone_cell old s) refl (once s)
  where
    by : (s : Stamp) (b : Bool) → is_gone_cell old s ≡ b → times s xs ≤ one_if b → times s xs ≤ one_if (is_gone_cell new s)
    by s true e h = subst (λ b. times s xs ≤ one_if b) (sym (stay s e)) h
    by s false e h = omega (arith, h)

-- stamps of characters that went: visible in one text, and gone in another
abbrev pub HaveGone : List TaggedCell → List TaggedCell → List Stamp → Type 0
HaveGone old new xs = (s : Stamp) → times s xs ≤ cond (is_gone_cell old s) 0 (one_if (is_gone_cell new s))

-- those that went join those that were gone
pub once_more : (old new : List TaggedCell) (xs more : List Stamp) → ((s : Stamp) → is_gone_cell old s ≡ true → is_gone_cell new s ≡ true) → AreGoneOnce old xs → HaveGone old new more
    → AreGoneOnce new (xs ++ more)
once_more old new xs more stay once went = λ s. by s (is_gone_cell old s) refl (once s) (went s)
  where
    by : (s : Stamp) (b : Bool) → is_gone_cell old s ≡ b → times s xs ≤ one_if b → times s more ≤ cond b 0 (one_if (is_gone_cell new s)) → times s (xs ++ more) ≤ one_if (is_gone_cell new s)
    by s true e h k = subst (λ b. times s (xs ++ more) ≤ one_if b) (sym (stay s e)) (let both = times_append s xs more in omega (arith, h, k, both))
    by s false e h k = let both = times_append s xs more in omega (arith, h, k, both)

-- HISTORIES

pub taken_append : (one other : List (Action (List Word))) → taken_by (one ++ other) ≡ taken_by one ++ taken_by other
taken_append one other = flat_map-append (λ (action : Action (List Word)). map (λ r. r.stamp) action.removed) one other

pub groups_append : (one other : List (List (Action (List Word)))) → flat_map taken_by (one ++ other) ≡ flat_map taken_by one ++ flat_map taken_by other
groups_append one other = flat_map-append taken_by one other

-- how often it stands among those that actions took, that groups did, and that a history did
abbrev pub in_group : Stamp → List (Action (List Word)) → ℕ
in_group s group = times s (taken_by group)

abbrev pub in_groups : Stamp → List (List (Action (List Word))) → ℕ
in_groups s groups = times s (flat_map taken_by groups)

pub in_append : (s : Stamp) (one other : List (Action (List Word))) → in_group s (one ++ other) ≡ in_group s one + in_group s other
in_append s one other = ap (times s) (taken_append one other) ∙ times_append s (taken_by one) (taken_by other)

pub in_groups_append : (s : Stamp) (one other : List (List (Action (List Word)))) → in_groups s (one ++ other) ≡ in_groups s one + in_groups s other
in_groups_append s one other = ap (times s) (groups_append one other) ∙ times_append s (flat_map taken_by one) (flat_map taken_by other)

pub in_one : (s : Stamp) (group : List (Action (List Word))) → in_groups s (group ∷ []) ≡ in_group s group
in_one s group = let all = times_append s (taken_by group) [] in omega (arith, all)

pub in_history : (s : Stamp) (h : UndoHistory (List Word)) → times s (removed_in_history h) ≡ in_groups s h.closed + in_group s h.current + in_groups s h.undone
in_history s h =
    let first = times_append s (flat_map taken_by h.closed) (taken_by h.current ++ flat_map taken_by h.undone) in
    let rest = times_append s (taken_by h.current) (flat_map taken_by h.undone) in
    omega (arith, first, rest)

pub in_as_group : (s : Stamp) (group : List (Action (List Word))) → in_groups s (as_group group) ≡ in_group s group
in_as_group s [] = refl
in_as_group s (action ∷ group) = in_one s (action ∷ group)

pub in_to_undo : (s : Stamp) (h : UndoHistory (List Word)) → in_groups s (to_undo h) ≡ in_groups s h.closed + in_group s h.current
in_to_undo s h = let all = in_groups_append s h.closed (as_group h.current) in let group = in_as_group s h.current in omega (arith, all, group)

-- a separator takes nothing
pub in_separated : (s : Stamp) (h : UndoHistory (List Word)) → times s (removed_in_history (separated h)) ≡ times s (removed_in_history h)
in_separated s h =
    let new = in_history s (separated h) in
    let old = in_history s h in
    let undo = in_to_undo s h in
    omega (arith, new, old, undo)

-- groups are dropped
pub in_limited : (s : Stamp) (h : UndoHistory (List Word)) → times s (removed_in_history (limited h)) ≤ times s (removed_in_history h)
in_limited s h =
    let n = too_many h in
    let new = in_history s (limited h) in
    let old = in_history s h in
    let parts = in_groups_append s (take n h.closed) (drop n h.closed) in
    let whole = ap (in_groups s) (take-append-drop n h.closed) in
    omega (arith, new, old, parts, whole)

-- an action is recorded, or not
pub in_recorded : (s : Stamp) (action : Action (List Word)) (h : UndoHistory (List Word)) → times s (removed_in_history (recorded action h)) ≤ times s (removed_in_history h ++ map (λ r. r.stamp) action.removed)
in_recorded s action h =
    let new = in_history s (recorded action h) in
    let old = in_history s h in
    let all = in_append s h.current (action ∷ []) in
    let one = times_append s (map (λ r. r.stamp) action.removed) [] in
    let both = times_append s (removed_in_history h) (map (λ r. r.stamp) action.removed) in
    omega (arith, new, old, all, one, both)

pub in_added : (s : Stamp) (auto : Bool) (action : Action (List Word)) (h : UndoHistory (List Word)) → times s (removed_in_history (with_action auto action h)) ≤ times s (removed_in_history h ++ map (λ r. r.stamp) action.removed)
in_added s auto action h =
    let fewer = in_limited s (recorded action (cond (auto && asks_separator action.kind h) (separated h) h)) in
    let all = by (auto && asks_separator action.kind h) in
    omega (arith, fewer, all)
  where
    by : (b : Bool) → times s (removed_in_history (recorded action (cond b (separated h) h))) ≤ times s (removed_in_history h ++ map (λ r. r.stamp) action.removed)
    by false = in_recorded s action h
    by true =
        let more = in_recorded s action (separated h) in
        let same = in_separated s h in
        let one = times_append s (removed_in_history (separated h)) (map (λ r. r.stamp) action.removed) in
        let other = times_append s (removed_in_history h) (map (λ r. r.stamp) action.removed) in
        omega (arith, more, same, one, other)

pub in_noted : (s : Stamp) (changed undo auto : Bool) (action : Action (List Word)) (h : UndoHistory (List Word))
    → times s (removed_in_history (noted_by changed undo auto action h)) ≤ times s (removed_in_history h ++ map (λ r. r.stamp) action.removed)
in_noted s true true auto action h = in_added s auto action h
in_noted s true false auto action h = let both = times_append s (removed_in_history h) (map (λ r. r.stamp) action.removed) in let old = in_history s h in let new = in_history s (forced_on h) in omega (arith, both, old, new)
in_noted s false undo auto action h = let both = times_append s (removed_in_history h) (map (λ r. r.stamp) action.removed) in omega (arith, both)
