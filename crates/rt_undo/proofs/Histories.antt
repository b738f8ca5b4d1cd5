-- Histories with other stamps in the place of their own.
use Rattle.std.proofs.Common.{◌≡◌, ◌∙◌, ℕ, suc, ◌-◌, ◌≤◌, ◌++◌, ◌||◌, ◌&&◌, ◌==◌, Bool, true, false, List, [], ◌∷◌, Option, Some, None, Result, Ok, Err, map, length, take, drop, nat_eq, length-drop, option_map, slice_get, ap, sym, refl, arith, cond, append-nil, append_assoc, if◌then◌else◌}
use Rattle.std.specs.List.{AllByRecursion}
use Rattle.std.specs.Result.{IfOk, IsOkUnless}
use Rattle.std.specs.declared.vec.Vec.{Vec}
use Rattle.std.specs.declared.alloc.Global.{Global}
use Rattle.std.proofs.lemmas.Bool.Decides.{nat_tests}
use Rattle.std.proofs.lemmas.Simd.{map-map}
use Rattle.std.proofs.lemmas.List.{map-append, length-map, take-map}
use Rattle.std.proofs.lemmas.Option.{slice_get-map}
use Rattle.rt_stamps.specs.declared.fault.Fault.{Fault}
use Rattle.rt_stamps.specs.declared.fault.Fault.TheVariants.{NoMemory}
use Rattle.rt_stamps.specs.declared.stamp.Span.{Span}
use Rattle.rt_stamps.specs.declared.stamp.Stamp.{Stamp}
use Rattle.rt_undo.specs.declared.action.Action.{Action as KeptAction}
use Rattle.rt_undo.specs.declared.action.Kind.{Kind}
use Rattle.rt_undo.specs.declared.renames.Move.{Move}
use Rattle.rt_undo.specs.Actions.{Action, Removed, group_of, is_replace, restamped, restamped_one}
use Rattle.rt_undo.specs.Groups.{IsStill, NoneMoves, groups_of, numbers_of, numbers_of_groups}
use Rattle.rt_undo.specs.Renames.{SpanMapValue, is_moved, now_of, renamed, value_of}
use Rattle.rt_undo.specs.Undo.{UndoHistory, as_group, asks_separator, but_newest, renamed_span, differs_from, newest, next_redo, next_undo, numbers, numbers_in, recorded, renamed_by, rest_after, separated, to_undo, undo_done, with_stamps_in, same_numbers}
use Rattle.rt_undo.proofs.Following.{by_test, none_of, now_ends}

-- TWICE

stamps_twice : (g f : Stamp → Stamp) (a : Action ℕ) → restamped g (restamped f a) ≡ restamped (λ s. g (f s)) a
stamps_twice g f a = λ i. record a {
  inserted = map-map g f a.inserted i;
  removed = map-map (restamped_one {T = ℕ} g) (restamped_one {T = ℕ} f) a.removed i;
}

group_twice : (g f : Stamp → Stamp) (group : List (Action ℕ)) → with_stamps_in g (with_stamps_in f group) ≡ with_stamps_in (λ s. g (f s)) group
group_twice g f [] = refl
group_twice g f (a ∷ group) = λ i. stamps_twice g f a i ∷ group_twice g f group i

groups_twice : (g f : Stamp → Stamp) (groups : List (List (Action ℕ)))
    → map (with_stamps_in {T = ℕ} g) (map (with_stamps_in {T = ℕ} f) groups) ≡ map (with_stamps_in {T = ℕ} (λ s. g (f s))) groups
groups_twice g f [] = refl
groups_twice g f (group ∷ groups) = λ i. group_twice g f group i ∷ groups_twice g f groups i

history_twice : (g f : Stamp → Stamp) (h : UndoHistory ℕ) → renamed_by g (renamed_by f h) ≡ renamed_by (λ s. g (f s)) h
history_twice g f h = λ i. record h {
  closed = groups_twice g f h.closed i;
  current = group_twice g f h.current i;
  undone = groups_twice g f h.undone i;
}

-- characters come back
pub history_came_back : (former : Span) (newer : Stamp) (old new : SpanMapValue Move) (h : UndoHistory ℕ) → ((s : Stamp) → now_of new s ≡ renamed former newer (now_of old s))
    → renamed_by (now_of new) h ≡ renamed_span former newer (renamed_by (now_of old) h)
history_came_back former newer old new h e =
    (λ i. renamed_by (λ s. e s i) h) ∙ sym (history_twice (renamed former newer) (now_of old) h)

pub history_same : (old new : SpanMapValue Move) (h : UndoHistory ℕ) → ((s : Stamp) → now_of new s ≡ now_of old s) → renamed_by (now_of new) h ≡ renamed_by (now_of old) h
history_same old new h e = λ i. renamed_by (λ s. e s i) h

-- STAMPS THAT STAY

stamps_still : (moves : SpanMapValue Move) (stamps : List Stamp) → AllByRecursion (λ s. is_moved moves s ≡ false) stamps → map (now_of moves) stamps ≡ stamps
stamps_still moves [] still = refl
stamps_still moves (s ∷ stamps) still =
    λ i. now_ends moves s (none_of (value_of moves s) still.0) i ∷ stamps_still moves stamps still.1 i

removed_still : (moves : SpanMapValue Move) (removed : List (Removed ℕ)) → AllByRecursion (λ r. is_moved moves r.stamp ≡ false) removed
    → map (restamped_one {T = ℕ} (now_of moves)) removed ≡ removed
removed_still moves [] still = refl
removed_still moves (r ∷ removed) still =
    λ i. record r { stamp = now_ends moves r.stamp (none_of (value_of moves r.stamp) still.0) i } ∷ removed_still moves removed still.1 i

pub action_still : (moves : SpanMapValue Move) (a : Action ℕ) → IsStill moves a → restamped (now_of moves) a ≡ a
action_still moves a still = λ i. record a {
  inserted = stamps_still moves a.inserted still.inserted i;
  removed = removed_still moves a.removed still.removed i;
}

pub group_still : (moves : SpanMapValue Move) (group : List (Action ℕ)) → NoneMoves moves group → with_stamps_in (now_of moves) group ≡ group
group_still moves [] still = refl
group_still moves (a ∷ group) still = λ i. action_still moves a still.0 i ∷ group_still moves group still.1 i

-- STACKS

pub as_group_renamed : (f : Stamp → Stamp) (group : List (Action ℕ)) → as_group (with_stamps_in f group) ≡ map (with_stamps_in {T = ℕ} f) (as_group group)
as_group_renamed f [] = refl
as_group_renamed f (a ∷ group) = refl

pub to_undo_renamed : (f : Stamp → Stamp) (h : UndoHistory ℕ) → to_undo (renamed_by f h) ≡ map (with_stamps_in {T = ℕ} f) (to_undo h)
to_undo_renamed f h =
    ap (λ l. map (with_stamps_in {T = ℕ} f) h.closed ++ l) (as_group_renamed f h.current)
    ∙ sym (map-append (with_stamps_in {T = ℕ} f) h.closed (as_group h.current))

pub but_newest_map : {X Y : Type 0} (g : X → Y) (xs : List X) → but_newest (map g xs) ≡ map g (but_newest xs)
but_newest_map g xs = ap (λ n. take (n - 1) (map g xs)) (length-map xs g) ∙ take-map g (length xs - 1) xs

pub newest_map : {X Y : Type 0} (g : X → Y) (xs : List X) → newest (map g xs) ≡ option_map g (newest xs)
newest_map g xs = ap (λ n. slice_get (map g xs) (n - 1)) (length-map xs g) ∙ slice_get-map g xs (length xs - 1)

one_more : (f : Stamp → Stamp) (groups : List (List (Action ℕ))) (group : List (Action ℕ)) → with_stamps_in f group ≡ group
    → map (with_stamps_in {T = ℕ} f) (groups ++ group ∷ []) ≡ map (with_stamps_in {T = ℕ} f) groups ++ group ∷ []
one_more f groups group still =
    map-append (with_stamps_in {T = ℕ} f) groups (group ∷ []) ∙ ap (λ g. map (with_stamps_in {T = ℕ} f) groups ++ g ∷ []) still

pub undo_renamed : (f : Stamp → Stamp) (reverted : List (Action ℕ)) (h : UndoHistory ℕ) → with_stamps_in f reverted ≡ reverted
    → renamed_by f (undo_done reverted h) ≡ undo_done reverted (renamed_by f h)
undo_renamed f reverted h still = λ i. record h {
  closed = (sym (but_newest_map (with_stamps_in {T = ℕ} f) (to_undo h)) ∙ ap (λ l. but_newest l) (sym (to_undo_renamed f h))) i;
  current = [];
  undone = one_more f h.undone reverted still i;
}

-- a reverted group is on the undo stack
abbrev pub put_back : List (Action ℕ) → UndoHistory ℕ → UndoHistory ℕ
put_back reverted h = record h { closed = to_undo h ++ reverted ∷ []; current = []; undone = but_newest h.undone }

pub put_back_renamed : (f : Stamp → Stamp) (reverted : List (Action ℕ)) (h : UndoHistory ℕ) → with_stamps_in f reverted ≡ reverted
    → renamed_by f (put_back reverted h) ≡ put_back reverted (renamed_by f h)
put_back_renamed f reverted h still = λ i. record h {
  closed = (one_more f (to_undo h) reverted still ∙ ap (λ l. l ++ reverted ∷ []) (sym (to_undo_renamed f h))) i;
  current = [];
  undone = sym (but_newest_map (with_stamps_in {T = ℕ} f) h.undone) i;
}

pub separated_renamed : (f : Stamp → Stamp) (h : UndoHistory ℕ) → renamed_by f (separated h) ≡ separated (renamed_by f h)
separated_renamed f h = λ i. record h {
  closed = sym (to_undo_renamed f h) i;
  current = [];
  undone = map (with_stamps_in {T = ℕ} f) h.undone;
}

recorded_renamed : (f : Stamp → Stamp) (a : Action ℕ) (h : UndoHistory ℕ) → restamped f a ≡ a → renamed_by f (recorded a h) ≡ recorded a (renamed_by f h)
recorded_renamed f a h still = λ i. record h {
  closed = map (with_stamps_in {T = ℕ} f) h.closed;
  current = (map-append (restamped {T = ℕ} f) h.current (a ∷ []) ∙ ap (λ x. with_stamps_in f h.current ++ x ∷ []) still) i;
  undone = [];
}

differs_renamed : (f : Stamp → Stamp) (kind : Kind) (o : Option (Action ℕ)) → differs_from kind (option_map (restamped {T = ℕ} f) o) ≡ differs_from kind o
differs_renamed f kind None = refl
differs_renamed f kind (Some a) = refl

asks_renamed : (f : Stamp → Stamp) (kind : Kind) (h : UndoHistory ℕ) → asks_separator kind (renamed_by f h) ≡ asks_separator kind h
asks_renamed f kind h =
    ap (λ o. is_replace kind || differs_from kind o) (newest_map (restamped {T = ℕ} f) h.current)
    ∙ ap (λ b. is_replace kind || b) (differs_renamed f kind (newest h.current))

begun_renamed : (f : Stamp → Stamp) (b : Bool) (h : UndoHistory ℕ) → renamed_by f (if b then separated h else h) ≡ (if b then separated (renamed_by f h) else renamed_by f h)
begun_renamed f true h = separated_renamed f h
begun_renamed f false h = refl

-- an action is recorded, with automatic separators or without
abbrev pub recorded_with : Bool → Action ℕ → UndoHistory ℕ → UndoHistory ℕ
recorded_with auto a h = recorded a (if auto && asks_separator a.kind h then separated h else h)

pub recorded_with_renamed : (f : Stamp → Stamp) (auto : Bool) (a : Action ℕ) (h : UndoHistory ℕ) → restamped f a ≡ a
    → renamed_by f (recorded_with auto a h) ≡ recorded_with auto a (renamed_by f h)
recorded_with_renamed f auto a h still =
    recorded_renamed f a (if auto && asks_separator a.kind h then separated h else h) still
    ∙ ap (recorded a) (begun_renamed f (auto && asks_separator a.kind h) h)
    ∙ ap (λ b. recorded a (if auto && b then separated (renamed_by f h) else renamed_by f h)) (sym (asks_renamed f a.kind h))

-- NUMBERS

numbers_group_renamed : (f : Stamp → Stamp) (group : List (Action ℕ)) → map (λ a. a.number) (with_stamps_in f group) ≡ map (λ a. a.number) group
numbers_group_renamed f [] = refl
numbers_group_renamed f (a ∷ group) = ap (λ l. a.number ∷ l) (numbers_group_renamed f group)

pub numbers_groups_renamed : (f : Stamp → Stamp) (groups : List (List (Action ℕ))) → numbers_in (map (with_stamps_in {T = ℕ} f) groups) ≡ numbers_in groups
numbers_groups_renamed f [] = refl
numbers_groups_renamed f (group ∷ groups) = λ i. numbers_group_renamed f group i ++ numbers_groups_renamed f groups i

numbers_kept_group : (actions : List KeptAction) → map (λ a. a.number) (group_of actions) ≡ numbers_of actions
numbers_kept_group [] = refl
numbers_kept_group (a ∷ actions) = ap (λ l. a.number ∷ l) (numbers_kept_group actions)

numbers_kept_current : (actions : List KeptAction) → numbers_in (as_group (group_of actions)) ≡ numbers_of actions
numbers_kept_current [] = refl
numbers_kept_current (a ∷ actions) = append-nil (map (λ x. x.number) (group_of (a ∷ actions))) ∙ numbers_kept_group (a ∷ actions)

numbers_kept : (groups : List (Vec KeptAction Global)) (current : List KeptAction)
    → numbers_in (groups_of groups ++ as_group (group_of current)) ≡ numbers_of_groups groups ++ numbers_of current
numbers_kept [] current = numbers_kept_current current
numbers_kept (g ∷ groups) current =
    (λ i. numbers_kept_group g.items i ++ numbers_kept groups current i)
    ∙ sym (append_assoc (numbers_of g.items) (numbers_of_groups groups) (numbers_of current))

-- the numbers of what can be undone, as they are kept
pub numbers_are : (f : Stamp → Stamp) (groups : List (Vec KeptAction Global)) (current : List KeptAction) (h : UndoHistory ℕ)
    → numbers (renamed_by f (record h { closed = groups_of groups; current = group_of current })) ≡ numbers_of_groups groups ++ numbers_of current
numbers_are f groups current h =
    ap (λ l. numbers_in l) (to_undo_renamed f (record h { closed = groups_of groups; current = group_of current }))
    ∙ numbers_groups_renamed f (groups_of groups ++ as_group (group_of current))
    ∙ numbers_kept groups current

pub numbers_closed : (groups : List (Vec KeptAction Global)) → numbers_in (groups_of groups) ≡ numbers_of_groups groups
numbers_closed [] = refl
numbers_closed (g ∷ groups) = λ i. numbers_kept_group g.items i ++ numbers_closed groups i

-- A LIST THAT BEGINS WITH NUMBERS

pub some_of : (a b : List ℕ) → Some a ≡ Some b → a ≡ b
some_of a b e = cc

abbrev pub is_empty : List ℕ → Bool
is_empty [] = true
is_empty (x ∷ xs) = false

abbrev pub is_all : Option (List ℕ) → Bool
is_all None = false
is_all (Some rest) = is_empty rest

pub rest_then : (xs ys kept : List ℕ) (rest : List ℕ) → rest_after xs kept ≡ Some rest → rest_after (xs ++ ys) kept ≡ rest_after ys rest
rest_then [] ys kept rest e = ap (rest_after ys) (some_of kept rest e)
rest_then (x ∷ xs) ys [] rest e = cc
rest_then (x ∷ xs) ys (k ∷ kept) rest e = by_test (x == k)
    (λ yes. ap (λ b. cond b (rest_after (xs ++ ys) kept) None) yes ∙ rest_then xs ys kept rest (sym (ap (λ b. cond b (rest_after xs kept) None) yes) ∙ e))
    (λ no. let none : None ≡ Some rest = sym (ap (λ b. cond b (rest_after xs kept) None) no) ∙ e in cc)

pub rest_none : (xs ys kept : List ℕ) → rest_after xs kept ≡ None → rest_after (xs ++ ys) kept ≡ None
rest_none [] ys kept e = cc
rest_none (x ∷ xs) ys [] e = refl
rest_none (x ∷ xs) ys (k ∷ kept) e = by_test (x == k)
    (λ yes. ap (λ b. cond b (rest_after (xs ++ ys) kept) None) yes ∙ rest_none xs ys kept (sym (ap (λ b. cond b (rest_after xs kept) None) yes) ∙ e))
    (λ no. ap (λ b. cond b (rest_after (xs ++ ys) kept) None) no)

pub same_rest : (xs kept : List ℕ) → same_numbers xs kept ≡ is_all (rest_after xs kept)
same_rest [] [] = refl
same_rest [] (k ∷ kept) = refl
same_rest (x ∷ xs) [] = refl
same_rest (x ∷ xs) (k ∷ kept) = by_test (x == k)
    (λ yes. ap (λ b. b && same_numbers xs kept) yes ∙ same_rest xs kept ∙ sym (ap (λ b. is_all (cond b (rest_after xs kept) None)) yes))
    (λ no. ap (λ b. b && same_numbers xs kept) no ∙ sym (ap (λ b. is_all (cond b (rest_after xs kept) None)) no))

false_true : false ≡ true → ⊥
false_true e = cc

never_zero : (n : ℕ) → false ≡ nat_eq (suc n) 0
never_zero n = grind (arith, nat_tests)

empty_length : (xs : List ℕ) → is_empty xs ≡ nat_eq (length xs) 0
empty_length [] = refl
empty_length (x ∷ xs) = never_zero (length xs)

no_difference : (m n : ℕ) → m ≤ n → nat_eq (n - m) 0 ≡ nat_eq m n
no_difference m n l = grind (arith, nat_tests)

pub empty_drop : (n : ℕ) (xs : List ℕ) → n ≤ length xs → is_empty (drop n xs) ≡ nat_eq n (length xs)
empty_drop n xs l = empty_length (drop n xs) ∙ ap (λ k. nat_eq k 0) (length-drop n xs) ∙ no_difference n (length xs) l

-- a group more
pub groups_more : (groups : List (Vec KeptAction Global)) (group : Vec KeptAction Global) → groups_of (groups ++ group ∷ []) ≡ groups_of groups ++ group_of group.items ∷ []
groups_more groups group = map-append (λ g. group_of g.items) groups (group ∷ [])

-- UNDO AND REDO

pub undo_is : (f : Stamp → Stamp) (h : UndoHistory ℕ) (group : List (Action ℕ)) → newest (to_undo h) ≡ Some group → next_undo (renamed_by f h) ≡ Some (with_stamps_in f group)
undo_is f h group e = ap (λ l. newest l) (to_undo_renamed f h) ∙ newest_map (with_stamps_in {T = ℕ} f) (to_undo h) ∙ ap (option_map (with_stamps_in {T = ℕ} f)) e

pub redo_is : (f : Stamp → Stamp) (h : UndoHistory ℕ) (group : List (Action ℕ)) → newest (h.undone ++ []) ≡ Some group → next_redo (renamed_by f h) ≡ Some (with_stamps_in f group)
redo_is f h group e =
    newest_map (with_stamps_in {T = ℕ} f) h.undone ∙ ap (option_map (with_stamps_in {T = ℕ} f)) (ap (λ l. newest l) (sym (append-nil h.undone)) ∙ e)

-- what is said of a value of a result, and what follows from it
pub if_ok : {A E : Type 0} {P Q : A → Type 0} (r : Result A E) → ((x : A) → P x → Q x) → IfOk r P → IfOk r Q
if_ok (Ok x) f p = f x p
if_ok (Err e) f p = tt

pub only_memory : {A : Type 0} (r : Result A Fault) (other : Fault) → (NoMemory ≡ other → ⊥) → IsOkUnless r NoMemory → r ≡ Err other → ⊥
only_memory (Ok x) other differs e is = cc
only_memory (Err fault) other differs e is = let same : fault ≡ other = cc in differs (sym e ∙ same)

pub last_closed : (closed : List (Vec KeptAction Global)) (current : List KeptAction) (group : Vec KeptAction Global) → nat_eq (length current) 0 ≡ true
    → Some group ≡ slice_get closed (length closed - 1) → Some (group_of group.items) ≡ newest (groups_of closed ++ as_group (group_of current))
last_closed closed [] group none e =
    sym (ap (λ l. newest l) (append-nil (groups_of closed)) ∙ newest_map (λ g. group_of g.items) closed ∙ ap (option_map (λ g. group_of g.items)) (sym e))
last_closed closed (a ∷ current) group none e = absurd (false_true (never_zero (length current) ∙ none))

pub none_or_some : {A : Type 0} {x : A} → None ≡ Some x → ⊥
none_or_some e = cc
