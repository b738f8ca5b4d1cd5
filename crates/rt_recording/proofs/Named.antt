-- Histories with the names of tags.
use Rattle.std.proofs.Common.{◌≡◌, ◌∙◌, ℕ, ◌-◌, ◌++◌, ◌||◌, ◌&&◌, ◌==◌, Bool, true, false, List, [], ◌∷◌, Option, Some, None, is_some, length, map, take, option_map, ap, sym, refl, subst, not, append-nil, if◌then◌else◌}
use Rattle.std.specs.Prelude.{IfSome, unwrap_or}
use Rattle.std.specs.List.{AllByRecursion}
use Rattle.std.specs.declared.vec.Vec.{Vec}
use Rattle.std.specs.declared.alloc.Global.{Global}
use Rattle.std.proofs.lemmas.List.{drop-map, length-map, map-append, take-map}
use Rattle.rt_stamps.specs.declared.stamp.Span.{Span}
use Rattle.rt_stamps.specs.Words.{Word}
use Rattle.rt_ops.specs.Operations.{stamps_in, stamps_of_span}
use Rattle.rt_tags.specs.States.{KeepsIds, TagStates, names_on}
use Rattle.rt_undo.specs.declared.action.Kind.{Kind}
use Rattle.rt_undo.specs.declared.renames.Move.{Move}
use Rattle.rt_undo.specs.Actions.{Action, Removed, action_of, is_replace, removed_in}
use Rattle.rt_undo.specs.Groups.{IsStill}
use Rattle.rt_undo.specs.Renames.{SpanMapValue, is_moved}
use Rattle.rt_undo.specs.Seen.{UndoStacks}
use Rattle.rt_undo.specs.Undo.{UndoHistory, as_group, asks_separator, differs_from, dropped, emptied, forced_on, is_modified, newest, limited, numbers, numbers_in, recorded, rest_after, same_numbers, separated, to_undo, too_many, unmodified, with_action, with_most}
use Rattle.rt_undo.proofs.Histories.{newest_map}
use Rattle.rt_recording.specs.declared.recorder.Prepared.{Prepared}
use Rattle.rt_recording.specs.declared.recorder.Recorder.TheInside.{Inside}
use Rattle.rt_recording.specs.Naming.{AreGiven, HistoryIsGiven, RemovedAreGiven, named_action, named_group, named_history, named_removed}
use Rattle.rt_recording.specs.Recordings.{HasStayed, Recording, span_action}
use Rattle.rt_recording.specs.Seen.{IsRecorder, IsPrepared, recording_of}

-- STACKS

as_group_named : (t : TagStates) (group : List (Action ℕ)) → as_group (named_group t group) ≡ map (named_group t) (as_group group)
as_group_named t [] = refl
as_group_named t (a ∷ group) = refl

pub to_undo_named : (t : TagStates) (h : UndoHistory ℕ) → to_undo (named_history t h) ≡ map (named_group t) (to_undo h)
to_undo_named t h = ap (λ l. map (named_group t) h.closed ++ l) (as_group_named t h.current) ∙ sym (map-append (named_group t) h.closed (as_group h.current))

pub separated_named : (t : TagStates) (h : UndoHistory ℕ) → named_history t (separated h) ≡ separated (named_history t h)
separated_named t h = λ i. record {
  closed = sym (to_undo_named t h) i;
  current = [];
  undone = map (named_group t) h.undone;
  kept = h.kept;
  forced = h.forced;
  most = h.most;
}

recorded_named : (t : TagStates) (a : Action ℕ) (h : UndoHistory ℕ) → named_history t (recorded a h) ≡ recorded (named_action t a) (named_history t h)
recorded_named t a h = λ i. record {
  closed = map (named_group t) h.closed;
  current = map-append (named_action t) h.current (a ∷ []) i;
  undone = [];
  kept = h.kept;
  forced = h.forced;
  most = h.most;
}

differs_named : (t : TagStates) (kind : Kind) (o : Option (Action ℕ)) → differs_from kind (option_map (named_action t) o) ≡ differs_from kind o
differs_named t kind None = refl
differs_named t kind (Some a) = refl

asks_named : (t : TagStates) (kind : Kind) (h : UndoHistory ℕ) → asks_separator kind (named_history t h) ≡ asks_separator kind h
asks_named t kind h =
    ap (λ o. is_replace kind || differs_from kind o) (newest_map (named_action t) h.current)
    ∙ ap (λ b. is_replace kind || b) (differs_named t kind (newest h.current))

begun_named : (t : TagStates) (b : Bool) (h : UndoHistory ℕ) → named_history t (if b then separated h else h) ≡ (if b then separated (named_history t h) else named_history t h)
begun_named t true h = separated_named t h
begun_named t false h = refl

-- NUMBERS

numbers_group : (t : TagStates) (group : List (Action ℕ)) → map (λ a. a.number) (named_group t group) ≡ map (λ a. a.number) group
numbers_group t [] = refl
numbers_group t (a ∷ group) = ap (λ l. a.number ∷ l) (numbers_group t group)

numbers_groups : (t : TagStates) (groups : List (List (Action ℕ))) → numbers_in (map (named_group t) groups) ≡ numbers_in groups
numbers_groups t [] = refl
numbers_groups t (group ∷ groups) = λ i. numbers_group t group i ++ numbers_groups t groups i

pub numbers_named : (t : TagStates) (h : UndoHistory ℕ) → numbers (named_history t h) ≡ numbers h
numbers_named t h = ap (λ l. numbers_in l) (to_undo_named t h) ∙ numbers_groups t (to_undo h)

pub modified_named : (t : TagStates) (h : UndoHistory ℕ) → is_modified (named_history t h) ≡ is_modified h
modified_named t h = ap (λ l. h.forced || not (same_numbers l h.kept)) (numbers_named t h)

pub emptied_named : (t : TagStates) (h : UndoHistory ℕ) → named_history t (emptied h) ≡ emptied (named_history t h)
emptied_named t h = λ i. record { closed = []; current = []; undone = []; kept = []; forced = sym (modified_named t h) i; most = h.most }

pub set_named : (t : TagStates) (on : Bool) (h : UndoHistory ℕ)
    → named_history t (if on then forced_on h else unmodified h) ≡ (if on then forced_on (named_history t h) else unmodified (named_history t h))
set_named t true h = refl
set_named t false h = λ i. record {
  closed = map (named_group t) h.closed;
  current = named_group t h.current;
  undone = map (named_group t) h.undone;
  kept = sym (numbers_named t h) i;
  forced = false;
  most = h.most;
}

-- THE MOST GROUPS

many_named : (t : TagStates) (h : UndoHistory ℕ) → too_many (named_history t h) ≡ too_many h
many_named t h = ap (λ n. if h.most == 0 then 0 else n - h.most) (ap (λ l. length l) (to_undo_named t h) ∙ length-map (to_undo h) (named_group t))

numbers_dropped : (t : TagStates) (n : ℕ) (groups : List (List (Action ℕ))) → numbers_in (take n (map (named_group t) groups)) ≡ numbers_in (take n groups)
numbers_dropped t n groups = ap (λ l. numbers_in l) (take-map (named_group t) n groups) ∙ numbers_groups t (take n groups)

dropped_named : (t : TagStates) (n : ℕ) (h : UndoHistory ℕ) → named_history t (dropped n h) ≡ dropped n (named_history t h)
dropped_named t n h = λ i. record {
  closed = sym (drop-map (named_group t) n h.closed) i;
  current = named_group t h.current;
  undone = map (named_group t) h.undone;
  kept = unwrap_or (rest_after (sym (numbers_dropped t n h.closed) i) h.kept) [];
  forced = h.forced || not (is_some (rest_after (sym (numbers_dropped t n h.closed) i) h.kept));
  most = h.most;
}

pub limited_named : (t : TagStates) (h : UndoHistory ℕ) → named_history t (limited h) ≡ limited (named_history t h)
limited_named t h = dropped_named t (too_many h) h ∙ ap (λ n. dropped n (named_history t h)) (sym (many_named t h))

pub most_named : (t : TagStates) (most : ℕ) (h : UndoHistory ℕ) → named_history t (with_most most h) ≡ with_most most (named_history t h)
most_named t most h = limited_named t (record h { most = most })

pub added_named : (t : TagStates) (auto : Bool) (a : Action ℕ) (h : UndoHistory ℕ)
    → named_history t (with_action auto a h) ≡ with_action auto (named_action t a) (named_history t h)
added_named t auto a h =
    limited_named t (recorded a (if auto && asks_separator a.kind h then separated h else h))
    ∙ ap (λ (x : UndoHistory (List Word)). limited x)
    (recorded_named t a (if auto && asks_separator a.kind h then separated h else h)
    ∙ ap (recorded (named_action t a)) (begun_named t (auto && asks_separator a.kind h) h)
    ∙ ap (λ b. recorded (named_action t a) (if auto && b then separated (named_history t h) else named_history t h)) (sym (asks_named t a.kind h)))

-- A TABLE THAT KEEPS ITS STATES

pub removed_kept : (t u : TagStates) → KeepsIds t u → (removed : List (Removed ℕ)) → RemovedAreGiven t removed
    → map (named_removed u) removed ≡ map (named_removed t) removed
removed_kept t u k [] given = refl
removed_kept t u k (r ∷ removed) given =
    λ i. record { stamp = r.stamp; tags = names_on ((k.states r.tags given.0).1 i) } ∷ removed_kept t u k removed given.1 i

pub removed_stay : (t u : TagStates) → KeepsIds t u → (removed : List (Removed ℕ)) → RemovedAreGiven t removed → RemovedAreGiven u removed
removed_stay t u k [] given = tt
removed_stay t u k (r ∷ removed) given = ((k.states r.tags given.0).0, removed_stay t u k removed given.1)

group_kept : (t u : TagStates) → KeepsIds t u → (group : List (Action ℕ)) → AreGiven t group → named_group u group ≡ named_group t group
group_kept t u k [] given = refl
group_kept t u k (a ∷ group) given =
    λ i. record { number = a.number; kind = a.kind; inserted = a.inserted; removed = removed_kept t u k a.removed given.0 i } ∷ group_kept t u k group given.1 i

group_stays : (t u : TagStates) → KeepsIds t u → (group : List (Action ℕ)) → AreGiven t group → AreGiven u group
group_stays t u k [] given = tt
group_stays t u k (a ∷ group) given = (removed_stay t u k a.removed given.0, group_stays t u k group given.1)

groups_kept : (t u : TagStates) → KeepsIds t u → (groups : List (List (Action ℕ))) → AllByRecursion (AreGiven t) groups
    → map (named_group u) groups ≡ map (named_group t) groups
groups_kept t u k [] given = refl
groups_kept t u k (group ∷ groups) given = λ i. group_kept t u k group given.0 i ∷ groups_kept t u k groups given.1 i

groups_stay : (t u : TagStates) → KeepsIds t u → (groups : List (List (Action ℕ))) → AllByRecursion (AreGiven t) groups → AllByRecursion (AreGiven u) groups
groups_stay t u k [] given = tt
groups_stay t u k (group ∷ groups) given = (group_stays t u k group given.0, groups_stay t u k groups given.1)

pub history_kept : (t u : TagStates) → KeepsIds t u → (h : UndoHistory ℕ) → HistoryIsGiven t h → named_history u h ≡ named_history t h
history_kept t u k h given = λ i. record {
  closed = groups_kept t u k h.closed given.closed i;
  current = group_kept t u k h.current given.current i;
  undone = groups_kept t u k h.undone given.undone i;
  kept = h.kept;
  forced = h.forced;
  most = h.most;
}

pub history_stays : (t u : TagStates) → KeepsIds t u → (h : UndoHistory ℕ) → HistoryIsGiven t h → HistoryIsGiven u h
history_stays t u k h given = record {
  closed = groups_stay t u k h.closed given.closed;
  current = group_stays t u k h.current given.current;
  undone = groups_stay t u k h.undone given.undone;
}

-- AN ACTION THAT WAS PREPARED

abbrev pub prepared_removed : TagStates → Option Prepared → Option (List (Removed (List Word)))
prepared_removed t next = option_map (λ n. map (named_removed t) (removed_in n.removed.items)) next

pub prepared_kept : (t u : TagStates) → KeepsIds t u → (stacks : UndoStacks) (o : Option Prepared) → IfSome o (IsPrepared t stacks)
    → prepared_removed u o ≡ prepared_removed t o
prepared_kept t u k stacks None is = refl
prepared_kept t u k stacks (Some next) is = ap Some (removed_kept t u k (removed_in next.removed.items) is.given)

prepared_stays : (t u : TagStates) → KeepsIds t u → (stacks : UndoStacks) (o : Option Prepared) → IfSome o (IsPrepared t stacks)
    → IfSome o (IsPrepared u stacks)
prepared_stays t u k stacks None is = tt
prepared_stays t u k stacks (Some next) is = record {
  given = removed_stay t u k (removed_in next.removed.items) is.given;
  empty = is.empty;
  room = is.room;
  ready = is.ready;
}

-- where room was made beside it
pub prepared_ready : (t u : TagStates) → KeepsIds t u → (stacks now : UndoStacks) → now.ready ≡ true → (o : Option Prepared)
    → IfSome o (IsPrepared t stacks) → IfSome o (IsPrepared u now)
prepared_ready t u k stacks now ready None is = tt
prepared_ready t u k stacks now ready (Some next) is = record {
  given = removed_stay t u k (removed_in next.removed.items) is.given;
  empty = is.empty;
  room = is.room;
  ready = ready;
}

-- what a recorder keeps, where its table alone is another one
pub still_kept : (s : Inside) (u : TagStates) → KeepsIds s.table u → IsRecorder s → (stacks : UndoStacks) → stacks ≡ s.stacks
    → HistoryIsGiven u stacks.history × IfSome s.next (IsPrepared u stacks)
still_kept s u k is stacks e =
    subst (λ (now : UndoStacks). HistoryIsGiven u now.history × IfSome s.next (IsPrepared u now)) (sym e)
    (history_stays s.table u k s.stacks.history is.given, prepared_stays s.table u k s.stacks s.next is.next)

pub same_but_table : (s : Inside) (u : TagStates) → KeepsIds s.table u → IsRecorder s → (stacks : UndoStacks) → stacks ≡ s.stacks
    → (old : Recording) → recording_of s ≡ old
    → record {
      history = named_history u stacks.history;
      undo = s.undo;
      auto = s.auto_separators;
      pending = prepared_removed u s.next;
      moves = stacks.moves;
      ready = stacks.ready;
      table = u;
    } ≡ record old { table = u }
same_but_table s u k is stacks e old view_is =
    (λ i. record {
      history = (ap (λ (now : UndoStacks). named_history u now.history) e ∙ history_kept s.table u k s.stacks.history is.given) i;
      undo = s.undo;
      auto = s.auto_separators;
      pending = prepared_kept s.table u k s.stacks s.next is.next i;
      moves = (e i).moves;
      ready = (e i).ready;
      table = u;
    }) ∙ ap (λ (v : Recording). record v { table = u }) view_is

removed_still : (t : TagStates) (moves : SpanMapValue Move) (removed : List (Removed ℕ)) → AllByRecursion (λ r. is_moved moves r.stamp ≡ false) (map (named_removed t) removed)
    → AllByRecursion (λ r. is_moved moves r.stamp ≡ false) removed
removed_still t moves [] stays = tt
removed_still t moves (r ∷ removed) stays = (stays.0, removed_still t moves removed stays.1)

one_span : (inserted : Vec Span Global) (span : Span) → inserted.items ≡ span ∷ [] → stamps_in inserted.items ≡ stamps_of_span span
one_span inserted span e = ap (λ l. stamps_in l) e ∙ append-nil (stamps_of_span span)

pub prepared_still : (t : TagStates) (moves : SpanMapValue Move) (o : Option Prepared) (next : Prepared) (inserted : Vec Span Global) (kind : Kind) (span : Span)
    → o ≡ Some next → inserted.items ≡ span ∷ [] → IfSome (prepared_removed t o) (λ removed. HasStayed (is_moved moves) (span_action kind span removed))
    → IsStill moves (action_of (record { number = span.first; kind = kind; inserted = inserted; removed = next.removed }))
prepared_still t moves o next inserted kind span is one stays =
    let here : HasStayed (is_moved moves) (span_action kind span (map (named_removed t) (removed_in next.removed.items)))
    = subst (λ x. IfSome (prepared_removed t x) (λ removed. HasStayed (is_moved moves) (span_action kind span removed))) is stays in
    record {
      inserted = subst (λ l. AllByRecursion (λ s. is_moved moves s ≡ false) l) (sym (one_span inserted span one)) here.inserted;
      removed = removed_still t moves (removed_in next.removed.items) here.removed;
    }

pub prepared_history : (t : TagStates) (auto : Bool) (h new : UndoHistory ℕ) (o : Option Prepared) (next : Prepared) (inserted : Vec Span Global) (kind : Kind) (span : Span)
    → o ≡ Some next → inserted.items ≡ span ∷ []
    → new ≡ with_action auto (action_of (record { number = span.first; kind = kind; inserted = inserted; removed = next.removed })) h
    → IfSome (prepared_removed t o) (λ removed. named_history t new ≡ with_action auto (span_action kind span removed) (named_history t h))
prepared_history t auto h new o next inserted kind span is one e =
    let removed = map (named_removed t) (removed_in next.removed.items) in
    let here : named_history t new ≡ with_action auto (span_action kind span removed) (named_history t h)
    = ap (named_history t) e
    ∙ added_named t auto (action_of (record { number = span.first; kind = kind; inserted = inserted; removed = next.removed })) h
    ∙ (λ i. with_action auto (record { number = span.first; kind = kind; inserted = one_span inserted span one i; removed = removed }) (named_history t h)) in
    subst (λ x. IfSome (prepared_removed t x) (λ removed. named_history t new ≡ with_action auto (span_action kind span removed) (named_history t h))) (sym is) here
