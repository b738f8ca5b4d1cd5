-- A whole group, from the working copy to the plan.
use Rattle.std.proofs.Common.{◌≡◌, ◌∙◌, ℕ, ◌-◌, ◌≤◌, ◌||◌, Bool, true, cond, false, List, [], ◌∷◌, ◌++◌, length, map, refl, sym, ap, subst, arith}
use Rattle.std.specs.Prelude.{nat_lt}
use Rattle.std.proofs.lemmas.Bool.{or_left, or_right}
use Rattle.std.proofs.lemmas.Bool.Decides.{nat_tests}
use Rattle.std.proofs.lemmas.List.Elements.{All-tail}
use Rattle.std.proofs.lemmas.List.Folds.{list_any-append}
use Rattle.std.specs.List.{AllByRecursion, IsDistinct, list_all}
use Rattle.rt_stamps.specs.declared.limits.TheConstants.{GREATEST_COUNT, MOST_CELLS}
use Rattle.rt_stamps.specs.declared.stamp.Stamp.{Stamp}
use Rattle.rt_stamps.specs.declared.stamp.TheConstants.{FINAL}
use Rattle.rt_stamps.specs.Stamps.{is_same}
use Rattle.rt_stamps.proofs.Order.{same_refl, same_sym}
use Rattle.rt_stamps.specs.Words.{Word, as_words}
use Rattle.rt_ops.specs.Edits.{body_of}
use Rattle.rt_ops.specs.Rules.{is_name}
use Rattle.rt_store.specs.declared.cell.Cell.{Cell}
use Rattle.rt_store.specs.Cells.{AreDistinct, EndsFinal, stamps_of}
use Rattle.rt_store.specs.Shown.{TaggedCell, shown}
use Rattle.rt_store.specs.Spans.{is_among}
use Rattle.rt_store.specs.Tagged.{AreStates}
use Rattle.rt_store.proofs.Distinct.{split}
use Rattle.rt_store.proofs.Shown.{length_shown, stamps_shown}
use Rattle.rt_spans.specs.Shown.{SpanMapValue}
use Rattle.rt_tags.specs.States.{KeepsIds, TagStates, names_on, state_at}
use Rattle.rt_plans.specs.DocValue.{DocValue}
use Rattle.rt_plans.specs.Insertions.{all_listed}
use Rattle.rt_undo.specs.declared.action.Action.{Action as KeptAction}
use Rattle.rt_undo.specs.Actions.{Action, Removed, group_of, restamped_one}
use Rattle.rt_undo.specs.Renames.{is_moved, now_of}
use Rattle.rt_undo.specs.Undo.{with_stamps_in}
use Rattle.rt_rga.specs.OneOrMany.{items_in}
use Rattle.rt_revert.specs.declared.progress.Progress.{Progress}
use Rattle.rt_revert.specs.Named.{is_in_group, named_by, named_in}
use Rattle.rt_revert.specs.Plans.{AreGiven, AreUpTo, IsOf, IsTextChange, IsUpTo, RemovedAreGiven, marks_after, named_group, named_removed}
use Rattle.rt_revert.specs.Portions.{AreSmall, HasEach, HasGroup, HasRemoved, Portion, offset_of, only, visible_before_stamp}
use Rattle.rt_revert.specs.Progress.{IsCopy, IsOther, IsSoFar, IsUnderWay, LookAlike}
use Rattle.rt_revert.specs.Reverting.{Reversion, as_it_is, stamp_after}
use Rattle.rt_revert.specs.ReversionLaws.{AllMayRevert}
use Rattle.rt_revert.proofs.Alike.{alike_place_in, alike_stamps, place_in_shown}
use Rattle.rt_revert.proofs.Counted.{later_cells, up_to_stamps}
use Rattle.rt_revert.proofs.Only.{only_distinct, only_fewer, only_final, only_shown, only_up_to}
use Rattle.rt_revert.proofs.PortionLaws.{only_among, place_law}
use Rattle.rt_revert.proofs.Copied.{same_end, same_length, same_stamps, same_up_to}

-- THE GROUP BY ANOTHER TABLE

later_removed : (old new : TagStates) (removed : List (Removed ℕ)) → KeepsIds old new → RemovedAreGiven old removed → map (named_removed new) removed ≡ map (named_removed old) removed
later_removed old new [] ids h = refl
later_removed old new (r ∷ removed) ids h =
    λ i. record { stamp = r.stamp; tags = names_on ((ids.states r.tags h.0).1 i) } ∷ later_removed old new removed ids h.1 i

pub later_group : (old new : TagStates) (group : List (Action ℕ)) → KeepsIds old new → AreGiven old group → named_group new group ≡ named_group old group
later_group old new [] ids h = refl
later_group old new (a ∷ group) ids h =
    λ i. record { number = a.number; kind = a.kind; inserted = a.inserted; removed = later_removed old new a.removed ids h.0 i } ∷ later_group old new group ids h.1 i

given_removed : (old new : TagStates) (removed : List (Removed ℕ)) → KeepsIds old new → RemovedAreGiven old removed → RemovedAreGiven new removed
given_removed old new [] ids h = tt
given_removed old new (r ∷ removed) ids h = ((ids.states r.tags h.0).0, given_removed old new removed ids h.1)

pub later_given : (old new : TagStates) (group : List (Action ℕ)) → KeepsIds old new → AreGiven old group → AreGiven new group
later_given old new [] ids h = tt
later_given old new (a ∷ group) ids h = (given_removed old new a.removed ids h.0, later_given old new group ids h.1)

pub later_sound : (old new : TagStates) (group : List (Action ℕ)) → KeepsIds old new → AreGiven old group → AllMayRevert (named_group old group) → AllMayRevert (named_group new group)
later_sound old new group ids h s = subst AllMayRevert (sym (later_group old new group ids h)) s

-- OTHER STAMPS

stamped_removed : (table : TagStates) (f : Stamp → Stamp) (removed : List (Removed ℕ)) → map (named_removed table) (map (restamped_one {T = ℕ} f) removed) ≡ map (restamped_one {T = List Word} f) (map (named_removed table) removed)
stamped_removed table f [] = refl
stamped_removed table f (r ∷ removed) = ap (λ l. restamped_one {T = List Word} f (named_removed table r) ∷ l) (stamped_removed table f removed)

pub stamped_group : (table : TagStates) (f : Stamp → Stamp) (group : List (Action ℕ)) → named_group table (with_stamps_in {T = ℕ} f group) ≡ with_stamps_in {T = List Word} f (named_group table group)
stamped_group table f [] = refl
stamped_group table f (a ∷ group) =
    λ i. record { number = a.number; kind = a.kind; inserted = map f a.inserted; removed = stamped_removed table f a.removed i } ∷ stamped_group table f group i

given_stamped : (table : TagStates) (f : Stamp → Stamp) (removed : List (Removed ℕ)) → RemovedAreGiven table removed → RemovedAreGiven table (map (restamped_one {T = ℕ} f) removed)
given_stamped table f [] h = tt
given_stamped table f (r ∷ removed) h = (h.0, given_stamped table f removed h.1)

pub group_given : (table : TagStates) (f : Stamp → Stamp) (group : List (Action ℕ)) → AreGiven table group → AreGiven table (with_stamps_in {T = ℕ} f group)
group_given table f [] h = tt
group_given table f (a ∷ group) h = (given_stamped table f a.removed h.0, group_given table f group h.1)

-- THE BEGINNING

-- nothing was reverted yet
pub record IsNew (count : ℕ) (known : SpanMapValue ℕ) (plan : Progress) : Type 0 where
  pub drafts : items_in plan.texts.drafts ≡ []
  pub greatest : plan.texts.count ≡ count
  pub now : (stamp : Stamp) → now_of plan.renames stamp ≡ stamp
  pub moved : (stamp : Stamp) → is_moved plan.renames stamp ≡ false
  pub names : plan.names.items ≡ []
  pub changes : plan.changes.items ≡ []
  pub returns : plan.returns.items ≡ []
  pub actions : plan.actions.items ≡ []
  pub offsets : plan.offsets ≡ known

-- what the working copy of a group has: the cells that the group names, and all newer ones
abbrev pub has_of : ℕ → List (Action ℕ) → Stamp → Bool
has_of count group s = is_in_group group s || nat_lt count s.count

abbrev pub portion_of : DocValue → List (Action ℕ) → Portion
portion_of doc group = record { doc = doc; has = has_of doc.count group }

-- nothing is newer at first
only_named : (count : ℕ) (group : List (Action ℕ)) (cells : List (Cell ℕ)) → AreUpTo count cells → only (has_of count group) cells ≡ only (is_in_group group) cells
only_named count group [] h = refl
only_named count group (c ∷ cs) h =
    let rest = only_named count group cs (All-tail (λ (cell : Cell ℕ). IsUpTo count cell.stamp) c cs h) in
    let same : has_of count group c.stamp ≡ is_in_group group c.stamp = split (is_same c.stamp FINAL)
    (λ e.
    let named : is_in_group group c.stamp ≡ true = or_left (is_same FINAL c.stamp) _ (same_sym FINAL c.stamp ∙ e) in
    or_left (is_in_group group c.stamp) _ named ∙ sym named)
    (λ e.
    let le : c.stamp.count ≤ count = h 0 c (omega arith) e in
    let none : nat_lt count c.stamp.count ≡ false = grind (arith, nat_tests) in
    ap (λ b. is_in_group group c.stamp || b) none ∙ or_nothing (is_in_group group c.stamp)) in
    λ i. cond (same i) (c ∷ rest i) (rest i)
  where
    or_nothing : (b : Bool) → (b || false) ≡ b
    or_nothing true = refl
    or_nothing false = refl

-- how a group begins: the working copy looks like the cells that the group names, and their offsets are known
pub record IsBegun (kept states : TagStates) (copy store : List (Cell ℕ)) (count : ℕ) (offsets : SpanMapValue ℕ) (group : List (Action ℕ)) (plan : Progress) : Type 0 where
  pub new : IsNew count offsets plan
  pub alike : LookAlike (map (shown kept) copy) (map (shown states) (only (is_in_group group) store))
  pub given : AreStates kept copy
  pub distinct : AreDistinct store
  pub few : length store ≤ MOST_CELLS
  pub older : AreUpTo count store
  pub bounded : count ≤ GREATEST_COUNT
  pub small : AreSmall offsets
  pub at : (s : Stamp) → is_among (stamps_of copy) s ≡ true → offset_of offsets s ≡ visible_before_stamp store s - visible_before_stamp copy s

-- what the working copy begins with
pub ready_cells : (kept states : TagStates) (store : List (Cell ℕ)) (group : List (Action ℕ)) (cells : List (Cell ℕ)) → EndsFinal store
    → LookAlike (map (shown kept) cells) (map (shown states) (only (is_in_group group) store)) → length store ≤ MOST_CELLS → (length cells ≤ MOST_CELLS) × EndsFinal cells
ready_cells kept states store group cells ends alike few =
    let named = only (is_in_group group) store in (
      omega (arith, same_length kept states cells named alike, only_fewer (is_in_group group) store, few),
      same_end kept states cells named alike (only_final (is_in_group group) store (or_left (is_same FINAL FINAL) (is_among (named_in group) FINAL) (same_refl FINAL)) ends),
    )

pub older_named : (kept states : TagStates) (copy store : List (Cell ℕ)) (count : ℕ) (group : List (Action ℕ)) → LookAlike (map (shown kept) copy) (map (shown states) (only (is_in_group group) store))
    → AreUpTo count store → count ≤ GREATEST_COUNT → AreUpTo GREATEST_COUNT copy
older_named kept states copy store count group alike older le =
    later_cells count GREATEST_COUNT copy le (same_up_to kept states count copy (only (is_in_group group) store) alike (only_up_to (is_in_group group) count store older))

-- it has what the group names
among_append : (xs ys : List Stamp) (s : Stamp) → is_among (xs ++ ys) s ≡ (is_among xs s || is_among ys s)
among_append xs ys s = list_any-append (λ t. is_same t s) xs ys

has_stamps : (part : Portion) (ss : List Stamp) → ((s : Stamp) → is_among ss s ≡ true → part.has s ≡ true) → HasEach part ss
has_stamps part [] h = tt
has_stamps part (s ∷ ss) h = (h s (or_left (is_same s s) _ (same_refl s)), has_stamps part ss (λ t e. h t (or_right (is_same s t) _ e)))

has_removed : (part : Portion) (removed : List (Removed ℕ)) → ((s : Stamp) → is_among (map (λ (r : Removed ℕ). r.stamp) removed) s ≡ true → part.has s ≡ true) → HasRemoved part removed
has_removed part [] h = tt
has_removed part (r ∷ removed) h = (h r.stamp (or_left (is_same r.stamp r.stamp) _ (same_refl r.stamp)), has_removed part removed (λ t e. h t (or_right (is_same r.stamp t) _ e)))

has_group : (part : Portion) (group : List (Action ℕ)) → ((s : Stamp) → is_among (named_in group) s ≡ true → part.has s ≡ true) → HasGroup part group
has_group part [] h = tt
has_group part (a ∷ group) h =
    let mine : (s : Stamp) → is_among (named_by a) s ≡ true → part.has s ≡ true = λ s e. h s (among_append (named_by a) (named_in group) s ∙ or_left (is_among (named_by a) s) _ e) in (
      (
        has_stamps part a.inserted (λ s e. mine s (among_append a.inserted (map (λ (r : Removed ℕ). r.stamp) a.removed) s ∙ or_left (is_among a.inserted s) _ e)),
        has_removed part a.removed (λ s e. mine s (among_append a.inserted (map (λ (r : Removed ℕ). r.stamp) a.removed) s ∙ or_right (is_among a.inserted s) _ e)),
      ),
      has_group part group (λ s e. h s (among_append (named_by a) (named_in group) s ∙ or_right (is_among (named_by a) s) _ e)),
    )

pub group_had : (doc : DocValue) (group : List (Action ℕ)) → HasGroup (portion_of doc group) group
group_had doc group = has_group (portion_of doc group) group (λ s e. or_left (is_in_group group s) _ (or_right (is_same FINAL s) _ e))

module _ (kept states : TagStates) (copy store : List (Cell ℕ)) (number count : ℕ) (offsets : SpanMapValue ℕ) (group : List (Action ℕ)) (plan : Progress) where
  abbrev group_cells : List (Cell ℕ)
  group_cells = only (is_in_group group) store

  pub begun_copy : IsBegun kept states copy store count offsets group plan → IsCopy kept copy plan.texts.count
  begun_copy b = record {
    states = b.given;
    distinct = subst (IsDistinct is_same) (sym (same_stamps kept states copy group_cells b.alike)) (only_distinct (is_in_group group) store b.distinct);
    few = omega (arith, same_length kept states copy group_cells b.alike, only_fewer (is_in_group group) store, b.few);
    older = subst (λ (m : ℕ). AreUpTo m copy) (sym b.new.greatest) (same_up_to kept states count copy group_cells b.alike (only_up_to (is_in_group group) count store b.older));
  }

  pub begun_going : IsBegun kept states copy store count offsets group plan → IsUnderWay kept plan
  begun_going b =
      let n = b.new in
      record {
        count = omega (arith, n.greatest, b.bounded);
        moved = λ s e. absurd (let f = n.moved s in cc (e, f));
        now = λ s. n.now s ∙ ap (λ l. stamp_after l s) (sym n.returns);
        apart = subst (AllByRecursion IsOther) (sym n.returns) tt;
        names = ap (λ l. list_all is_name (as_words l)) n.names;
        given = subst (λ l. AreGiven kept (group_of l)) (sym n.actions) tt;
        offsets = subst AreSmall (sym n.offsets) b.small;
      }

  pub begun_so_far : IsBegun kept states copy store count offsets group plan → (doc : DocValue) → IsOf states store number count doc
      → IsSoFar kept number copy plan (portion_of doc group) (as_it_is doc)
  begun_so_far b doc of =
      let n = b.new in
      let has = has_of doc.count group in
      let stamps : stamps_of doc.cells ≡ stamps_of store = ap stamps_of of.cells ∙ stamps_shown (state_at states) store in
      let ours : only has doc.cells ≡ map (shown states) group_cells =
      ap (only has) of.cells ∙ only_shown has (state_at states) store
      ∙ ap (map (shown states)) (ap (λ m. only (has_of m group) store) of.count ∙ only_named count group store b.older) in
      let like : LookAlike (map (shown kept) copy) (only has doc.cells) = subst (λ (l : List TaggedCell). LookAlike (map (shown kept) copy) l) (sym ours) b.alike in
      record {
        cells = like;
        within = record {
          newer = λ s lt. or_right (is_in_group group s) _ (let more : nat_lt doc.count s.count ≡ true = grind (arith, nat_tests, lt, of.count, n.greatest) in more);
          back = tt;
          offsets = λ s h a.
              let there : is_among (stamps_of copy) s ≡ true =
              ap (λ l. is_among l s) (sym (stamps_shown (state_at kept) copy) ∙ alike_stamps (map (shown kept) copy) (only has doc.cells) like) ∙ only_among has doc.cells s h ∙ a in
              let whole : visible_before_stamp doc.cells s ≡ visible_before_stamp store s = ap (λ (l : List TaggedCell). visible_before_stamp l s) of.cells ∙ place_in_shown (state_at states) store s in
              let part : visible_before_stamp copy s ≡ visible_before_stamp (only has doc.cells) s = sym (place_in_shown (state_at kept) copy s) ∙ alike_place_in (map (shown kept) copy) (only has doc.cells) s like in
              omega (arith, ap (λ m. offset_of m s) n.offsets, b.at s there, whole, part, place_law has doc.cells s h a);
          distinct = subst (IsDistinct is_same) (sym stamps) b.distinct;
          older = subst (λ (m : ℕ). AreUpTo m doc.cells) (sym n.greatest) (up_to_stamps count doc.cells store stamps b.older);
          few = omega (arith, ap length of.cells ∙ length_shown (state_at states) store, b.few);
        };
        site = of.site;
        count = of.count ∙ sym n.greatest;
        drafts = ap (map body_of) (sym n.drafts);
        returns = sym n.returns;
        actions = ap (λ l. named_group kept (group_of l)) (sym n.actions);
        changes = subst (AllByRecursion IsTextChange) (sym n.changes) tt;
        marks = ap (λ l. marks_after l doc.marks) (sym n.changes);
        tags = ap (λ l. all_listed (as_words l) doc.tags) (sym n.names);
      }

-- THE END

-- the group for the other stack
pub ended_group : (table : TagStates) (number : ℕ) (copy : List (Cell ℕ)) (plan : Progress) (part : Portion) (r : Reversion) (actions : List KeptAction) → IsUnderWay table plan → IsSoFar table number copy plan part r
    → group_of actions ≡ with_stamps_in (now_of plan.renames) (group_of plan.actions.items) → named_group table (group_of actions) ≡ with_stamps_in (stamp_after r.returns) r.actions
ended_group table number copy plan part r actions g s e =
    let f : now_of plan.renames ≡ stamp_after r.returns = (λ i stamp. g.now stamp i) ∙ ap stamp_after (sym s.returns) in
    ap (named_group table) e ∙ stamped_group table (now_of plan.renames) (group_of plan.actions.items)
    ∙ (λ i. with_stamps_in {T = List Word} (f i) (sym s.actions i))

pub ended_given : (table : TagStates) (plan : Progress) (actions : List KeptAction) → IsUnderWay table plan → group_of actions ≡ with_stamps_in (now_of plan.renames) (group_of plan.actions.items)
    → AreGiven table (group_of actions)
ended_given table plan actions g e = subst (AreGiven table) (sym e) (group_given table (now_of plan.renames) (group_of plan.actions.items) g.given)
