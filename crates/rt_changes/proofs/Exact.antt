-- The changes of an operation name no more than what changes.
use Rattle.std.proofs.Common.{◌≡◌, ℕ, zero, suc, ◌+◌, ◌-◌, ◌<◌, ◌≤◌, List, [], ◌∷◌, ◌++◌, Bool, true, false, cond, not, ◌||◌, All, length, map, take, drop, Option, Some, None, refl, sym, ◌∙◌, ap, subst, arith}
use Rattle.std.specs.Prelude.{option_map, slice_get, unwrap_or}
use Rattle.std.proofs.lemmas.Bool.{and_parts}
use Rattle.std.proofs.lemmas.List.{length-map}
use Rattle.std.proofs.lemmas.List.Elements.{All-cons, All-filter, All-head, All-map, All-nil, All-tail}
use Rattle.std.proofs.lemmas.Option.{slice_get-map}
use Rattle.rt_stamps.specs.declared.stamp.Span.{Span}
use Rattle.rt_stamps.specs.declared.stamp.Stamp.{Stamp}
use Rattle.rt_stamps.specs.declared.stamp.TheConstants.{ROOT}
use Rattle.rt_stamps.specs.Stamps.{is_same}
use Rattle.rt_stamps.proofs.Order.{same_refl}
use Rattle.rt_ops.specs.Operations.{Body, Insert, Delete, Tag, Name, Operation, stamp_of}
use Rattle.rt_oplog.specs.Logs.{with_operation}
use Rattle.rt_store.specs.Cells.{cells_from, skip_from, stamps_of, visible_before, visible_of}
use Rattle.rt_store.specs.Shown.{TaggedCell}
use Rattle.rt_store.specs.Spans.{is_among, is_in_spans, next_stamp}
use Rattle.rt_tags.specs.States.{IsByName, Write, is_on, is_settled, names_on}
use Rattle.rt_tags.specs.Tags.{is_listed}
use Rattle.rt_tags.specs.Writers.{is_shared, listed_by, state_after}
use Rattle.rt_tags.proofs.Commuting.{on_is_listed}
use Rattle.rt_tags.proofs.Places.{name_itself}
use Rattle.rt_rga.specs.Cells.{cells_of, stamped_writes_on}
use Rattle.rt_rga.specs.Changes.{changed_by, with_write, written_in_any}
use Rattle.rt_rga.specs.Histories.{Continues, IsHistory, characters_from, inserted_by}
use Rattle.rt_rga.specs.Reading.{has_stamp}
use Rattle.rt_rga.specs.Taken.{AreFallingRuns, changes_tag, differ, is_in_run, is_in_runs, retags, takes_away}
use Rattle.rt_rga.specs.Texts.{TaggedCharacter, tagged_text}
use Rattle.rt_rga.specs.declared.taken.PlaceRun.{PlaceRun}
use Rattle.rt_rga.proofs.Continuing.{sound_of}
use Rattle.rt_rga.proofs.Corollaries.{cells_have}
use Rattle.rt_rga.proofs.Histories.{history_with, inserted_new, inserted_range, not_final}
use Rattle.rt_rga.proofs.Merging.{cells_with}
use Rattle.rt_rga.proofs.RetaggedPlaces.{changes_differ}
use Rattle.rt_rga.proofs.Texts.{shared_on}
use Rattle.rt_changes.specs.Exact.{EachChanges, IsInsertedAt, IsRetaggedAt, IsTakenAt}
use Rattle.rt_changes.specs.Replays.{Deleted, Inserted, Tagged, changed_at, runs_of, body_changes, changes_of, tagged_with}
use Rattle.rt_changes.proofs.Listed.{tags_listed}
use Rattle.rt_changes.proofs.Runs.{in_first, runs_fall, runs_have}
use Rattle.rt_changes.proofs.Stamps.{seen, seen_put, seen_written, taken_by}
use Rattle.rt_changes.proofs.Texts.{AreByName, by_name, shows, tag_text}

-- RUNS

-- what holds of each place of runs holds of the places of each
all_runs_have : (P : ℕ → Type 0) (end : ℕ) (runs : List PlaceRun) → AreFallingRuns end runs → ((q : ℕ) → q + 1 < end → is_in_runs runs q ≡ true → P q)
    → All (λ (run : PlaceRun). (q : ℕ) → run.from ≤ q → q < run.to → P q) runs
all_runs_have P end [] h k = All-nil (λ (run : PlaceRun). (q : ℕ) → run.from ≤ q → q < run.to → P q)
all_runs_have P end (run ∷ runs) h k =
    All-cons (λ (run : PlaceRun). (q : ℕ) → run.from ≤ q → q < run.to → P q) run runs
    (λ q l m. k q (omega (arith, m, h.1)) (in_first run runs q l m))
    (all_runs_have P run.from runs h.2 (λ q l e. k q (omega (arith, l, h.0, h.1)) (ap (λ b. is_in_run run q || b) e ∙ or_true (is_in_run run q))))
  where
    or_true : (b : Bool) → (b || true) ≡ true
    or_true true = refl
    or_true false = refl

pub runs_are : (P : ℕ → Type 0) (at : ℕ → Bool) (n : ℕ) → ((q : ℕ) → q < n → at q ≡ true → P q) → All (λ (run : PlaceRun). (q : ℕ) → run.from ≤ q → q < run.to → P q) (runs_of at n)
runs_are P at n h = all_runs_have P (n + 1) (runs_of at n) (runs_fall at n) (λ q l e. let below : q < n = omega (arith, l) in h q below (sym (runs_have at n q below) ∙ e))

-- where a test of an element at a place says yes, the element is there
pub record IsFound {X : Type 0} (xs : List X) (test : X → Bool) (place : ℕ) : Type 0 where
  pub element : X
  pub there : slice_get xs place ≡ Some element
  pub passes : test element ≡ true

found : {X : Type 0} (xs : List X) (test : X → Bool) (place : ℕ) → unwrap_or (option_map test (slice_get xs place)) false ≡ true → IsFound xs test place
found {X} xs test place e = by (slice_get xs place) refl e
  where
    by : (o : Option X) → slice_get xs place ≡ o → unwrap_or (option_map test o) false ≡ true → IsFound xs test place
    by None g k = absurd (cc k)
    by (Some x) g k = record { element = x; there = g; passes = k }

-- DELETE

deleted_at : (stamp : Stamp) (spans : List Span) (cells : List TaggedCell) (q : ℕ) → takes_away (Delete spans) cells q ≡ true → IsTakenAt cells (changed_by stamp (Delete spans) cells) q
deleted_at stamp spans cells q e =
    let f = found (visible_of cells) (λ cell. is_in_spans spans cell.stamp) q e in
    let c : TaggedCell = f.element in
    let there : slice_get (seen cells) q ≡ Some c.stamp = slice_get-map (λ (cell : TaggedCell). cell.stamp) (visible_of cells) q ∙ ap (option_map (λ (cell : TaggedCell). cell.stamp)) f.there in
    record { stamp = c.stamp; before = there; after = off (is_among (seen (changed_by stamp (Delete spans) cells)) c.stamp) (sym (taken_by stamp (Delete spans) cells q c.stamp there) ∙ e) }
  where
    off : (b : Bool) → not b ≡ true → b ≡ false
    off true h = sym h
    off false h = refl

-- INSERT

get_behind : {X : Type 0} (xs ys : List X) (j : ℕ) → slice_get (xs ++ ys) (length xs + j) ≡ slice_get ys j
get_behind [] ys j = let e : 0 + j ≡ j = omega arith in ap (slice_get ys) e
get_behind (x ∷ xs) ys j = let e : suc (length xs) + j ≡ suc (length xs + j) = omega arith in ap (slice_get (x ∷ (xs ++ ys))) e ∙ get_behind xs ys j

get_front : {X : Type 0} (ys zs : List X) (j : ℕ) (x : X) → slice_get ys j ≡ Some x → slice_get (ys ++ zs) j ≡ Some x
get_front [] zs j x e = absurd (cc e)
get_front (y ∷ ys) zs zero x e = e
get_front (y ∷ ys) zs (suc j) x e = get_front ys zs j x e

seen_new : (count site : ℕ) (state : List Write) (text : List ℕ) (j : ℕ) → j < length text → slice_get (seen (cells_from count site state text)) j ≡ Some (record { count = count + j; site = site })
seen_new count site state [] j l = absurd (omega (arith, l))
seen_new count site state (c ∷ text) zero l = let e : count ≡ count + 0 = omega arith in ap (λ n. Some (record { count = n; site = site })) e
seen_new count site state (c ∷ text) (suc j) l = let e : count + 1 + j ≡ count + suc j = omega arith in seen_new (count + 1) site state text j (omega (arith, l)) ∙ ap (λ n. Some (record { count = n; site = site })) e

has_new : (left stamp : Stamp) (text : List ℕ) (j : ℕ) → j < length text → has_stamp (characters_from left stamp text) (record { count = stamp.count + j; site = stamp.site }) ≡ true
has_new left stamp [] j l = absurd (omega (arith, l))
has_new left stamp (c ∷ text) zero l =
    let e : stamp.count + 0 ≡ stamp.count = omega arith in
    ap (λ n. is_same stamp (record { count = n; site = stamp.site }) || has_stamp (characters_from stamp (next_stamp stamp) text) (record { count = n; site = stamp.site })) e
    ∙ ap (λ b. b || has_stamp (characters_from stamp (next_stamp stamp) text) stamp) (same_refl stamp)
has_new left stamp (c ∷ text) (suc j) l =
    let e : stamp.count + 1 + j ≡ stamp.count + suc j = omega arith in
    ap (λ b. is_same stamp (record { count = stamp.count + suc j; site = stamp.site }) || b)
    (ap (λ n. has_stamp (characters_from stamp (next_stamp stamp) text) (record { count = n; site = stamp.site })) (sym e) ∙ has_new stamp (next_stamp stamp) text j (omega (arith, l)))
    ∙ or_true (is_same stamp (record { count = stamp.count + suc j; site = stamp.site }))
  where
    or_true : (b : Bool) → (b || true) ≡ true
    or_true true = refl
    or_true false = refl

abbrev AreNew : Stamp → Body → List TaggedCell → Type 0
AreNew stamp body cells = (s : Stamp) → has_stamp (inserted_by stamp body) s ≡ true → is_among (stamps_of cells) s ≡ false

put_in_at : (stamp after : Stamp) (tags : List Name) (text : List ℕ) (cells : List TaggedCell) (q : ℕ) → AreNew stamp (Insert after tags text) cells
    → visible_before cells (skip_from cells after stamp) ≤ q → q < visible_before cells (skip_from cells after stamp) + length text
    → IsInsertedAt cells (changed_by stamp (Insert after tags text) cells) q
put_in_at stamp after tags text cells q new low high =
    let n = skip_from cells after stamp in
    let front = take n cells in
    let more = cells_from stamp.count stamp.site (state_after [] (listed_by ROOT tags)) text in
    let long : length (seen front) ≡ visible_before cells n = length-map (visible_of front) (λ (cell : TaggedCell). cell.stamp) in
    let j : ℕ = q - length (seen front) in
    let is : q ≡ length (seen front) + j = omega (arith, long, low) in
    let within : j < length text = omega (arith, long, low, high) in
    record {
      stamp = record { count = stamp.count + j; site = stamp.site };
      before = new (record { count = stamp.count + j; site = stamp.site }) (has_new after stamp text j within);
      after = (λ i. slice_get (seen_put n more cells i) (is i)) ∙ get_behind (seen front) (seen more ++ seen (drop n cells)) j
          ∙ get_front (seen more) (seen (drop n cells)) j (record { count = stamp.count + j; site = stamp.site }) (seen_new stamp.count stamp.site (state_after [] (listed_by ROOT tags)) text j within);
    }

-- TAG

get_changed : {X : Type 0} (at : ℕ → Bool) (f : X → X) (k : ℕ) (xs : List X) (i : ℕ) → slice_get (changed_at at f k xs) i ≡ option_map (λ x. cond (at (k + i)) (f x) x) (slice_get xs i)
get_changed at f k [] i = refl
get_changed at f k (x ∷ xs) zero = let e : k ≡ k + 0 = omega arith in ap (λ n. Some (cond (at n) (f x) x)) e
get_changed at f k (x ∷ xs) (suc i) = let e : k + 1 + i ≡ k + suc i = omega arith in get_changed at f (k + 1) xs i ∙ ap (λ n. option_map (λ y. cond (at n) (f y) y) (slice_get xs i)) e

at_all : {X : Type 0} (P : X → Type 0) (xs : List X) (i : ℕ) (x : X) → All P xs → slice_get xs i ≡ Some x → P x
at_all P [] i x h e = absurd (cc e)
at_all {X} P (y ∷ ys) zero x h e = let same : y ≡ x = cc e in subst P same (All-head P y ys h)
at_all P (y ∷ ys) (suc i) x h e = at_all P ys i x (All-tail P y ys h) e

module _ (stamp : Stamp) (on : Bool) (name : Name) (spans : List Span) where
  abbrev w : Write
  w = record { name = name; writer = stamp; on = on }

  retagged_at : (cells : List TaggedCell) (q : ℕ) → AreByName cells → retags stamp (Tag on name spans) cells q ≡ true → IsRetaggedAt on name cells (changed_by stamp (Tag on name spans) cells) q
  retagged_at cells q s e =
      let f = found (visible_of cells) (changes_tag stamp (Tag on name spans)) q e in
      let c : TaggedCell = f.element in
      let sorted : IsByName c.state = at_all (λ (cell : TaggedCell). IsByName cell.state) (visible_of cells) q c (All-filter (λ cell. not cell.gone) (λ (cell : TaggedCell). IsByName cell.state) cells s) f.there in
      let seen_there : slice_get (seen cells) q ≡ Some c.stamp = slice_get-map (λ (cell : TaggedCell). cell.stamp) (visible_of cells) q ∙ ap (option_map (λ (cell : TaggedCell). cell.stamp)) f.there in
      let shown_there : slice_get (tagged_text cells) q ≡ Some (shows c) = slice_get-map shows (visible_of cells) q ∙ ap (option_map shows) f.there in
      let parts = and_parts (is_in_spans spans c.stamp) _ f.passes in
      let differs : differ on (is_on name c.state) ≡ true = (and_parts (not (is_settled w c.state)) _ parts.1).1 in
      let zero_more : 0 + q ≡ q = omega arith in
      let now : slice_get (tagged_text (changed_by stamp (Tag on name spans) cells)) q ≡ Some (tagged_with on name (shows c)) =
      ap (λ t. slice_get t q) (tag_text stamp on name spans cells s)
      ∙ get_changed (retags stamp (Tag on name spans) cells) (tagged_with on name) 0 (tagged_text cells) q
      ∙ (λ i. option_map (λ x. cond ((ap (retags stamp (Tag on name spans) cells) zero_more ∙ e) i) (tagged_with on name x) x) (shown_there i)) in
      record {
        stamp = c.stamp;
        seen_before = seen_there;
        seen_after = ap (λ l. slice_get l q) (seen_written spans w cells) ∙ seen_there;
        before = ap (option_map (λ (x : TaggedCharacter). is_listed name x.tags)) shown_there ∙ ap Some (sym (on_is_listed name c.state sorted) ∙ other on (is_on name c.state) differs);
        after = ap (option_map (λ (x : TaggedCharacter). is_listed name x.tags)) now ∙ ap Some (tags_listed on name name (names_on c.state) ∙ ap (λ b. cond b on (is_listed name (names_on c.state))) (name_itself name));
      }
    where
      other : (a b : Bool) → differ a b ≡ true → b ≡ not a
      other true true h = sym h
      other true false h = refl
      other false true h = refl
      other false false h = h

-- ALL CHANGES

exact_by : (stamp : Stamp) (body : Body) (cells : List TaggedCell) → AreByName cells → AreNew stamp body cells → All (EachChanges cells (changed_by stamp body cells)) (body_changes stamp body cells)
exact_by stamp (Insert after tags text) cells s new =
    let place = visible_before cells (skip_from cells after stamp) in
    All-cons (EachChanges cells (changed_by stamp (Insert after tags text) cells)) (Inserted place text tags) []
    (λ q l m. put_in_at stamp after tags text cells q new l m)
    (All-nil (EachChanges cells (changed_by stamp (Insert after tags text) cells)))
exact_by stamp (Delete spans) cells s new =
    All-map (EachChanges cells (changed_by stamp (Delete spans) cells)) (λ (run : PlaceRun). Deleted run.from run.to) (runs_of (takes_away (Delete spans) cells) (length (visible_of cells)))
    (runs_are (IsTakenAt cells (changed_by stamp (Delete spans) cells)) (takes_away (Delete spans) cells) (length (visible_of cells)) (λ q l e. deleted_at stamp spans cells q e))
exact_by stamp (Tag on name spans) cells s new =
    All-map (EachChanges cells (changed_by stamp (Tag on name spans) cells)) (λ (run : PlaceRun). Tagged on name run.from run.to) (runs_of (retags stamp (Tag on name spans) cells) (length (visible_of cells)))
    (runs_are (IsRetaggedAt on name cells (changed_by stamp (Tag on name spans) cells)) (retags stamp (Tag on name spans) cells) (length (visible_of cells)) (λ q l e. retagged_at stamp on name spans cells q s e))

-- HISTORIES

are_new : (set : List Operation) (op : Operation) → IsHistory set → Continues set op → AreNew (stamp_of op) op.body (cells_of set)
are_new set op h k s m =
    cells_have set h s
    ∙ (λ i. inserted_new set op k s m i || not_final s (let r = inserted_range op s m in omega (arith, r.site, (sound_of k).site)) i)

pub changes_exact : (set : List Operation) (op : Operation) → IsHistory set → Continues set op → All (EachChanges (cells_of set) (cells_of (with_operation op set))) (changes_of op (cells_of set))
changes_exact set op h k =
    subst (λ new. All (EachChanges (cells_of set) new) (changes_of op (cells_of set))) (sym (cells_with op set h k))
    (exact_by (stamp_of op) op.body (cells_of set) (by_name set h) (are_new set op h k))

pub taken_gone : (set : List Operation) (op : Operation) (place : ℕ) (stamp : Stamp) → IsHistory set → Continues set op → slice_get (stamps_of (visible_of (cells_of set))) place ≡ Some stamp
    → takes_away op.body (cells_of set) place ≡ not (is_among (stamps_of (visible_of (cells_of (with_operation op set)))) stamp)
taken_gone set op place stamp h k e =
    taken_by (stamp_of op) op.body (cells_of set) place stamp e ∙ ap (λ cells. not (is_among (seen cells) stamp)) (sym (cells_with op set h k))

all_below_map : {X Y : Type 0} (P : Y → Type 0) (f : X → Y) (xs : List X) → All P (map f xs) → All (λ x. P (f x)) xs
all_below_map P f [] h = All-nil (λ x. P (f x))
all_below_map P f (x ∷ xs) h = All-cons (λ x. P (f x)) x xs (All-head P (f x) (map f xs) h) (all_below_map P f xs (All-tail P (f x) (map f xs) h))

-- a state says what the greatest write on its character says
abbrev SaysShared : List Operation → Name → TaggedCell → Type 0
SaysShared set name c = is_on name c.state ≡ is_shared name (stamped_writes_on set c.stamp)

module _ (set : List Operation) (op : Operation) (on : Bool) (name : Name) (spans : List Span) (e : op.body ≡ Tag on name spans) (h : IsHistory set) (k : Continues set op) where
  abbrev more : List Operation
  more = with_operation op set

  abbrev v : Write
  v = record { name = name; writer = stamp_of op; on = on }

  written_cells : cells_of more ≡ map (written_in_any spans v) (cells_of set)
  written_cells = cells_with op set h k ∙ ap (λ b. changed_by (stamp_of op) b (cells_of set)) e

  said : All (SaysShared set name) (visible_of (cells_of set))
  said = All-filter (λ cell. not cell.gone) (SaysShared set name) (cells_of set) (shared_on set name h)

  says : All (λ (c : TaggedCell). SaysShared more name (written_in_any spans v c)) (visible_of (cells_of set))
  says = All-filter (λ cell. not cell.gone) (λ (c : TaggedCell). SaysShared more name (written_in_any spans v c)) (cells_of set)
      (all_below_map (SaysShared more name) (written_in_any spans v) (cells_of set) (subst (All (SaysShared more name)) written_cells (shared_on more name (history_with op set h k))))

  same_stamp : (c : TaggedCell) (b : Bool) → (cond b (with_write v c) c).stamp ≡ c.stamp
  same_stamp c true = refl
  same_stamp c false = refl

  pub retagged_differ : (place : ℕ) (stamp : Stamp) → slice_get (stamps_of (visible_of (cells_of set))) place ≡ Some stamp
      → retags (stamp_of op) op.body (cells_of set) place ≡ differ (is_shared name (stamped_writes_on set stamp)) (is_shared name (stamped_writes_on more stamp))
  retagged_differ place stamp g =
      ap (λ b. retags (stamp_of op) b (cells_of set) place) e ∙ by (slice_get (visible_of (cells_of set)) place) refl (sym (slice_get-map (λ (cell : TaggedCell). cell.stamp) (visible_of (cells_of set)) place) ∙ g)
    where
      by : (o : Option TaggedCell) → slice_get (visible_of (cells_of set)) place ≡ o → option_map (λ (cell : TaggedCell). cell.stamp) o ≡ Some stamp
          → unwrap_or (option_map (changes_tag (stamp_of op) (Tag on name spans)) o) false ≡ differ (is_shared name (stamped_writes_on set stamp)) (is_shared name (stamped_writes_on more stamp))
      by None there s = absurd (cc s)
      by (Some c) there s =
          let is : c.stamp ≡ stamp = cc s in
          let old : is_on name c.state ≡ is_shared name (stamped_writes_on set c.stamp) = at_all (SaysShared set name) (visible_of (cells_of set)) place c said there in
          let new : is_on name (written_in_any spans v c).state ≡ is_shared name (stamped_writes_on more (written_in_any spans v c).stamp) =
          at_all (λ (c : TaggedCell). SaysShared more name (written_in_any spans v c)) (visible_of (cells_of set)) place c says there in
          changes_differ (stamp_of op) on name spans c
          ∙ (λ i. differ (old i) (new i))
          ∙ ap (λ s. differ (is_shared name (stamped_writes_on set c.stamp)) (is_shared name (stamped_writes_on more s))) (same_stamp c (is_in_spans spans c.stamp))
          ∙ ap (λ s. differ (is_shared name (stamped_writes_on set s)) (is_shared name (stamped_writes_on more s))) is
