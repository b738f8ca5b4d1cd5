-- The places at which a Tag changes whether its tag is on, and those at which it switches it.
use Rattle.std.proofs.Common.{◌≡◌, ℕ, ◌+◌, ◌<◌, List, [], ◌∷◌, ◌++◌, Bool, true, false, cond, not, ◌&&◌, All, filter, get_or, length, map, take, refl, sym, ◌∙◌, ap, Option, Some, None}
use Rattle.std.specs.Prelude.{option_map, slice_get, unwrap_or}
use Rattle.std.proofs.lemmas.List.{take_more}
use Rattle.std.proofs.lemmas.List.Elements.{filter-append}
use Rattle.rt_stamps.specs.declared.stamp.Span.{Span}
use Rattle.rt_stamps.specs.declared.stamp.Stamp.{Stamp}
use Rattle.rt_stamps.specs.Stamps.{is_before}
use Rattle.rt_ops.specs.Operations.{Name, Tag}
use Rattle.rt_store.specs.declared.cell.Cell.{Cell}
use Rattle.rt_store.specs.declared.cell.CellRun.{CellRun}
use Rattle.rt_store.specs.Cells.{AreDistinct, stamps_of, visible_of}
use Rattle.rt_store.specs.Shown.{TaggedCell, shown}
use Rattle.rt_store.specs.Spans.{is_among, is_in_spans}
use Rattle.rt_store.proofs.Shown.{visible_at_shown}
use Rattle.rt_tags.specs.States.{IsState, IsTag, KeepsIds, TagStates, Write, is_kept, is_on, is_settled, name_at, says_on, state_at, write_at, write_of, written}
use Rattle.rt_tags.proofs.Greatest.{newer, write_of_written}
use Rattle.rt_tags.proofs.Listing.{keeps_both}
use Rattle.rt_tags.proofs.Places.{name_itself, split}
use Rattle.rt_rga.specs.Changes.{with_write, written_in_any}
use Rattle.rt_rga.specs.NamedRuns.{IsCellRun, changes_kept, names_at, spans_of_runs}
use Rattle.rt_rga.specs.Noted.{switches, switches_at}
use Rattle.rt_rga.specs.Taken.{changes_tag, differ, retags}
use Rattle.rt_store.proofs.Positions.{among_at}
use Rattle.rt_rga.proofs.NamedRuns.{passing}
use Rattle.rt_rga.proofs.RemovedPlaces.{found_visible, visible_from}

module _ (stamp : Stamp) (on : Bool) (name : Name) (spans : List Span) where
  abbrev w : Write
  w = record { name = name; writer = stamp; on = on }

  -- where the state's write of the tag changes
  kept_not : (o : Option Write) → is_kept o w ≡ false → newer o w ≡ w
  kept_not None h = refl
  kept_not (Some v) h = by (is_before v.writer w.writer) h
    where
      by : (b : Bool) → not b ≡ false → cond b w v ≡ w
      by true k = refl
      by false k = absurd (cc k)

  on_written : (state : List Write) → is_settled w state ≡ false → is_on name (written w state) ≡ on
  on_written state u =
      ap says_on (write_of_written name w state)
      ∙ ap (λ b. says_on (cond b (Some (newer (write_of name state) w)) (write_of name state))) (name_itself name)
      ∙ ap (λ (v : Write). v.on) (kept_not (write_of name state) u)

  pub changes_differ : (c : TaggedCell) → changes_tag stamp (Tag on name spans) c ≡ differ (is_on name c.state) (is_on name (written_in_any spans w c).state)
  changes_differ c = split (is_in_spans spans c.stamp)
      (λ t. split (is_settled w c.state)
      (λ u. rw t (rw u (sym (itself (is_on name c.state)))))
      (λ u. ap (λ b. b && (not (is_settled w c.state) && differ on (is_on name c.state))) t
      ∙ ap (λ b. not b && differ on (is_on name c.state)) u
      ∙ swap on (is_on name c.state)
      ∙ ap (differ (is_on name c.state)) (sym (ap (λ b. is_on name (cond b (with_write w c) c).state) t ∙ on_written c.state u))))
      (λ n. rw n (sym (itself (is_on name c.state))))
    where
      itself : (b : Bool) → differ b b ≡ false
      itself true = refl
      itself false = refl

      swap : (a b : Bool) → differ a b ≡ differ b a
      swap true true = refl
      swap true false = refl
      swap false true = refl
      swap false false = refl

  kept_test : (table : TagStates) (cell : Cell ℕ) → (is_in_spans spans cell.stamp && changes_kept table w cell) ≡ changes_tag stamp (Tag on name spans) (shown table cell)
  kept_test table cell = split (is_in_spans spans cell.stamp)
      (λ t. ap (λ b. b && changes_kept table w cell) t
      ∙ sym (changes_differ (shown table cell)
      ∙ ap (λ b. differ (is_on name (state_at table cell.state)) (is_on name (cond b (with_write w (shown table cell)) (shown table cell)).state)) t))
      (λ f. rw f refl)

  alike : (table : TagStates) (a b : Cell ℕ) → a.state ≡ b.state → changes_kept table w a ≡ changes_kept table w b
  alike table a b e = ap (λ s. differ (is_on w.name (state_at table s)) (is_on w.name (written w (state_at table s)))) e

  -- The runs of the cells that a Tag names, of which it changes the first ones, have the places at which it changes the text.
  pub places_retagged : (table : TagStates) (kept : List (Cell ℕ)) (runs : List CellRun) (place : ℕ) → AreDistinct kept → All (IsCellRun kept) runs
      → ((s : Stamp) → is_among (stamps_of kept) s ≡ true → is_in_spans (spans_of_runs runs) s ≡ is_in_spans spans s)
      → names_at (spans_of_runs (filter (λ run. changes_kept table w run.cell) runs)) kept place ≡ retags stamp (Tag on name spans) (map (shown table) kept) place
  places_retagged table kept runs place d rs named =
      by (slice_get (visible_of kept) place) refl
      ∙ sym (ap (λ o. unwrap_or (option_map (changes_tag stamp (Tag on name spans)) o) false) (visible_at_shown (state_at table) kept place))
    where
      by : (o : Option (Cell ℕ)) → slice_get (visible_of kept) place ≡ o
          → unwrap_or (option_map (λ cell. is_in_spans (spans_of_runs (filter (λ run. changes_kept table w run.cell) runs)) cell.stamp) o) false
          ≡ unwrap_or (option_map (changes_tag stamp (Tag on name spans)) (option_map (shown table) o)) false
      by None e = refl
      by (Some cell) e =
          let (n, v) = visible_from kept place cell e in
          passing (changes_kept table w) kept runs cell (alike table) d rs (found_visible kept place cell d e).found
          ∙ ap (λ b. b && changes_kept table w cell) (named cell.stamp (among_at kept n cell v.there))
          ∙ kept_test table cell

-- a tag isn't as it is to be in the state of a kept cell
abbrev pub is_switched : TagStates → Bool → Name → Cell ℕ → Bool
is_switched table on name cell = differ on (is_on name (state_at table cell.state))

-- The runs of the cells that a Tag names, of which it switches the first ones, have the places at which it switches its tag.
pub places_switched : (on : Bool) (name : Name) (spans : List Span) (table : TagStates) (kept : List (Cell ℕ)) (runs : List CellRun) (place : ℕ)
    → AreDistinct kept → All (IsCellRun kept) runs
    → ((s : Stamp) → is_among (stamps_of kept) s ≡ true → is_in_spans (spans_of_runs runs) s ≡ is_in_spans spans s)
    → names_at (spans_of_runs (filter (λ run. is_switched table on name run.cell) runs)) kept place
    ≡ switches_at (Tag on name spans) (map (shown table) kept) place
places_switched on name spans table kept runs place d rs named =
    by (slice_get (visible_of kept) place) refl
    ∙ sym (ap (λ o. unwrap_or (option_map (switches (Tag on name spans)) o) false) (visible_at_shown (state_at table) kept place))
  where
    by : (o : Option (Cell ℕ)) → slice_get (visible_of kept) place ≡ o
        → unwrap_or (option_map (λ cell. is_in_spans (spans_of_runs (filter (λ run. is_switched table on name run.cell) runs)) cell.stamp) o) false
        ≡ unwrap_or (option_map (switches (Tag on name spans)) (option_map (shown table) o)) false
    by None e = refl
    by (Some cell) e =
        let (n, v) = visible_from kept place cell e in
        passing (is_switched table on name) kept runs cell (λ a b h. ap (λ s. differ on (is_on name (state_at table s))) h) d rs
        (found_visible kept place cell d e).found
        ∙ ap (λ b. b && is_switched table on name cell) (named cell.stamp (among_at kept n cell v.there))

-- ONE RUN MORE IS LOOKED AT

-- what the code compares, in the table with the state after the write
pub changes_later : (old now new : TagStates) (cell : Cell ℕ) (tag : ℕ) (writer : Stamp) (on : Bool) (after : ℕ)
    → KeepsIds old now → KeepsIds now new → IsTag old tag → IsState old cell.state
    → state_at new after ≡ written (write_at now tag writer on) (state_at now cell.state)
    → differ (is_on (name_at new tag) (state_at new cell.state)) (is_on (name_at new tag) (state_at new after)) ≡ changes_kept old (write_at old tag writer on) cell
changes_later old now new cell tag writer on after first second t s e =
    let both : KeepsIds old new = keeps_both old now new first second in
    let name = (both.tags tag t).1 in
    let was = (both.states cell.state s).1 in
    let next : state_at new after ≡ written (write_at old tag writer on) (state_at old cell.state) =
    e ∙ (λ i. written (record { name = (first.tags tag t).1 i; writer = writer; on = on }) ((first.states cell.state s).1 i)) in
    λ i. differ (is_on (name i) (was i)) (is_on (name i) (next i))

filter_one : {X : Type 0} (test : X → Bool) (xs : List X) (i : ℕ) (item : X) → i < length xs → item ≡ get_or xs i item → filter test (take (i + 1) xs) ≡ filter test (take i xs) ++ cond (test item) (item ∷ []) []
filter_one {X} test xs i item l is =
    ap (filter test) (take_more xs i item l ∙ ap (λ (x : X). take i xs ++ x ∷ []) (sym is)) ∙ filter-append test (take i xs) (item ∷ [])

pub filter_more : {X : Type 0} (test : X → Bool) (done xs : List X) (i : ℕ) (item : X) (b : Bool) → i < length xs → item ≡ get_or xs i item → b ≡ test item
    → done ≡ filter test (take i xs) → done ++ cond b (item ∷ []) [] ≡ filter test (take (i + 1) xs)
filter_more test done xs i item b l is e h = (λ j. h j ++ cond (e j) (item ∷ []) []) ∙ sym (filter_one test xs i item l is)
