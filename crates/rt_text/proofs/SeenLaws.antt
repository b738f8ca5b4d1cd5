-- The tags that a widget sees on the characters of a document.
use Rattle.std.proofs.Common.{◌≡◌, ℕ, suc, ◌+◌, ◌-◌, ◌<◌, ◌≤◌, ◌⊎◌, inl, inr, List, [], ◌∷◌, Bool, true, false, cond, not, All, length, map, refl, subst, sym, ◌∙◌, ap, arith, Option, Some, None}
use Rattle.std.specs.Prelude.{filter, slice_get, option_map, nat_lt}
use Rattle.std.specs.List.{position_or_len}
use Rattle.std.proofs.lemmas.Bool.{le-ltb, lt-ltb, cases_lt}
use Rattle.std.proofs.lemmas.List.Elements.{All-filter}
use Rattle.std.proofs.lemmas.Option.{get_or_from_slice_get, slice_get_within}
use Rattle.rt_index.specs.Widget.{TagEnds, tag_first, tag_last}
use Rattle.rt_marks.specs.Marks.{Mark, HaveOwnNames, mark_of_name}
use Rattle.rt_marks.proofs.Moving.{named_moved, own_moved}
use Rattle.rt_marks.proofs.Names.{named_in_order}
use Rattle.rt_stamps.specs.declared.stamp.Stamp.{Stamp}
use Rattle.rt_stamps.specs.Words.{Word}
use Rattle.rt_store.specs.declared.cell.Cell.{Cell}
use Rattle.rt_store.specs.Cells.{text_of, visible_of, map_state}
use Rattle.rt_store.specs.Tagged.{AreStates, next_place, last_with, last_place}
use Rattle.rt_tags.specs.States.{TagStates, IsState, state_at}
use Rattle.rt_tags.specs.Tags.{is_listed}
use Rattle.rt_store.specs.Shown.{TaggedCell, shown}
use Rattle.rt_text.specs.Proper.{ends_by, tag_by, ends_in}
use Rattle.rt_text.specs.Grounds.{widget_over}
use Rattle.rt_text.specs.Widgets.{WidgetValue, ViewValue, shows_tag, is_tagged_in, length_shown, mark_among, mark_seen, marks_shown, own_mark_of, own_or, widget_seen, widget_shown, cells_shown, stretch_by, tag_ends, tags_shown, text_shown, widget_of}
use Rattle.rt_lines.specs.declared.stretch.Stretch.{Stretch}
use Rattle.rt_lines.specs.Stretches.{part, seen_place, stretch_of}
use Rattle.rt_lines.specs.declared.limits.Limits.{Limits}
use Rattle.rt_lines.proofs.Parts.{part_length, part_map}
use Rattle.rt_plans.specs.DocValue.{DocValue}
use Rattle.rt_store.proofs.Shown.{visible_shown, visible_at_shown, next_map, last_map}

-- LOOK-UPS

-- a part of a document's characters is that of the store's, with what their states stand for
pub part_shown : (table : TagStates) (stretch : Stretch) (kept : List (Cell ℕ)) → part stretch (visible_of (map (shown table) kept)) ≡ map (shown table) (part stretch (visible_of kept))
part_shown table stretch kept = ap (part stretch) (visible_shown (state_at table) kept) ∙ sym (part_map (shown table) stretch (visible_of kept))

-- the next place whose character has a tag
pub next_found : (table : TagStates) (kept : List (Cell ℕ)) (cells : List TaggedCell) (stretch : Stretch) (stamps : List Stamp) (own : WidgetValue) (test : List Stamp → TaggedCell → Bool) (place : ℕ)
    → map (shown table) kept ≡ cells → stamps ≡ own.sel
    → next_place (λ cell. test stamps (shown table cell)) (part stretch (visible_of kept)) place ≡ next_place (test own.sel) (part stretch (visible_of cells)) place
next_found table kept cells stretch stamps own test place e s =
    sym (next_map (test stamps) (shown table) (part stretch (visible_of kept)) place)
    ∙ ap (λ l. next_place (test stamps) l place) (sym (part_shown table stretch kept))
    ∙ (λ i. next_place (test (s i)) (part stretch (visible_of (e i))) place)

-- the state of a visible cell was given out
pub visible_given : (table : TagStates) (kept : List (Cell ℕ)) (place : ℕ) (cell : Cell ℕ) → AreStates table kept → slice_get (visible_of kept) place ≡ Some cell → IsState table cell.state
visible_given table kept place cell h e =
    let p : Cell ℕ → Type 0 = λ c. IsState table c.state in
    let all : All p (visible_of kept) = All-filter (λ c. not c.gone) p kept h in
    subst p (get_or_from_slice_get (visible_of kept) place cell cell e) (all place cell (slice_get_within (visible_of kept) place cell e))

-- the tags of a character
pub tags_found : (table : TagStates) (kept : List (Cell ℕ)) (cells : List TaggedCell) (stamps : List Stamp) (own : WidgetValue) (tags names found : List Word) (place : ℕ) (cell : Cell ℕ)
    → map (shown table) kept ≡ cells → stamps ≡ own.sel → slice_get (visible_of kept) place ≡ Some cell → names ≡ tags
    → found ≡ filter (λ name. is_tagged_in stamps name (shown table cell)) names
    → option_map (tags_shown own tags) (slice_get (visible_of cells) place) ≡ Some found
tags_found table kept cells stamps own tags names found place cell e s h n k =
    ap (λ l. option_map (tags_shown own tags) (slice_get (visible_of l) place)) (sym e)
    ∙ ap (option_map (tags_shown own tags)) (visible_at_shown (state_at table) kept place ∙ ap (option_map (map_state (state_at table))) h)
    ∙ (λ i. Some (filter (λ name. is_tagged_in (sym s i) name (shown table cell)) (sym n i)))
    ∙ ap (λ l. Some l) (sym k)

-- ENDS

none_last : {A : Type 0} (test : A → Bool) (xs : List A) → last_place test xs ≡ None → position_or_len test xs ≡ length xs
none_last test [] h = refl
none_last test (x ∷ xs) h = step (test x) (last_place test xs) (position_or_len test xs) (length xs) h (λ e. none_last test xs e)
  where
    step : (b : Bool) (o : Option ℕ) (n m : ℕ) → last_with b o ≡ None → (o ≡ None → n ≡ m) → cond (not b) (1 + n) 0 ≡ suc m
    step b (Some p) n m h k = let bad : ⊥ = cc in absurd bad
    step true None n m h k = let bad : ⊥ = cc in absurd bad
    step false None n m h k = omega (arith, k refl)

last_none : {A : Type 0} (test : A → Bool) (xs : List A) → position_or_len test xs ≡ length xs → last_place test xs ≡ None
last_none test [] h = refl
last_none test (x ∷ xs) h = step (test x) (last_place test xs) (position_or_len test xs) (length xs) h (λ e. last_none test xs e)
  where
    step : (b : Bool) (o : Option ℕ) (n m : ℕ) → cond (not b) (1 + n) 0 ≡ suc m → (n ≡ m → o ≡ None) → last_with b o ≡ None
    step true o n m h k = absurd (omega (arith, h))
    step false o n m h k = ap (last_with false) (k (omega (arith, h)))

few : {A : Type 0} (test : A → Bool) (xs : List A) → position_or_len test xs ≤ length xs
few test [] = omega arith
few test (x ∷ xs) = by (not (test x)) (position_or_len test xs) (length xs) (few test xs)
  where
    by : (b : Bool) (n m : ℕ) → n ≤ m → cond b (1 + n) 0 ≤ suc m
    by true n m h = omega arith
    by false n m h = omega arith

-- no first place where there is no last one
pub no_next : {A : Type 0} (test : A → Bool) (xs : List A) → last_place test xs ≡ None → next_place test xs 0 ≡ None
no_next test xs h =
    let n = position_or_len test xs in
    let none : nat_lt n (length xs) ≡ false = le-ltb n (length xs) (omega (arith, none_last test xs h)) in
    ap (λ b. option_map (λ k. 0 + k) (cond b (Some n) None)) none

-- no last place where there is no first one
pub no_last : {A : Type 0} (test : A → Bool) (xs : List A) → next_place test xs 0 ≡ None → last_place test xs ≡ None
no_last test xs h =
    by (cases_lt (position_or_len test xs) (length xs))
  where
    by : (position_or_len test xs < length xs) ⊎ (length xs ≤ position_or_len test xs) → last_place test xs ≡ None
    by (inl lt) =
        let n = position_or_len test xs in
        let found : option_map (λ k. 0 + k) (cond true (Some n) None) ≡ None = ap (λ b. option_map (λ k. 0 + k) (cond b (Some n) None)) (sym (lt-ltb n (length xs) lt)) ∙ h in
        let bad : ⊥ = cc in
        absurd bad
    by (inr le) = last_none test xs (omega (arith, few test xs))

first_is : (b : Bool) (next last : Option ℕ) → b ≡ true → (last ≡ None → next ≡ None) → option_map (λ (ends : TagEnds). ends.first) (ends_in (tag_by b (ends_by next last))) ≡ next
first_is true (Some p) (Some q) e h = refl
first_is true (Some p) None e h = let none : Some p ≡ None = h refl in let bad : ⊥ = cc in absurd bad
first_is true None last e h = refl
first_is false next last e h = let bad : ⊥ = cc in absurd bad

last_is : (b : Bool) (next last : Option ℕ) → b ≡ true → (next ≡ None → last ≡ None) → option_map (λ (ends : TagEnds). ends.last) (ends_in (tag_by b (ends_by next last))) ≡ option_map (λ q. q + 1) last
last_is true (Some p) (Some q) e h = refl
last_is true (Some p) None e h = refl
last_is true None last e h = ap (option_map (λ q. q + 1)) (sym (h refl))
last_is false next last e h = let bad : ⊥ = cc in absurd bad

-- where a listed tag begins on a document's characters
pub begins_by : (table : TagStates) (kept : List (Cell ℕ)) (stretch : Stretch) (marks : List Mark) (tags : List Word) (stamps : List Stamp) (own : WidgetValue) (name : Word) → stamps ≡ own.sel → is_listed name tags ≡ true
    → next_place (λ cell. is_tagged_in stamps name (shown table cell)) (part stretch (visible_of kept)) 0 ≡ tag_first (widget_over stretch (map (shown table) kept) marks tags own) name
begins_by table kept stretch marks tags stamps own name s h =
    let chars : List TaggedCell = part stretch (visible_of (map (shown table) kept)) in
    next_found table kept (map (shown table) kept) stretch stamps own (λ selection. is_tagged_in selection name) 0 refl s
    ∙ sym (first_is (is_listed name tags) (next_place (shows_tag own name) chars 0) (last_place (shows_tag own name) chars) h (no_next (shows_tag own name) chars))

-- and where it ends
pub stops_by : (table : TagStates) (kept : List (Cell ℕ)) (stretch : Stretch) (marks : List Mark) (tags : List Word) (stamps : List Stamp) (own : WidgetValue) (name : Word) → stamps ≡ own.sel → is_listed name tags ≡ true
    → option_map (λ q. q + 1) (last_place (λ cell. is_tagged_in stamps name (shown table cell)) (part stretch (visible_of kept))) ≡ tag_last (widget_over stretch (map (shown table) kept) marks tags own) name
stops_by table kept stretch marks tags stamps own name s h =
    let chars : List TaggedCell = part stretch (visible_of (map (shown table) kept)) in
    ap (option_map (λ q. q + 1))
    (sym (ap (last_place (is_tagged_in stamps name)) (part_shown table stretch kept) ∙ last_map (is_tagged_in stamps name) (shown table) (part stretch (visible_of kept)))
    ∙ (λ i. last_place (is_tagged_in (s i) name) chars))
    ∙ sym (last_is (is_listed name tags) (next_place (shows_tag own name) chars 0) (last_place (shows_tag own name) chars) h (no_last (shows_tag own name) chars))

-- THE TEXT THAT A WIDGET SHOWS

pub text_seen : (view : ViewValue) → part (stretch_by view) (text_of view.doc.cells) ≡ text_shown view
text_seen view = sym (part_map (λ (cell : TaggedCell). cell.ch) (stretch_by view) (visible_of view.doc.cells))

-- by the stretch of a store
pub store_seen : (view : ViewValue) (doc : DocValue) (own : WidgetValue) (others : List WidgetValue) (limits : Limits) (stretch : Stretch) (t : List ℕ) → record { doc = doc; own = own; others = others } ≡ view → limits ≡ own.limits
    → stretch ≡ stretch_of doc.cells limits → t ≡ text_of doc.cells → part stretch t ≡ text_shown view
store_seen view doc own others limits stretch t v l s e =
    (λ i. part (s i) (e i)) ∙ ap (λ limits. part (stretch_of doc.cells limits) (text_of doc.cells)) l ∙ text_seen (record { doc = doc; own = own; others = others }) ∙ ap text_shown v

-- how long it is
pub length_seen : (view : ViewValue) → (stretch_by view).end ≤ length (text_of view.doc.cells) → length_shown view ≡ (stretch_by view).end - (stretch_by view).begin
length_seen view h = ap length (sym (text_seen view)) ∙ part_length (stretch_by view) (text_of view.doc.cells) h

-- WHAT INDEX EXPRESSIONS SEE

-- where a mark of the site is seen
pub site_mark_seen : (stretch : Stretch) (own : WidgetValue) (marks : List Mark) (name : List ℕ) (o : Option ℕ) → None ≡ own_mark_of name → o ≡ option_map (λ (m : Mark). m.place) (mark_of_name name marks)
    → option_map (seen_place stretch) o ≡ option_map (λ (m : Mark). m.place) (mark_among (widget_seen stretch own) (map (mark_seen stretch) marks) name)
site_mark_seen stretch own marks name o n e =
    ap (option_map (seen_place stretch)) e ∙ by (mark_of_name name marks) ∙ ap (option_map (λ (m : Mark). m.place)) (sym (named_moved (λ m. seen_place stretch m.place) name marks))
    ∙ ap (λ w. option_map (λ (m : Mark). m.place) (own_or w (widget_seen stretch own) (mark_of_name name (map (mark_seen stretch) marks)))) n
  where
    by : (o : Option Mark) → option_map (seen_place stretch) (option_map (λ (m : Mark). m.place) o) ≡ option_map (λ (m : Mark). m.place) (option_map (mark_seen stretch) o)
    by None = refl
    by (Some m) = refl

-- what index expressions see, by its parts
pub ground_shown : (view : ViewValue) (stretch : Stretch) (cells : List TaggedCell) (marks : List Mark) (tags : List Word) (own : WidgetValue) → stretch ≡ stretch_by view → cells ≡ view.doc.cells → marks ≡ view.doc.marks
    → tags ≡ view.doc.tags → own ≡ view.own → HaveOwnNames view.doc.marks → widget_over stretch cells marks tags own ≡ widget_of view
ground_shown view stretch cells marks tags own s c m t o names =
    (λ i. widget_over (s i) (c i) (m i) (t i) (o i)) ∙ seen
  where
    seen : widget_over (stretch_by view) view.doc.cells view.doc.marks view.doc.tags view.own ≡ widget_of view
    seen =
        let moved : Mark → Mark = mark_seen (stretch_by view) in
        let text = text_seen view in
        let mark : (name : List ℕ) → mark_of_name name (map moved view.doc.marks) ≡ mark_of_name name (marks_shown view) =
        λ name. sym (named_in_order (map moved view.doc.marks) (own_moved (λ m. seen_place (stretch_by view) m.place) view.doc.marks names) name) in
        λ i. record {
          text = text i;
          marks = λ name. option_map (λ (m : Mark). m.place) (own_or (own_mark_of name) (widget_shown view) (mark name i));
          tags = tag_ends view.own (cells_shown view) view.doc.tags;
        }
