-- What the deletion of a replacement leaves, as its insertion finds it.
use Rattle.std.proofs.Common.{◌≡◌, ◌∙◌, ℕ, zero, suc, ◌+◌, ◌-◌, ◌<◌, ◌≤◌, ◌&&◌, ◌||◌, ◌++◌, ◌⊎◌, inl, inr, Bool, true, false, cond, not, All, List, [], ◌∷◌, length, map, min, take, drop, Option, None, Some, refl, sym, ap, arith, subst, nat_lt, nat_le, get_or}
use Rattle.std.specs.Prelude.{IfSome, is_some, nat_eq, option_map, option_and_then, slice_get, unwrap_or}
use Rattle.std.specs.List.{AllByRecursion, IsDistinct}
use Rattle.std.proofs.lemmas.Bool.{and_from, and_parts, or_from, or_left, or_right}
use Rattle.std.proofs.lemmas.Bool.Decides.{nat_tests}
use Rattle.std.proofs.lemmas.List.Elements.{filter-append}
use Rattle.std.proofs.lemmas.Option.{get_or_from_slice_get, slice_get_cases, slice_get_within}
use Rattle.rt_marks.specs.Marks.{place_left}
use Rattle.rt_stamps.specs.declared.limits.TheConstants.{GREATEST_COUNT, MOST_CHARACTERS, MOST_SPANS}
use Rattle.rt_stamps.specs.declared.stamp.Stamp.{Stamp}
use Rattle.rt_stamps.specs.declared.stamp.TheConstants.{FINAL, ROOT}
use Rattle.rt_stamps.specs.Stamps.{is_same}
use Rattle.rt_stamps.specs.Words.{Word}
use Rattle.rt_stamps.proofs.Order.{same_refl, same_sym}
use Rattle.rt_ops.specs.Operations.{Body, Delete, last_of}
use Rattle.rt_store.specs.Cells.{AreDistinct, stamps_of, visible_of}
use Rattle.rt_store.specs.Shown.{TaggedCell}
use Rattle.rt_store.specs.Spans.{is_among}
use Rattle.rt_store.specs.Written.{IsWritten}
use Rattle.rt_store.proofs.Distinct.{first_apart, others_distinct, split}
use Rattle.rt_tags.specs.States.{IsByName, names_on}
use Rattle.rt_rga.specs.Cells.{writes_on}
use Rattle.rt_rga.specs.Histories.{IsHistory, greatest_last_count}
use Rattle.rt_rga.specs.Requests.{last_count_after}
use Rattle.rt_rga.proofs.Corollaries.{all_states, cells_distinct}
use Rattle.rt_rga.proofs.Requests.{all_count_on}
use Rattle.rt_rga.proofs.Writes.{state_sorted}
use Rattle.rt_plans.specs.declared.range.Range.{Range}
use Rattle.rt_plans.specs.Deletions.{Loss, delete_drafts, newline_left, without_places, without_text}
use Rattle.rt_plans.specs.DraftLaws.{IsDocument}
use Rattle.rt_plans.specs.DocValue.{DocValue, left_stamp}
use Rattle.rt_plans.specs.Insertions.{Insertion, Piece, insertion_of, left_neighbour, right_neighbour, with_pieces}
use Rattle.rt_plans.specs.InsertionDrafts.{insertion_drafts}
use Rattle.rt_plans.specs.RemovalDrafts.{removal_drafts}
use Rattle.rt_plans.specs.Removals.{is_covered, is_in}
use Rattle.rt_plans.specs.Selections.{unselected}
use Rattle.rt_plans.specs.TagDrafts.{newline_drafts}
use Rattle.rt_plans.specs.TagWrites.{bared}
use Rattle.rt_plans.proofs.DeletionDraftLaws.{loss_counted, stamps_gone}
use Rattle.rt_plans.proofs.PieceDraftLaws.{apart_front}
use Rattle.rt_lines.specs.declared.limits.Limits.{Limits}
use Rattle.rt_lines.specs.declared.stretch.Stretch.{Stretch}
use Rattle.rt_lines.specs.Limits.{place_of}
use Rattle.rt_lines.specs.Stretches.{part}
use Rattle.rt_text.specs.Commands.{none_inserted, right_behind, stretch_with}
use Rattle.rt_text.specs.Neighbours.{are_sides_shown, pieces_text}
use Rattle.rt_text.specs.Replacements.{drafts_at, insertion_at}
use Rattle.rt_text.specs.Widgets.{WidgetValue, ViewValue, in_text, last_newline, selections_of, cells_shown}
use Rattle.rt_text.proofs.BareNewline.{IsBare, all_bare, bare_drafts, bare_insertion}
use Rattle.rt_text.proofs.InsertedDocument.{drafts_are, new_is}
use Rattle.rt_text.proofs.InsertedSides.{IsFound, IsPlace, IsRight, are_shown, document_below, left_there, right_is, right_there}
use Rattle.rt_text.proofs.LeftDocument.{at_is, end_stays, is_place, last_place, left, loss, size, some, stretch, within}
use Rattle.rt_text.proofs.LeftPlaces.{newline_gone}
use Rattle.rt_text.proofs.LimitedDeletions.{widget_left}
use Rattle.rt_text.proofs.MadeDocument.{document_written}
use Rattle.rt_text.proofs.NewCells.{AreNew, none_new}
use Rattle.rt_text.proofs.PutPlaces.{IsSeen, among_append, seen_at}
use Rattle.rt_text.proofs.ShownSides.{AreNewlines}
use Rattle.rt_text.proofs.StayingPlaces.{left_small, stays_at}
use Rattle.rt_text.proofs.ViewLaws.{viewed}

-- COUNTS

-- each operation of a deletion takes one count
counted_one : (drafts : List Body) (count : ℕ) → AllByRecursion (λ draft. (n : ℕ) → last_of n draft ≡ n) drafts → last_count_after count drafts ≡ count + length drafts
counted_one [] count h = omega arith
counted_one (draft ∷ drafts) count h =
    let rest : last_count_after (count + 1) drafts ≡ count + suc (length drafts) = counted_one drafts (count + 1) h.1 ∙ (let e : count + 1 + length drafts ≡ count + suc (length drafts) = omega arith in e) in
    ap (λ n. last_count_after n drafts) (h.0 (count + 1)) ∙ rest

deletes_one : {X : Type 0} (f : X → Body) (xs : List X) → ((x : X) (n : ℕ) → last_of n (f x) ≡ n) → AllByRecursion (λ draft. (n : ℕ) → last_of n draft ≡ n) (map f xs)
deletes_one f [] h = tt
deletes_one f (x ∷ xs) h = (h x, deletes_one f xs h)

both_one : (xs ys : List Body) → AllByRecursion (λ draft. (n : ℕ) → last_of n draft ≡ n) xs → AllByRecursion (λ draft. (n : ℕ) → last_of n draft ≡ n) ys
    → AllByRecursion (λ draft. (n : ℕ) → last_of n draft ≡ n) (xs ++ ys)
both_one [] ys h k = k
both_one (x ∷ xs) ys h k = (h.0, both_one xs ys h.1 k)

delete_one : (document : DocValue) (loss : Loss) → AllByRecursion (λ draft. (n : ℕ) → last_of n draft ≡ n) (delete_drafts MOST_SPANS document loss)
delete_one document loss =
    both_one (removal_drafts MOST_SPANS loss.places document.cells) _ (deletes_one (λ spans. Delete spans) _ (λ x n. refl)) (by (newline_left document loss))
  where
    by : (o : Option TaggedCell) → AllByRecursion (λ draft. (n : ℕ) → last_of n draft ≡ n) (unwrap_or (option_map (λ (cell : TaggedCell). newline_drafts cell.stamp (names_on cell.state)) o) [])
    by None = tt
    by (Some cell) = deletes_one _ (names_on cell.state) (λ x n. refl)

pub deletion_count : (document : DocValue) (loss : Loss) → IsHistory document.log → IsDocument document.site document.log document → (without_text document loss).count ≡ document.count + length (delete_drafts MOST_SPANS document loss)
deletion_count document loss h doc =
    let drafts = delete_drafts MOST_SPANS document loss in
    sym (loss_counted document.site document.log document loss h doc) ∙ all_count_on document.site drafts document.log ∙ counted_one drafts (greatest_last_count document.log) (delete_one document loss)
    ∙ ap (λ n. n + length drafts) (sym doc.count)

-- PLACES

left_none : (removed : ℕ → Bool) (m : ℕ) → removed m ≡ true → place_left removed (suc m) ≡ place_left removed m
left_none removed m e = ap (λ b. place_left removed m + cond b 0 1) e ∙ (let same : place_left removed m + 0 ≡ place_left removed m = omega arith in same)

-- where all places from one on are removed, the end comes to stand no later
left_all : (removed : ℕ → Bool) (from m : ℕ) → from ≤ m → ((p : ℕ) → from ≤ p → p < m → removed p ≡ true) → place_left removed m ≤ from
left_all removed from zero h f = omega (arith, h)
left_all removed from (suc m) h f = split (nat_le from m)
    (λ t. let l : from ≤ m = grind (arith, nat_tests, t) in
    let ih = left_all removed from m l (λ p a b. f p a (omega (arith, b))) in
    omega (arith, ih, left_none removed m (f m l (omega arith))))
    (λ e. let same : from ≡ suc m = grind (arith, nat_tests, h, e) in
    subst (λ n. place_left removed (suc m) ≤ n) (sym same) (left_small removed (suc m)))

-- NEIGHBOURS

slice_front : {X : Type 0} (xs ys : List X) (q : ℕ) → q < length xs → slice_get (xs ++ ys) q ≡ slice_get xs q
slice_front [] ys q h = absurd (omega (arith, h))
slice_front (x ∷ xs) ys zero h = refl
slice_front (x ∷ xs) ys (suc q) h = slice_front xs ys q (omega (arith, h))

slice_seam : {X : Type 0} (xs : List X) (y : X) (ys : List X) → slice_get (xs ++ y ∷ ys) (length xs) ≡ Some y
slice_seam [] y ys = refl
slice_seam (x ∷ xs) y ys = slice_seam xs y ys

left_front : (xs ys : List TaggedCell) (p : ℕ) → p ≤ length xs → left_neighbour (xs ++ ys) p ≡ left_neighbour xs p
left_front xs ys zero h = refl
left_front xs ys (suc q) h = slice_front xs ys q (omega (arith, h))

visible_middle : (front : List TaggedCell) (cell : TaggedCell) (rest : List TaggedCell) → cell.gone ≡ false → visible_of (front ++ cell ∷ rest) ≡ visible_of front ++ cell ∷ visible_of rest
visible_middle front cell rest g = filter-append (λ (c : TaggedCell). not c.gone) front (cell ∷ rest) ∙ ap (λ b. visible_of front ++ cond (not b) (cell ∷ visible_of rest) (visible_of rest)) g

split_at : {X : Type 0} (xs : List X) (n : ℕ) (x : X) → slice_get xs n ≡ Some x → xs ≡ take n xs ++ x ∷ drop (suc n) xs
split_at [] n x h = let bad : ⊥ = cc in absurd bad
split_at (y ∷ ys) zero x h = let e : y ≡ x = cc in ap (λ z. z ∷ ys) e
split_at (y ∷ ys) (suc n) x h = ap (λ l. y ∷ l) (split_at ys n x h)

apart_rest : (front : List TaggedCell) (x : TaggedCell) (rest : List TaggedCell) → AreDistinct (front ++ x ∷ rest) → is_among (stamps_of rest) x.stamp ≡ false
apart_rest [] x rest d = first_apart x.stamp (stamps_of rest) d
apart_rest (y ∷ ys) x rest d = apart_rest ys x rest (others_distinct y.stamp (stamps_of (ys ++ x ∷ rest)) d)

-- the element behind which text goes, by the left neighbour
pub element_left : (cells : List TaggedCell) (p : ℕ) → left_stamp cells p ≡ unwrap_or (option_map (λ cell. cell.stamp) (left_neighbour (visible_of cells) p)) ROOT
element_left cells zero = refl
element_left cells (suc p) = refl

-- the left neighbour that is shown, by that of the text
left_side : (document : DocValue) (own : WidgetValue) (others : List WidgetValue) (place : ℕ) (before : Option TaggedCell) → IsPlace document own others place → before ≡ left_neighbour (visible_of document.cells) (in_text (viewed document own others) place)
    → cond (nat_eq place 0) None before ≡ left_neighbour (cells_shown (viewed document own others)) place
left_side document own others zero before is e = refl
left_side document own others (suc p) before is e =
    let later : nat_eq (suc p) 0 ≡ false = grind (arith, nat_tests) in
    ap (λ b. cond b None before) later ∙ e ∙ sym (left_there document own others (suc p) is)

-- SELECTIONS

none_kept : (stamp : Stamp) (sel : List Stamp) → is_among (unselected (stamp ∷ []) sel) stamp ≡ false
none_kept stamp [] = refl
none_kept stamp (s ∷ sel) = by (is_same stamp s) refl (none_kept stamp sel)
  where
    by : (b : Bool) → is_same stamp s ≡ b → is_among (unselected (stamp ∷ []) sel) stamp ≡ false
        → is_among (cond (not (b || false)) (s ∷ unselected (stamp ∷ []) sel) (unselected (stamp ∷ []) sel)) stamp ≡ false
    by true e rest = rest
    by false e rest = or_from (is_same s stamp) _ (same_sym s stamp ∙ e) rest

none_each : (removed : ℕ → Bool) (stamp : Stamp) (others : List WidgetValue) → AllByRecursion (λ selection. is_among selection stamp ≡ false) (selections_of (map (widget_left removed stamp true) others))
none_each removed stamp [] = tt
none_each removed stamp (own ∷ others) = (none_kept stamp own.sel, none_each removed stamp others)

pub of_any : {X : Type 0} (o : Option X) (P : Type 0) → P → IfSome o (λ x. P)
of_any None P h = tt
of_any (Some x) P h = h

-- WHAT THE DELETION LEAVES

-- both sides of a place behind pieces are shown, by the cells that are left
abbrev pub shown_in : List TaggedCell → Limits → ℕ → List Piece → Bool
shown_in cells limits at pieces =
    are_sides_shown (option_and_then (place_of cells) limits.start) (option_and_then (place_of cells) limits.end) at (pieces_text pieces)

module _ (document : DocValue) (own : WidgetValue) (others : List WidgetValue) (range : Range) (h : IsHistory document.log) (doc : IsDocument document.site document.log document) where
  abbrev lost : Loss
  lost = loss document own others range h doc

  abbrev shows : Stretch
  shows = stretch document own others range h doc

  abbrev after_all : ViewValue
  after_all = left document own others range h doc

  abbrev end_place : ℕ
  end_place = last_place document own others range h doc

  abbrev pub gone : DocValue
  gone = without_places document lost.places

  abbrev shown_text : List ℕ
  shown_text = map (λ cell. cell.ch) (part shows (visible_of document.cells))

  -- a range that holds the last newline begins no earlier than this comes to stand
  held_last : is_some lost.newline ≡ true → end_place ≤ shows.begin + range.from
  held_last e =
      let last = length shown_text - 1 in
      let n = size document own others range h doc in
      let one = some document own others range h doc in
      let inside : is_in range last ≡ true = covered (is_in range last) (by (is_covered (range ∷ []) last) e) in
      let p = and_parts (nat_le range.from last) (nat_lt last range.to) inside in
      let begun : range.from ≤ last = grind (arith, nat_tests, p.0) in
      let to : last < range.to = grind (arith, nat_tests, p.1) in
      left_all lost.places (shows.begin + range.from) (shows.end - 1) (omega (arith, begun, n, one))
      (λ q a b.
      let low : nat_le shows.begin q ≡ true = le shows.begin q (omega (arith, a)) in
      let less : nat_lt (q - shows.begin + 1) (length shown_text) ≡ true = lt (q - shows.begin + 1) (length shown_text) (omega (arith, a, b, n, one)) in
      let here : is_in range (q - shows.begin) ≡ true =
      and_from (nat_le range.from (q - shows.begin)) (nat_lt (q - shows.begin) range.to) (le range.from (q - shows.begin) (omega (arith, a))) (lt (q - shows.begin) range.to (omega (arith, a, b, n, one, to))) in
      and_from (nat_le shows.begin q) _ low (and_from (nat_lt (q - shows.begin + 1) (length shown_text)) _ less (or_left _ _ (or_left _ _ here))))
    where
      le : (a b : ℕ) → a ≤ b → nat_le a b ≡ true
      le a b l = grind (arith, nat_tests, l)

      lt : (a b : ℕ) → a < b → nat_lt a b ≡ true
      lt a b l = grind (arith, nat_tests, l)

      by : (b : Bool) → is_some (cond b (Some (shows.begin + (length shown_text - 1))) None) ≡ true → b ≡ true
      by true k = refl
      by false k = absurd (cc k)

      covered : (b : Bool) → (b || false) ≡ true → b ≡ true
      covered true k = refl
      covered false k = absurd (cc k)

  -- where the last newline isn't held, the removal alone
  left_plain : is_some lost.newline ≡ false → without_text document lost ≡ gone
  left_plain e = by lost.newline e
    where
      by : (o : Option ℕ) → is_some o ≡ false → unwrap_or (option_map (λ (cell : TaggedCell). bared gone cell.stamp (names_on cell.state)) (option_and_then (slice_get (visible_of document.cells)) o)) gone ≡ gone
      by None k = refl
      by (Some p) k = absurd (cc k)

  pub sel_kept : is_some lost.newline ≡ false → after_all.own.sel ≡ own.sel
  sel_kept e = ap (λ b. cond b (unselected (last_newline (viewed document own others) ∷ []) own.sel) own.sel) e

  -- the insertion, by neighbours
  abbrev inserting : List Piece → Word → Option TaggedCell → Option TaggedCell → Insertion
  inserting pieces rest l r = insertion_of after_all.doc.site l r pieces rest (none_inserted after_all)

  abbrev drafting : List Piece → Word → Stamp → Option TaggedCell → Option TaggedCell → List Body
  drafting pieces rest after l r = insertion_drafts MOST_CHARACTERS after_all.doc.site after l r pieces rest (none_inserted after_all)

  -- the same insertion, and the same operations, as at a place
  pub record IsBetween (pieces : List Piece) (rest : Word) (place : ℕ) (after : Stamp) (l r : Option TaggedCell) : Type 0 where
    pub insertion : inserting pieces rest l r ≡ insertion_at after_all place pieces rest
    pub drafts : drafting pieces rest after l r ≡ drafts_at after_all place pieces rest

  module _ (real : 0 < document.site) (known : AreNewlines document.cells own.limits) (fits : (without_text document lost).count ≤ GREATEST_COUNT) (pieces : List Piece) (rest : Word) (at : ℕ) (here : at ≡ min (shows.begin + range.from) end_place) where
    abbrev place : ℕ
    place = at - shows.begin

    is : IsPlace after_all.doc after_all.own after_all.others place
    is = is_place document own others range h doc at here real fits

    in_left : in_text after_all place ≡ at
    in_left = at_is document own others range h doc at here

    -- limits stay newlines where these go
    still : AreNewlines gone.cells own.limits
    still = (newline_gone lost.places document.cells own.limits.start known.0, newline_gone lost.places document.cells own.limits.end known.1)

    between_plain : (before : Option TaggedCell) (after : Stamp) (l r : Option TaggedCell) → is_some lost.newline ≡ false → before ≡ left_neighbour (visible_of gone.cells) at → l ≡ cond (nat_eq place 0) None before
        → after ≡ unwrap_or (option_map (λ cell. cell.stamp) before) ROOT → r ≡ cond (shown_in gone.cells own.limits at pieces) (right_neighbour (visible_of gone.cells) at) None → IsBetween pieces rest place after l r
    between_plain before after l r e a b c d =
        let same : gone.cells ≡ after_all.doc.cells = ap (λ (f : DocValue). f.cells) (sym (left_plain e)) in
        let near : before ≡ left_neighbour (visible_of after_all.doc.cells) (in_text after_all place) = a ∙ (λ i. left_neighbour (visible_of (same i)) (sym in_left i)) in
        let next : r ≡ cond (are_shown after_all.doc after_all.own.limits (in_text after_all place) pieces) (right_neighbour (cells_shown after_all) place) None =
        d ∙ (λ i. cond (shown_in (same i) own.limits (sym in_left i) pieces) (slice_get (visible_of (same i)) (sym in_left i)) None)
        ∙ ap (λ o. cond (are_shown after_all.doc after_all.own.limits (in_text after_all place) pieces) o None) (sym (right_there after_all.doc after_all.own after_all.others place is)) in
        let found : IsFound after_all.doc after_all.own after_all.others place pieces after l r = record {
          element = c ∙ ap (λ o. unwrap_or (option_map (λ (cell : TaggedCell). cell.stamp) o) ROOT) near ∙ sym (element_left after_all.doc.cells (in_text after_all place));
          before = b ∙ left_side after_all.doc after_all.own after_all.others place before is near;
          next = subst (IsRight after_all.doc after_all.own after_all.others place pieces) (sym next) (right_is after_all.doc after_all.own after_all.others place pieces is (subst (λ (l : List TaggedCell). AreNewlines l own.limits) same still));
        } in
        record {
          insertion = new_is after_all.doc after_all.own after_all.others place pieces rest after l r found;
          drafts = drafts_are after_all.doc after_all.own after_all.others place pieces rest after l r found;
        }

    -- THE LAST NEWLINE, WHERE IT IS HELD

    abbrev newest : Stamp
    newest = last_newline (viewed document own others)

    last_cell : (cell : TaggedCell) × (slice_get (visible_of document.cells) (shows.end - 1) ≡ Some cell)
    last_cell = by (slice_get_cases (visible_of document.cells) (shows.end - 1)).1
      where
        by : ((x : TaggedCell) × (shows.end - 1 < length (visible_of document.cells)) × (slice_get (visible_of document.cells) (shows.end - 1) ≡ Some x) × (get_or (visible_of document.cells) (shows.end - 1) x ≡ x))
            ⊎ ((length (visible_of document.cells) ≤ shows.end - 1) × (slice_get (visible_of document.cells) (shows.end - 1) ≡ None)) → (cell : TaggedCell) × (slice_get (visible_of document.cells) (shows.end - 1) ≡ Some cell)
        by (inl w) = (w.0, w.2)
        by (inr w) = absurd (omega (arith, w.0, within document own others range h doc, some document own others range h doc))

    newest_is : newest ≡ last_cell.0.stamp
    newest_is = ap (λ o. unwrap_or (option_map (λ (c : TaggedCell). c.stamp) o) FINAL) last_cell.1

    left_held : is_some lost.newline ≡ true → without_text document lost ≡ bared gone last_cell.0.stamp (names_on last_cell.0.state)
    left_held e =
        ap (λ o. unwrap_or (option_map (λ (cell : TaggedCell). bared gone cell.stamp (names_on cell.state)) o) gone) (by (is_covered (range ∷ []) (length shown_text - 1)) e ∙ there)
      where
        by : (b : Bool) → is_some (cond b (Some (shows.begin + (length shown_text - 1))) None) ≡ true
            → option_and_then (slice_get (visible_of document.cells)) (cond b (Some (shows.begin + (length shown_text - 1))) None) ≡ slice_get (visible_of document.cells) (shows.begin + (length shown_text - 1))
        by true k = refl
        by false k = absurd (cc k)

        there : slice_get (visible_of document.cells) (shows.begin + (length shown_text - 1)) ≡ Some last_cell.0
        there =
            let n : shows.begin + (length shown_text - 1) ≡ shows.end - 1 = omega (arith, size document own others range h doc, some document own others range h doc) in
            ap (slice_get (visible_of document.cells)) n ∙ last_cell.1

    seen_left : IsSeen gone.cells end_place last_cell.0
    seen_left = seen_at gone.cells end_place last_cell.0 (stays_at lost.places document.cells (shows.end - 1) end_place (end_stays document own others range h doc) refl ∙ last_cell.1)

    split_left : gone.cells ≡ take seen_left.position gone.cells ++ last_cell.0 ∷ drop (suc seen_left.position) gone.cells
    split_left = split_at gone.cells seen_left.position last_cell.0 seen_left.is

    of_last : (P : TaggedCell → Type 0) → All P document.cells → P last_cell.0
    of_last P all =
        let s = seen_at document.cells (shows.end - 1) last_cell.0 last_cell.1 in
        subst P (get_or_from_slice_get document.cells s.position last_cell.0 last_cell.0 s.is) (all s.position last_cell.0 (slice_get_within document.cells s.position last_cell.0 s.is))

    bare : (new : TaggedCell) × IsBare (take seen_left.position gone.cells) last_cell.0 (drop (suc seen_left.position) gone.cells) (bared gone last_cell.0.stamp (names_on last_cell.0.state)).cells new
    bare =
        let first = take seen_left.position gone.cells in
        let later = drop (suc seen_left.position) gone.cells in
        let cell = last_cell.0 in
        let all : AreDistinct document.cells = subst AreDistinct (sym doc.cells) (cells_distinct document.log h) in
        let distinct : AreDistinct (first ++ cell ∷ later) = subst (IsDistinct is_same) (sym (stamps_gone lost.places 0 document.cells) ∙ ap (λ (l : List TaggedCell). stamps_of l) split_left) all in
        let was : IsWritten document.count cell.state = of_last (λ c. IsWritten document.count c.state) (document_written document h doc) in
        let known : IsWritten gone.count cell.state = λ name w e. let l = was name w e in omega (arith, l) in
        let sorted : All (λ (c : TaggedCell). IsByName c.state) document.cells =
        subst (All (λ (c : TaggedCell). IsByName c.state)) (sym doc.cells) (all_states document.log h IsByName (λ s. state_sorted [] (writes_on document.log s) tt)) in
        all_bare gone first cell later split_left (apart_front first cell later distinct) (apart_rest first cell later distinct) known (of_last (λ c. IsByName c.state) sorted)

    -- whether the right neighbour is shown behind the pieces
    abbrev flag : Bool
    flag =
        nat_lt (stretch_with after_all place pieces).begin (in_text after_all place + length (with_pieces after_all.doc.site pieces (none_inserted after_all)).cells)
        && nat_lt (in_text after_all place + length (with_pieces after_all.doc.site pieces (none_inserted after_all)).cells) (stretch_with after_all place pieces).end

    between_held : (before : Option TaggedCell) (after : Stamp) (l r : Option TaggedCell) → is_some lost.newline ≡ true → before ≡ left_neighbour (visible_of gone.cells) at → l ≡ cond (nat_eq place 0) None before
        → after ≡ unwrap_or (option_map (λ cell. cell.stamp) before) ROOT → r ≡ None → IsBetween pieces rest place after l r
    between_held before after l r e a b c d =
        let first = take seen_left.position gone.cells in
        let later = drop (suc seen_left.position) gone.cells in
        let cell = last_cell.0 in
        let new = bare.0 in
        let low = held_last e in
        let where_at : at ≡ end_place = omega (arith, here, low) in
        let count : length (visible_of first) ≡ at = seen_left.before ∙ sym where_at in
        let few : at ≤ length (visible_of first) = omega (arith, count) in
        let cells : after_all.doc.cells ≡ first ++ new ∷ later = ap (λ (f : DocValue). f.cells) (left_held e) ∙ bare.1.is in
        let seen : visible_of after_all.doc.cells ≡ visible_of first ++ new ∷ visible_of later = ap (λ (x : List TaggedCell). visible_of x) cells ∙ visible_middle first new later (bare.1.gone ∙ seen_left.there) in
        let was : visible_of gone.cells ≡ visible_of first ++ cell ∷ visible_of later = ap (λ (x : List TaggedCell). visible_of x) split_left ∙ visible_middle first cell later seen_left.there in
        let near : before ≡ left_neighbour (visible_of after_all.doc.cells) (in_text after_all place) =
        a ∙ ap (λ v. left_neighbour v at) was ∙ left_front (visible_of first) (cell ∷ visible_of later) at few
        ∙ sym (ap (λ v. left_neighbour v at) seen ∙ left_front (visible_of first) (new ∷ visible_of later) at few) ∙ ap (left_neighbour (visible_of after_all.doc.cells)) (sym in_left) in
        let left_is : l ≡ left_neighbour (cells_shown after_all) place = b ∙ left_side after_all.doc after_all.own after_all.others place before is near in
        let element : after ≡ left_stamp after_all.doc.cells (in_text after_all place) =
        c ∙ ap (λ o. unwrap_or (option_map (λ (x : TaggedCell). x.stamp) o) ROOT) near ∙ sym (element_left after_all.doc.cells (in_text after_all place)) in
        let right_new : right_neighbour (cells_shown after_all) place ≡ Some new =
        right_there after_all.doc after_all.own after_all.others place is ∙ ap (slice_get (visible_of after_all.doc.cells)) in_left ∙ ap (λ v. slice_get v at) seen
        ∙ ap (slice_get (visible_of first ++ new ∷ visible_of later)) (sym count) ∙ slice_seam (visible_of first) new (visible_of later) in
        let stamp_is : new.stamp ≡ newest = bare.1.stamp ∙ sym newest_is in
        let among : is_among (stamps_of after_all.doc.cells) new.stamp ≡ true =
        ap (λ (x : List TaggedCell). is_among (stamps_of x) new.stamp) cells ∙ among_append first (new ∷ later) new.stamp
        ∙ or_right (is_among (stamps_of first) new.stamp) _ (or_left (is_same new.stamp new.stamp) _ (same_refl new.stamp)) in
        let free : (x : List TaggedCell) → AreNew after_all.doc.count after_all.doc.site x → is_among (stamps_of x) new.stamp ≡ false =
        λ x fresh. none_new after_all.doc.count after_all.doc.site after_all.doc.cells x new.stamp (document_below after_all.doc is.history is.document) (omega (arith, is.real)) fresh among in
        let sel : is_among after_all.own.sel new.stamp ≡ false =
        ap (λ f. is_among (cond f (unselected (newest ∷ []) own.sel) own.sel) new.stamp) e ∙ ap (is_among (unselected (newest ∷ []) own.sel)) stamp_is ∙ none_kept newest own.sel in
        let all : AllByRecursion (λ selection. is_among selection new.stamp ≡ false) (selections_of after_all.others) =
        subst (λ f. AllByRecursion (λ selection. is_among selection new.stamp ≡ false) (selections_of (map (widget_left lost.places newest f) others))) (sym e)
        (subst (λ s. AllByRecursion (λ selection. is_among selection s ≡ false) (selections_of (map (widget_left lost.places newest true) others))) (sym stamp_is) (none_each lost.places newest others)) in
        record {
          insertion = ap (inserting pieces rest l) d
              ∙ either flag None (Some new) (inserting pieces rest l) (bare_insertion after_all.doc.site l new pieces rest (none_inserted after_all) free bare.1.off sel all)
              ∙ ap (λ o. inserting pieces rest l (cond flag o None)) (sym right_new) ∙ ap (λ o. inserting pieces rest o (right_behind after_all place pieces)) left_is;
          drafts = ap (drafting pieces rest after l) d
              ∙ either flag None (Some new) (drafting pieces rest after l) (bare_drafts after_all.doc.site after l new pieces rest (none_inserted after_all) bare.1.off)
              ∙ ap (λ o. drafting pieces rest after l (cond flag o None)) (sym right_new) ∙ (λ i. drafting pieces rest (element i) (left_is i) (right_behind after_all place pieces));
        }
      where
        either : {X Y : Type 0} (b : Bool) (x y : X) (f : X → Y) → f x ≡ f y → f x ≡ f (cond b y x)
        either true x y f k = k
        either false x y f k = refl

    -- the neighbours that a plan finds make the insertion into what the deletion leaves
    pub is_between : (held : Bool) (before : Option TaggedCell) (after : Stamp) (l r : Option TaggedCell) → held ≡ is_some lost.newline → before ≡ left_neighbour (visible_of gone.cells) at → l ≡ cond (nat_eq place 0) None before
        → after ≡ unwrap_or (option_map (λ cell. cell.stamp) before) ROOT → r ≡ cond (shown_in gone.cells own.limits at pieces) (cond held None (right_neighbour (visible_of gone.cells) at)) None → IsBetween pieces rest place after l r
    is_between true before after l r k a b c d = between_held before after l r (sym k) a b c (d ∙ none (shown_in gone.cells own.limits at pieces))
      where
        none : (b : Bool) → cond {A = Option TaggedCell} b None None ≡ None
        none true = refl
        none false = refl
    is_between false before after l r k a b c d = between_plain before after l r (sym k) a b c d
