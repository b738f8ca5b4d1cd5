-- The neighbours of text that is inserted into what a widget shows.
use Rattle.std.proofs.Common.{◌≡◌, ◌∙◌, ℕ, zero, suc, ◌+◌, ◌-◌, ◌<◌, ◌≤◌, ◌&&◌, ◌++◌, ◌⊎◌, inl, inr, Bool, true, false, cond, not, List, [], ◌∷◌, length, map, take, drop, Option, None, Some, refl, sym, ap, arith, subst, append-nil, take-append-drop}
use Rattle.std.specs.Prelude.{IfSome, nat_eq, nat_lt, option_and_then, option_map, slice_get, unwrap_or}
use Rattle.std.specs.List.{IsDistinct}
use Rattle.std.specs.Str.{chars}
use Rattle.std.proofs.lemmas.Bool.{lt-ltb}
use Rattle.std.proofs.lemmas.Bool.Decides.{nat_tests}
use Rattle.std.proofs.lemmas.List.{length-map}
use Rattle.rt_marks.specs.Marks.{place_left}
use Rattle.rt_marks.proofs.Leaving.{place_kept}
use Rattle.rt_stamps.specs.declared.limits.TheConstants.{MOST_CHARACTERS}
use Rattle.rt_stamps.specs.declared.stamp.Stamp.{Stamp}
use Rattle.rt_stamps.specs.declared.stamp.TheConstants.{ROOT}
use Rattle.rt_stamps.specs.Stamps.{is_same}
use Rattle.rt_stamps.specs.Words.{Word}
use Rattle.rt_store.specs.declared.cell.Cell.{Cell}
use Rattle.rt_store.specs.Cells.{EndsFinal, after_element, stamps_of, text_of, visible_of}
use Rattle.rt_store.specs.Shown.{TaggedCell, shown}
use Rattle.rt_store.specs.Written.{AreBelowNext}
use Rattle.rt_store.proofs.Distinct.{distinct_more}
use Rattle.rt_store.proofs.Shown.{visible_at_shown}
use Rattle.rt_tags.specs.States.{TagStates, state_at}
use Rattle.rt_rga.specs.Histories.{IsHistory}
use Rattle.rt_rga.proofs.Corollaries.{cells_distinct, cells_older, root_absent}
use Rattle.rt_rga.proofs.Final.{ends_final}
use Rattle.rt_plans.specs.DraftLaws.{IsDocument}
use Rattle.rt_plans.specs.DocValue.{DocValue, left_stamp, put_after}
use Rattle.rt_plans.specs.InsertionDrafts.{last_element, insertion_drafts, pieces_drafts, text_drafts}
use Rattle.rt_plans.specs.Insertions.{Insertion, Piece, insertion_of, left_neighbour, on_left, right_neighbour, tags_between, with_pieces, with_unlisted}
use Rattle.rt_plans.specs.Removals.{is_covered}
use Rattle.rt_plans.proofs.RestLaws.{element_shown, left_shown}
use Rattle.rt_lines.specs.declared.limits.Limits.{Limits}
use Rattle.rt_lines.specs.declared.stretch.Stretch.{Stretch}
use Rattle.rt_lines.specs.Limits.{place_of}
use Rattle.rt_lines.specs.Stretches.{shown_part, stretch_of}
use Rattle.rt_lines.proofs.Parts.{part_get}
use Rattle.rt_lines.proofs.Shown.{place_shown}
use Rattle.rt_lines.proofs.Whole.{stretch_within}
use Rattle.rt_text.specs.Commands.{none_inserted, right_behind}
use Rattle.rt_text.specs.Neighbours.{are_sides_shown, is_ahead, stands_behind, limit_left, pieces_text}
use Rattle.rt_text.specs.Widgets.{WidgetValue, ViewValue, in_text, length_shown, cells_shown}
use Rattle.rt_text.proofs.LimitedDeletions.{stretch_kept}
use Rattle.rt_text.proofs.LimitedTags.{shown_length}
use Rattle.rt_text.proofs.NewCells.{AreNew, pieces_are, pieces_new}
use Rattle.rt_text.proofs.ShownSides.{AreNewlines, ArePut, sides_put}
use Rattle.rt_text.proofs.ViewLaws.{viewed}

-- A DOCUMENT'S CELLS

pub document_final : (doc_value : DocValue) → IsHistory doc_value.log → IsDocument doc_value.site doc_value.log doc_value → EndsFinal doc_value.cells
document_final doc_value h doc = subst EndsFinal (sym doc.cells) (ends_final doc_value.log h)

pub document_distinct : (doc_value : DocValue) → IsHistory doc_value.log → IsDocument doc_value.site doc_value.log doc_value → IsDistinct is_same (ROOT ∷ stamps_of doc_value.cells)
document_distinct doc_value h doc =
    subst (λ (l : List TaggedCell). IsDistinct is_same (ROOT ∷ stamps_of l)) (sym doc.cells) (distinct_more ROOT (stamps_of _) (root_absent doc_value.log h) (cells_distinct doc_value.log h))

pub document_below : (doc_value : DocValue) → IsHistory doc_value.log → IsDocument doc_value.site doc_value.log doc_value → AreBelowNext doc_value.count doc_value.cells
document_below doc_value h doc = subst (λ (p : _). p) (λ i. AreBelowNext (sym doc.count i) (sym doc.cells i)) (cells_older doc_value.log h)

-- PLACES OF WHAT IS SHOWN

-- a place among the characters that are shown is one of the text
pub record IsPlace (doc_value : DocValue) (own : WidgetValue) (others : List WidgetValue) (place : ℕ) : Type 0 where
  pub history : IsHistory doc_value.log
  pub document : IsDocument doc_value.site doc_value.log doc_value
  pub real : 0 < doc_value.site
  pub within : place < length_shown (viewed doc_value own others)

pub place_is : (doc_value : DocValue) (own : WidgetValue) (others : List WidgetValue) (place : ℕ) → IsHistory doc_value.log → IsDocument doc_value.site doc_value.log doc_value → 0 < doc_value.site → place < length (shown_part doc_value.cells own.limits) → IsPlace doc_value own others place
place_is doc_value own others place h doc real l = record {
  history = h;
  document = doc;
  real = real;
  within = subst (λ n. place < n) (sym (length-map (shown_part doc_value.cells own.limits) (λ (cell : TaggedCell). cell.ch))) l;
}

module _ (doc_value : DocValue) (own : WidgetValue) (others : List WidgetValue) (place : ℕ) (is : IsPlace doc_value own others place) where
  abbrev view : ViewValue
  view = viewed doc_value own others

  abbrev stretch : Stretch
  stretch = stretch_of doc_value.cells own.limits

  final : EndsFinal doc_value.cells
  final = document_final doc_value is.history is.document

  size : length_shown view ≡ stretch.end - stretch.begin
  size = shown_length doc_value.cells stretch (stretch_within doc_value.cells own.limits final)

  pub at_low : stretch.begin ≤ in_text view place
  at_low = omega arith

  pub at_high : in_text view place < stretch.end
  at_high = omega (arith, size, is.within)

  pub at_visible : in_text view place < length (visible_of doc_value.cells)
  at_visible = omega (arith, at_high, stretch_within doc_value.cells own.limits final)

  pub at_text : in_text view place < length (text_of doc_value.cells)
  at_text = omega (arith, at_visible, length-map (visible_of doc_value.cells) (λ (cell : TaggedCell). cell.ch))

  -- the neighbours that are shown are those of the text
  pub right_there : right_neighbour (cells_shown view) place ≡ slice_get (visible_of doc_value.cells) (in_text view place)
  right_there = part_get stretch (visible_of doc_value.cells) place (omega (arith, size, is.within))

-- the place in the text that has the left neighbour which is shown: its beginning where there is none
abbrev pub near : ViewValue → ℕ → ℕ
near _ zero = 0
near view (suc place) = in_text view (suc place)

pub left_there : (doc_value : DocValue) (own : WidgetValue) (others : List WidgetValue) (place : ℕ) → IsPlace doc_value own others place
    → left_neighbour (cells_shown (viewed doc_value own others)) place ≡ left_neighbour (visible_of doc_value.cells) (near (viewed doc_value own others) place)
left_there doc_value own others zero is = refl
left_there doc_value own others (suc p) is =
    let view : ViewValue = viewed doc_value own others in
    let stretch : Stretch = stretch_of doc_value.cells own.limits in
    let size : length_shown view ≡ stretch.end - stretch.begin = shown_length doc_value.cells stretch (stretch_within doc_value.cells own.limits (document_final doc_value is.history is.document)) in
    let next : stretch.begin + suc p ≡ suc (stretch.begin + p) = omega arith in
    part_get stretch (visible_of doc_value.cells) p (omega (arith, size, is.within)) ∙ sym (ap (left_neighbour (visible_of doc_value.cells)) next)

pub near_within : (doc_value : DocValue) (own : WidgetValue) (others : List WidgetValue) (place : ℕ) → IsPlace doc_value own others place → near (viewed doc_value own others) place < length (text_of doc_value.cells)
near_within doc_value own others zero is = omega (arith, at_text doc_value own others zero is)
near_within doc_value own others (suc p) is = at_text doc_value own others (suc p) is

-- NEIGHBOURS THAT ARE KEPT

-- what the code finds before the place, as shown
pub left_found : (table : TagStates) (kept : List (Cell ℕ)) (doc_value : DocValue) (own : WidgetValue) (others : List WidgetValue) (place at : ℕ) (behind left : Option (Cell ℕ)) → map (shown table) kept ≡ doc_value.cells → IsPlace doc_value own others place
    → at ≡ in_text (viewed doc_value own others) place → behind ≡ left_neighbour (visible_of kept) at → left ≡ cond (nat_eq place 0) None behind
    → option_map (shown table) left ≡ left_neighbour (cells_shown (viewed doc_value own others)) place
left_found table kept doc_value own others zero at before left e is a b l = ap (option_map (shown table)) l
left_found table kept doc_value own others (suc p) at before left e is a b l =
    let later : nat_eq (suc p) 0 ≡ false = grind (arith, nat_tests) in
    ap (option_map (shown table)) (l ∙ ap (λ x. cond x None before) later ∙ b) ∙ left_shown table kept at ∙ (λ i. left_neighbour (visible_of (e i)) (a i)) ∙ sym (left_there doc_value own others (suc p) is)

-- the element behind which text goes is that of the left neighbour, where one is shown
pub element_is : (left behind : Option (Cell ℕ)) (place : ℕ) → left ≡ cond (nat_eq place 0) None behind → IfSome left (λ cell. unwrap_or (option_map (λ c. c.stamp) behind) ROOT ≡ cell.stamp)
element_is left behind place l =
    subst (λ (o : Option (Cell ℕ)). IfSome o (λ cell. unwrap_or (option_map (λ (c : Cell ℕ). c.stamp) behind) ROOT ≡ cell.stamp)) (sym l) (by (nat_eq place 0) behind)
  where
    by : (b : Bool) (o : Option (Cell ℕ)) → IfSome (cond b None o) (λ cell. unwrap_or (option_map (λ (c : Cell ℕ). c.stamp) o) ROOT ≡ cell.stamp)
    by true o = tt
    by false None = tt
    by false (Some cell) = refl

-- and of the text's left neighbour in any case
pub element_found : (table : TagStates) (kept : List (Cell ℕ)) (doc_value : DocValue) (at place : ℕ) (behind : Option (Cell ℕ)) → map (shown table) kept ≡ doc_value.cells → at ≡ place → behind ≡ left_neighbour (visible_of kept) at
    → unwrap_or (option_map (λ c. c.stamp) behind) ROOT ≡ left_stamp doc_value.cells place
element_found table kept doc_value at place behind e a b =
    ap (λ o. unwrap_or (option_map (λ (c : Cell ℕ). c.stamp) o) ROOT) b ∙ element_shown table kept at ∙ (λ i. left_stamp (e i) (a i))

-- states that were given out
pub given_if : (P : Cell ℕ → Type 0) (b : Bool) (o x : Option (Cell ℕ)) → x ≡ cond b o None → IfSome o P → IfSome x P
given_if P b o x e h = subst (λ (y : Option (Cell ℕ)). IfSome y P) (sym e) (by b)
  where
    by : (b : Bool) → IfSome (cond b o None) P
    by true = h
    by false = tt

pub given_not : (P : Cell ℕ → Type 0) (b : Bool) (o x : Option (Cell ℕ)) → x ≡ cond b None o → IfSome o P → IfSome x P
given_not P b o x e h = subst (λ (y : Option (Cell ℕ)). IfSome y P) (sym e) (by b)
  where
    by : (b : Bool) → IfSome (cond b None o) P
    by true = tt
    by false = h

-- WHETHER BOTH SIDES ARE SHOWN

pub place_kept_of : (table : TagStates) (kept : List (Cell ℕ)) (cells : List TaggedCell) (limit : Option Stamp) → map (shown table) kept ≡ cells → option_and_then (place_of kept) limit ≡ option_and_then (place_of cells) limit
place_kept_of table kept cells None e = refl
place_kept_of table kept cells (Some s) e = sym (place_shown (state_at table) kept s) ∙ ap (λ (l : List TaggedCell). place_of l s) e

-- where nothing is removed
none_left : {T : Type 0} (cells : List (Cell T)) (limit : Option Stamp) → limit_left (is_covered []) cells limit ≡ option_and_then (place_of cells) limit
none_left {T} cells limit = by (option_and_then (place_of cells) limit)
  where
    by : (o : Option ℕ) → option_map (place_left (is_covered [])) o ≡ o
    by None = refl
    by (Some p) = ap Some (place_kept (is_covered []) (λ q. refl) p)

-- both sides are shown, by the document's cells
abbrev pub are_shown : DocValue → Limits → ℕ → List Piece → Bool
are_shown doc_value limits at pieces =
    are_sides_shown (option_and_then (place_of doc_value.cells) limits.start) (option_and_then (place_of doc_value.cells) limits.end) at (pieces_text pieces)

pub shown_kept : (table : TagStates) (kept : List (Cell ℕ)) (doc_value : DocValue) (limits : Limits) (at place : ℕ) (pieces : List Piece) → map (shown table) kept ≡ doc_value.cells → at ≡ place
    → are_sides_shown (limit_left (is_covered []) kept limits.start) (limit_left (is_covered []) kept limits.end) at (pieces_text pieces) ≡ are_shown doc_value limits place pieces
shown_kept table kept doc_value limits at place pieces e a =
    λ i. are_sides_shown ((none_left kept limits.start ∙ place_kept_of table kept doc_value.cells limits.start e) i) ((none_left kept limits.end ∙ place_kept_of table kept doc_value.cells limits.end e) i) (a i) (pieces_text pieces)

-- what the code finds at the place, as shown
pub right_found : (table : TagStates) (kept : List (Cell ℕ)) (doc_value : DocValue) (own : WidgetValue) (others : List WidgetValue) (place at : ℕ) (pieces : List Piece) (b : Bool) (right : Option (Cell ℕ)) → map (shown table) kept ≡ doc_value.cells → IsPlace doc_value own others place
    → at ≡ in_text (viewed doc_value own others) place → b ≡ are_shown doc_value own.limits (in_text (viewed doc_value own others) place) pieces → right ≡ cond b (slice_get (visible_of kept) at) None
    → option_map (shown table) right ≡ cond (are_shown doc_value own.limits (in_text (viewed doc_value own others) place) pieces) (right_neighbour (cells_shown (viewed doc_value own others)) place) None
right_found table kept doc_value own others place at pieces b right e is a s r =
    let there : option_map (shown table) (slice_get (visible_of kept) at) ≡ right_neighbour (cells_shown (viewed doc_value own others)) place =
    sym (visible_at_shown (state_at table) kept at) ∙ (λ i. slice_get (visible_of (e i)) (a i)) ∙ sym (right_there doc_value own others place is) in
    ap (option_map (shown table)) r ∙ inside b (slice_get (visible_of kept) at) ∙ (λ i. cond (s i) (there i) None)
  where
    inside : (b : Bool) (o : Option (Cell ℕ)) → option_map (shown table) (cond b o None) ≡ cond b (option_map (shown table) o) None
    inside true o = refl
    inside false o = refl

-- THE RIGHT NEIGHBOUR BEHIND THE PIECES

none_put : (cells : List TaggedCell) (left : Stamp) → put_after cells left [] ≡ cells
none_put cells left =
    let n = after_element cells left in
    ap (λ (l : List TaggedCell). l ++ drop n cells) (append-nil (take n cells)) ∙ take-append-drop n cells

no_sides : (start end : Option ℕ) (at : ℕ) → are_sides_shown start end at [] ≡ true
no_sides start end at = by (stands_behind at start) (is_ahead at end)
  where
    by : (b d : Bool) → (not (b && false) && not (d && false)) ≡ true
    by true true = refl
    by true false = refl
    by false true = refl
    by false false = refl

both_less : (a b c : ℕ) → a < b → b < c → (nat_lt a b && nat_lt b c) ≡ true
both_less a b c h k = (λ i. lt-ltb a b h i && lt-ltb b c k i)

put_at : (doc_value : DocValue) (own : WidgetValue) (others : List WidgetValue) (place : ℕ) (new : List TaggedCell) → IsPlace doc_value own others place → AreNew doc_value.count doc_value.site new
    → ArePut doc_value.cells new doc_value.count doc_value.site (in_text (viewed doc_value own others) place)
put_at doc_value own others place new is fresh = record {
  ends = document_final doc_value is.history is.document;
  distinct = document_distinct doc_value is.history is.document;
  below = document_below doc_value is.history is.document;
  real = omega (arith, is.real);
  fresh = fresh;
  within = at_text doc_value own others place is;
}

-- both sides of the end of some new cells
abbrev sides_of : DocValue → ℕ → List TaggedCell → Limits → Bool
sides_of doc_value at new limits =
    let stretch = stretch_of (put_after doc_value.cells (left_stamp doc_value.cells at) new) limits in
    nat_lt stretch.begin (at + length new) && nat_lt (at + length new) stretch.end

sides_by : (doc_value : DocValue) (own : WidgetValue) (others : List WidgetValue) (place : ℕ) → IsPlace doc_value own others place → AreNewlines doc_value.cells own.limits → (new : List TaggedCell) (text : List ℕ) → text_of new ≡ text
    → AreNew doc_value.count doc_value.site new
    → let at = in_text (viewed doc_value own others) place in
    ((left_neighbour (cells_shown (viewed doc_value own others)) place ≡ None) × (new ≡ []))
    ⊎ (are_sides_shown (option_and_then (place_of doc_value.cells) own.limits.start) (option_and_then (place_of doc_value.cells) own.limits.end) at text ≡ sides_of doc_value at new own.limits)
sides_by doc_value own others zero is known [] text t fresh = inl (refl, refl)
sides_by doc_value own others (suc p) is known [] text t fresh =
    let at = in_text (viewed doc_value own others) (suc p) in
    let start = option_and_then (place_of doc_value.cells) own.limits.start in
    let end = option_and_then (place_of doc_value.cells) own.limits.end in
    let limits : Limits = own.limits in
    let shown : are_sides_shown start end at text ≡ true = ap (are_sides_shown start end at) (sym t) ∙ no_sides start end at in
    let low : (stretch_of doc_value.cells limits).begin < at + 0 = omega arith in
    let high : at + 0 < (stretch_of doc_value.cells limits).end = omega (arith, at_high doc_value own others (suc p) is) in
    let sides : sides_of doc_value at [] limits ≡ true =
    ap (λ (l : List TaggedCell). nat_lt (stretch_of l limits).begin (at + 0) && nat_lt (at + 0) (stretch_of l limits).end) (none_put doc_value.cells (left_stamp doc_value.cells at))
    ∙ both_less (stretch_of doc_value.cells limits).begin (at + 0) (stretch_of doc_value.cells limits).end low high in
    inr (shown ∙ sym sides)
sides_by doc_value own others place is known (x ∷ xs) text t fresh =
    let at = in_text (viewed doc_value own others) place in
    let new : List TaggedCell = x ∷ xs in
    let start = option_and_then (place_of doc_value.cells) own.limits.start in
    let end = option_and_then (place_of doc_value.cells) own.limits.end in
    let put = put_at doc_value own others place new is fresh in
    inr (ap (are_sides_shown start end at) (sym t)
    ∙ sym (sides_put doc_value.cells new doc_value.count doc_value.site at put own.limits known (omega arith) (at_low doc_value own others place is) (at_high doc_value own others place is)))

-- Behind pieces that have characters, and behind a left neighbour, the right one is that which is shown, if both sides are. Without
-- either it doesn't matter.
abbrev pub IsRight : DocValue → WidgetValue → List WidgetValue → ℕ → List Piece → Option TaggedCell → Type 0
IsRight doc_value own others place pieces right =
    ((left_neighbour (cells_shown (viewed doc_value own others)) place ≡ None) × ((with_pieces doc_value.site pieces (none_inserted (viewed doc_value own others))).cells ≡ []))
    ⊎ (right ≡ right_behind (viewed doc_value own others) place pieces)

pub right_is : (doc_value : DocValue) (own : WidgetValue) (others : List WidgetValue) (place : ℕ) (pieces : List Piece) → IsPlace doc_value own others place → AreNewlines doc_value.cells own.limits
    → IsRight doc_value own others place pieces (cond (are_shown doc_value own.limits (in_text (viewed doc_value own others) place) pieces) (right_neighbour (cells_shown (viewed doc_value own others)) place) None)
right_is doc_value own others place pieces is known =
    let view : ViewValue = viewed doc_value own others in
    let new : List TaggedCell = (with_pieces doc_value.site pieces (none_inserted view)).cells in
    let text : text_of new ≡ pieces_text pieces = pieces_are doc_value.site pieces (none_inserted view) in
    let fresh : AreNew doc_value.count doc_value.site new = pieces_new doc_value.site doc_value.count pieces (none_inserted view) (omega arith) tt in
    by (sides_by doc_value own others place is known new (pieces_text pieces) text fresh)
  where
    by : ((left_neighbour (cells_shown (viewed doc_value own others)) place ≡ None) × ((with_pieces doc_value.site pieces (none_inserted (viewed doc_value own others))).cells ≡ []))
        ⊎ (are_shown doc_value own.limits (in_text (viewed doc_value own others) place) pieces
        ≡ sides_of doc_value (in_text (viewed doc_value own others) place) (with_pieces doc_value.site pieces (none_inserted (viewed doc_value own others))).cells own.limits)
        → IsRight doc_value own others place pieces (cond (are_shown doc_value own.limits (in_text (viewed doc_value own others) place) pieces) (right_neighbour (cells_shown (viewed doc_value own others)) place) None)
    by (inl w) = inl w
    by (inr e) = inr (ap (λ b. cond b (right_neighbour (cells_shown (viewed doc_value own others)) place) None) e)

-- what the code finds beside the place
pub record IsFound (doc_value : DocValue) (own : WidgetValue) (others : List WidgetValue) (place : ℕ) (pieces : List Piece) (after : Stamp) (left right : Option TaggedCell) : Type 0 where
  pub element : after ≡ left_stamp doc_value.cells (in_text (viewed doc_value own others) place)
  pub before : left ≡ left_neighbour (cells_shown (viewed doc_value own others)) place
  pub next : IsRight doc_value own others place pieces right

pub found : (table : TagStates) (kept : List (Cell ℕ)) (doc_value : DocValue) (own : WidgetValue) (others : List WidgetValue) (place : ℕ) (pieces : List Piece) (limits : Limits) (stretch : Stretch) (before left right : Option (Cell ℕ)) (after : Stamp)
    → map (shown table) kept ≡ doc_value.cells → IsPlace doc_value own others place → AreNewlines doc_value.cells own.limits → limits ≡ own.limits → stretch ≡ stretch_of kept limits
    → before ≡ left_neighbour (visible_of kept) (stretch.begin + place) → left ≡ cond (nat_eq place 0) None before
    → right ≡ cond (are_sides_shown (limit_left (is_covered []) kept limits.start) (limit_left (is_covered []) kept limits.end) (stretch.begin + place) (pieces_text pieces))
    (slice_get (visible_of kept) (stretch.begin + place)) None
    → after ≡ unwrap_or (option_map (λ cell. cell.stamp) before) ROOT
    → IsFound doc_value own others place pieces after (option_map (shown table) left) (option_map (shown table) right)
found table kept doc_value own others place pieces limits stretch before left right after e is known l s b x r a =
    let at = stretch.begin + place in
    let here : at ≡ in_text (viewed doc_value own others) place = ap (λ (y : Stretch). y.begin + place) (s ∙ ap (stretch_of kept) l ∙ stretch_kept table kept doc_value.cells own.limits e) in
    let flag = ap (λ (y : Limits). are_sides_shown (limit_left (is_covered []) kept y.start) (limit_left (is_covered []) kept y.end) at (pieces_text pieces)) l
    ∙ shown_kept table kept doc_value own.limits at (in_text (viewed doc_value own others) place) pieces e here in
    record {
      element = a ∙ element_found table kept doc_value at (in_text (viewed doc_value own others) place) before e here b;
      before = left_found table kept doc_value own others place at before left e is here b x;
      next = subst (IsRight doc_value own others place pieces) (sym (right_found table kept doc_value own others place at pieces _ right e is here flag r)) (right_is doc_value own others place pieces is known);
    }

pub any_some : {X : Type 0} (o : Option X) (P : Type 0) → P → IfSome o (λ _. P)
any_some None P p = tt
any_some (Some x) P p = p

-- WHERE IT DOESN'T MATTER

unlisted_any : (site : ℕ) (left r s : Option TaggedCell) (text : List ℕ) (so_far : Insertion) → left ≡ None → with_unlisted site left r text so_far ≡ with_unlisted site left s text so_far
unlisted_any site left r s [] so_far e = refl
unlisted_any site left r s (c ∷ text) so_far e = ap (λ o. with_unlisted site o r (c ∷ text) so_far) e ∙ sym (ap (λ o. with_unlisted site o s (c ∷ text) so_far) e)

no_last : (left : Option TaggedCell) (cells : List TaggedCell) → left ≡ None → cells ≡ [] → on_left left cells ≡ None
no_last left cells e h = λ i. on_left (e i) (h i)

pub right_any : (site : ℕ) (left r s : Option TaggedCell) (pieces : List Piece) (rest : Word) (start : Insertion) → ((left ≡ None) × ((with_pieces site pieces start).cells ≡ [])) ⊎ (r ≡ s)
    → insertion_of site left r pieces rest start ≡ insertion_of site left s pieces rest start
right_any site left r s pieces rest start (inl w) =
    let listed = with_pieces site pieces start in
    unlisted_any site (on_left left listed.cells) r s (chars rest) listed (no_last left listed.cells w.0 w.1)
right_any site left r s pieces rest start (inr e) = ap (λ o. insertion_of site left o pieces rest start) e

pub drafts_any : (site : ℕ) (after : Stamp) (left r s : Option TaggedCell) (pieces : List Piece) (rest : Word) (start : Insertion) → ((left ≡ None) × ((with_pieces site pieces start).cells ≡ [])) ⊎ (r ≡ s)
    → insertion_drafts MOST_CHARACTERS site after left r pieces rest start ≡ insertion_drafts MOST_CHARACTERS site after left s pieces rest start
drafts_any site after left r s pieces rest start (inl w) =
    let listed = with_pieces site pieces start in
    ap (λ names. pieces_drafts MOST_CHARACTERS site after pieces start ++ text_drafts MOST_CHARACTERS site listed.count (last_element after listed.cells) names (chars rest))
    (none (on_left left listed.cells) (no_last left listed.cells w.0 w.1))
  where
    none : (o : Option TaggedCell) → o ≡ None → tags_between o r ≡ tags_between o s
    none o e = ap (λ x. tags_between x r) e ∙ sym (ap (λ x. tags_between x s) e)
drafts_any site after left r s pieces rest start (inr e) = ap (λ o. insertion_drafts MOST_CHARACTERS site after left o pieces rest start) e
