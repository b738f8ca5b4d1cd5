-- A document after an insertion at a place, which its replica made.
use Rattle.std.proofs.Common.{◌≡◌, ◌∙◌, ℕ, ◌+◌, ◌≤◌, All, List, [], ◌∷◌, length, map, Option, None, ◌⊎◌, inl, inr, refl, string_bytes, sym, ap, arith, subst, IsUtf8}
use Rattle.std.specs.List.{AllByRecursion}
use Rattle.std.specs.Prelude.{IfSome}
use Rattle.std.specs.Str.{chars}
use Rattle.std.proofs.lemmas.List.{get_or-map, length-map}
use Rattle.std.proofs.lemmas.List.Elements.{All-append, All-head, All-nil, All-tail}
use Rattle.rt_marks.specs.Marks.{marks_inserted}
use Rattle.rt_ops.specs.Operations.{Body}
use Rattle.rt_stamps.specs.declared.limits.TheConstants.{GREATEST_COUNT, MOST_CHARACTERS}
use Rattle.rt_stamps.specs.declared.stamp.Stamp.{Stamp}
use Rattle.rt_stamps.specs.Outcomes.{first_of}
use Rattle.rt_stamps.specs.Words.{Word, as_words}
use Rattle.rt_store.specs.Cells.{text_of}
use Rattle.rt_store.specs.Shown.{TaggedCell}
use Rattle.rt_tags.specs.States.{IsByName}
use Rattle.rt_tags.specs.Tags.{IsName}
use Rattle.rt_rga.specs.Cells.{writes_on}
use Rattle.rt_rga.specs.Drafts.{with_drafts}
use Rattle.rt_rga.specs.Made.{refusal_of}
use Rattle.rt_rga.specs.Requests.{MayBeMade}
use Rattle.rt_rga.proofs.Corollaries.{all_states}
use Rattle.rt_rga.proofs.Requests.{all_count_on}
use Rattle.rt_rga.proofs.Writes.{state_sorted}
use Rattle.rt_plans.specs.DeletionLaws.{IsPiece}
use Rattle.rt_plans.specs.declared.inserting.Plan.{Plan}
use Rattle.rt_plans.specs.DraftLaws.{IsDocument, IsInsertion, IsText}
use Rattle.rt_plans.specs.DocValue.{DocValue, left_stamp, logged, put_after}
use Rattle.rt_plans.specs.InsertionDrafts.{insertion_drafts}
use Rattle.rt_plans.specs.InsertionPlans.{Plans}
use Rattle.rt_plans.specs.Insertions.{Insertion, Piece, insertion_of, left_neighbour, on_left, tags_between, with_pieces}
use Rattle.rt_plans.specs.Listed.{AreListed}
use Rattle.rt_plans.proofs.CharacterCounts.{insertion_length}
use Rattle.rt_plans.proofs.ListedLaws.{listed_more}
use Rattle.rt_plans.proofs.PieceDraftLaws.{insertion_counted, insertion_made, insertion_may}
use Rattle.rt_plans.proofs.PremiseLaws.{may_begin, pieces_are}
use Rattle.rt_text.specs.Commands.{cell_check, clock_check, names_in, none_inserted, right_behind, with_pieces_at}
use Rattle.rt_text.specs.Kept.{IsDoc}
use Rattle.rt_text.specs.Replacements.{drafts_at, insertion_at}
use Rattle.rt_text.specs.Widgets.{AreSiteMarks, IsOwnOf, WidgetValue, ViewValue, in_text, widget_inserted, selections_of, cells_shown, with_selections}
use Rattle.rt_text.proofs.InsertedSides.{IsFound, IsPlace, IsRight, at_text, drafts_any, left_there, near, near_within, right_any}
use Rattle.rt_text.proofs.ListedText.{IsTaggedAmong, ListsAll, insertion_lists, insertion_tags, left_among, listed_put, names_of_all, text_among}
use Rattle.rt_text.proofs.MadeDocument.{both_fit, refusal_is}
use Rattle.rt_text.proofs.MarkLaws.{length_put, own_of_inserted, own_of_selecting, site_inserted}
use Rattle.rt_text.proofs.PeerLaws.{each_by, each_selecting}
use Rattle.rt_text.proofs.PutLaws.{late_checks, put_length}
use Rattle.rt_text.proofs.ViewLaws.{viewed}

pub pieces_named : (pieces : List Piece) → All IsPiece pieces → All IsName (names_in pieces)
pieces_named [] h = All-nil IsName
pieces_named (piece ∷ pieces) h =
    All-append IsName piece.tags (names_in pieces) (λ k d lt. ((All-head IsPiece piece pieces h).names k d lt).1) (pieces_named pieces (All-tail IsPiece piece pieces h))

unmapped : {X Y : Type 0} (P : Y → Type 0) (f : X → Y) (xs : List X) → All P (map f xs) → All (λ x. P (f x)) xs
unmapped P f xs h = λ k d lt. subst P (get_or-map f xs k d (f d) lt) (h k (f d) (omega (arith, length-map xs f, lt)))

-- what begins with the document's site and count and the widget's selection
pub begun : {X : Type 0} (f : ℕ → Insertion → X) (site count : ℕ) (sel : List Stamp) (view : ViewValue) → site ≡ view.doc.site → count ≡ view.doc.count → sel ≡ view.own.sel
    → f site (record { cells = []; count = count; sel = sel; others = selections_of view.others; tags = view.doc.tags }) ≡ f view.doc.site (none_inserted view)
begun f site count sel view s n e = λ i. f (s i) (record { cells = []; count = n i; sel = e i; others = selections_of view.others; tags = view.doc.tags })

module _ (doc : DocValue) (own : WidgetValue) (others : List WidgetValue) (place : ℕ) (pieces : List Piece) (rest : Word) where
  abbrev view : ViewValue
  view = viewed doc own others

  -- the place in the text
  abbrev pub place_in : ℕ
  place_in = in_text view place

  abbrev left : Option TaggedCell
  left = left_neighbour (cells_shown view) place

  abbrev right : Option TaggedCell
  right = right_behind view place pieces

  -- the operations, and the new cells with what else the insertion comes to
  abbrev pub made_drafts : List Body
  made_drafts = drafts_at view place pieces rest

  abbrev pub made_new : Insertion
  made_new = insertion_at view place pieces rest

  -- the document but for its log
  abbrev pub made_flat : DocValue
  made_flat = record doc {
    cells = put_after doc.cells (left_stamp doc.cells place_in) made_new.cells;
    count = made_new.count;
    marks = marks_inserted place_in (length made_new.cells) doc.marks;
    tags = made_new.tags;
  }

  pub put_made : with_pieces_at (viewed doc own others) place pieces rest
      ≡ record {
        doc = logged doc made_drafts made_flat;
        own = record (widget_inserted place_in (length made_new.cells) own) { sel = made_new.sel };
        others = with_selections made_new.others (map (widget_inserted place_in (length made_new.cells)) others);
      }
  put_made = refl

  -- between the neighbours that the code finds it is the same, and so are its operations
  module _ (after : Stamp) (l r : Option TaggedCell) (f : IsFound doc own others place pieces after l r) where
    abbrev start : Insertion
    start = none_inserted view

    which : ((l ≡ None) × ((with_pieces doc.site pieces start).cells ≡ [])) ⊎ (r ≡ right)
    which = by f.next
      where
        by : IsRight doc own others place pieces r → ((l ≡ None) × ((with_pieces doc.site pieces start).cells ≡ [])) ⊎ (r ≡ right)
        by (inl w) = inl (f.before ∙ w.0, w.1)
        by (inr k) = inr k

    pub new_is : insertion_of doc.site l r pieces rest start ≡ made_new
    new_is = right_any doc.site l r right pieces rest start which ∙ ap (λ o. insertion_of doc.site o right pieces rest start) f.before

    pub drafts_are : insertion_drafts MOST_CHARACTERS doc.site after l r pieces rest start ≡ made_drafts
    drafts_are =
        ap (λ a. insertion_drafts MOST_CHARACTERS doc.site a l r pieces rest start) f.element
        ∙ drafts_any doc.site (left_stamp doc.cells place_in) l r right pieces rest start which
        ∙ ap (λ o. insertion_drafts MOST_CHARACTERS doc.site (left_stamp doc.cells place_in) o right pieces rest start) f.before

module _ (doc : DocValue) (own : WidgetValue) (others : List WidgetValue) (place : ℕ) (pieces : List Piece) (rest : Word) (is : IsPlace doc own others place) where
  abbrev seen : ViewValue
  seen = viewed doc own others

  abbrev at : ℕ
  at = in_text seen place

  abbrev l : Option TaggedCell
  l = left_neighbour (cells_shown seen) place

  abbrev r : Option TaggedCell
  r = right_behind seen place pieces

  abbrev a : Stamp
  a = left_stamp doc.cells at

  abbrev none_yet : Insertion
  none_yet = none_inserted seen

  -- MAKING IT

  begins : All IsPiece pieces → IsUtf8 rest → IsInsertion doc.site doc.log a l r pieces rest none_yet
  begins are utf8 =
      let here = may_begin doc.site doc.log doc at r pieces rest none_yet is.history is.document (at_text doc own others place is) (pieces_are pieces are) utf8 refl refl in
      let there = may_begin doc.site doc.log doc (near seen place) r pieces rest none_yet is.history is.document (near_within doc own others place is) (pieces_are pieces are) utf8 refl refl in
      record {
        element = here.element;
        listed = here.listed;
        unlisted = subst (λ (o : Option TaggedCell). IsText (tags_between (on_left o (with_pieces doc.site pieces none_yet).cells) r) (chars rest)) (sym (left_there doc own others place is)) there.unlisted;
        none = here.none;
        count = here.count;
      }

  pub may_make : All IsPiece pieces → IsUtf8 rest → MayBeMade doc.site doc.log (made_drafts doc own others place pieces rest)
  may_make are utf8 = insertion_may doc.site doc.log a l r pieces rest none_yet (begins are utf8)

  pub refused_made : refusal_of doc.limit (made_drafts doc own others place pieces rest) doc.log
      ≡ first_of (clock_check (made_new doc own others place pieces rest).count ∷ cell_check doc.limit (length (made_flat doc own others place pieces rest).cells) ∷ [])
  refused_made =
      let new = made_new doc own others place pieces rest in
      let chars = insertion_length doc.site a l r pieces rest none_yet in
      refusal_is doc.limit (made_drafts doc own others place pieces rest) doc.log new.count (length (put_after doc.cells a new.cells))
      (sym (all_count_on doc.site (made_drafts doc own others place pieces rest) doc.log) ∙ insertion_counted doc.site doc.log a l r pieces rest none_yet is.document.count)
      (omega (arith, chars, put_length doc.cells a new.cells, ap (λ (cells : List TaggedCell). length cells) is.document.cells))

  pub refused_as : refusal_of doc.limit (made_drafts doc own others place pieces rest) doc.log ≡ first_of (late_checks doc (with_pieces_at seen place pieces rest))
  refused_as = refused_made

  pub made_is : All IsPiece pieces → IsUtf8 rest → (made_new doc own others place pieces rest).count ≤ GREATEST_COUNT
      → IsDocument doc.site (with_drafts doc.site (made_drafts doc own others place pieces rest) doc.log) (made_flat doc own others place pieces rest)
  made_is are utf8 fits =
      let done = insertion_made doc.site doc.log a l r pieces rest none_yet is.real is.history (begins are utf8) fits in record {
        cells = ap (λ (cells : List TaggedCell). put_after cells a (made_new doc own others place pieces rest).cells) is.document.cells ∙ sym done.cells;
        site = refl;
        count = sym done.count;
      }

  -- WHAT IT LEAVES

  pub lists : All IsName (names_in pieces) → AreListed doc.tags doc.cells → ListsAll (made_new doc own others place pieces rest)
  lists names listed =
      let sorted : All (λ (c : TaggedCell). IsByName c.state) doc.cells =
      subst (All (λ (c : TaggedCell). IsByName c.state)) (sym is.document.cells) (all_states doc.log is.history IsByName (λ s. state_sorted [] (writes_on doc.log s) tt)) in
      insertion_lists doc.site l r pieces rest none_yet names
      (subst (λ (o : Option TaggedCell). IfSome o (IsTaggedAmong doc.tags)) (sym (left_there doc own others place is)) (left_among doc.cells doc.tags (near seen place) listed sorted))
      (record { cells = All-nil (IsTaggedAmong doc.tags); names = listed.names })

  -- the text grows by the new characters
  pub text_more : All IsPiece pieces → AreListed doc.tags doc.cells → length (text_of (made_flat doc own others place pieces rest).cells) ≡ length (text_of doc.cells) + length (made_new doc own others place pieces rest).cells
  text_more are listed =
      length_put doc.cells a (made_new doc own others place pieces rest).cells ∙ ap (λ n. length (text_of doc.cells) + n) (text_among (made_new doc own others place pieces rest).tags (made_new doc own others place pieces rest).cells (lists (pieces_named pieces are) listed).cells)

  pub kept_made : All IsPiece pieces → IsDoc doc.cells doc.marks doc.tags → IsDoc (made_flat doc own others place pieces rest).cells (made_flat doc own others place pieces rest).marks (made_flat doc own others place pieces rest).tags
  kept_made are kept =
      let all = lists (pieces_named pieces are) kept.listed in
      let more : AreListed (made_new doc own others place pieces rest).tags doc.cells =
      listed_more doc.tags (made_new doc own others place pieces rest).tags doc.cells
      (λ n e. insertion_tags doc.site l r pieces rest none_yet n e) all.names kept.listed in record {
        placed = subst (λ (n : ℕ). AreSiteMarks n (made_flat doc own others place pieces rest).marks) (sym (text_more are kept.listed)) (site_inserted (length (text_of doc.cells)) at (length (made_new doc own others place pieces rest).cells) doc.marks kept.placed);
        listed = listed_put (made_new doc own others place pieces rest).tags doc.cells a (made_new doc own others place pieces rest).cells more all.cells;
      }

  pub own_made : All IsPiece pieces → AreListed doc.tags doc.cells → IsOwnOf (length (text_of doc.cells)) own
      → IsOwnOf (length (text_of (made_flat doc own others place pieces rest).cells)) (record (widget_inserted at (length (made_new doc own others place pieces rest).cells) own) { sel = (made_new doc own others place pieces rest).sel })
  own_made are listed stands =
      subst (λ (n : ℕ). IsOwnOf n (record (widget_inserted at (length (made_new doc own others place pieces rest).cells) own) { sel = (made_new doc own others place pieces rest).sel })) (sym (text_more are listed))
      (own_of_selecting _ _ (made_new doc own others place pieces rest).sel (own_of_inserted (length (text_of doc.cells)) at (length (made_new doc own others place pieces rest).cells) own stands))

  -- the other widgets stand in it too
  pub others_made : All IsPiece pieces → AreListed doc.tags doc.cells → AllByRecursion (IsOwnOf (length (text_of doc.cells))) others
      → AllByRecursion (IsOwnOf (length (text_of (made_flat doc own others place pieces rest).cells)))
      (with_selections (made_new doc own others place pieces rest).others (map (widget_inserted at (length (made_new doc own others place pieces rest).cells)) others))
  others_made are listed h =
      let n = length (text_of doc.cells) in
      let k = length (made_new doc own others place pieces rest).cells in
      subst (λ (m : ℕ). AllByRecursion (IsOwnOf m) (with_selections (made_new doc own others place pieces rest).others (map (widget_inserted at k) others))) (sym (text_more are listed))
      (each_selecting (n + k) (made_new doc own others place pieces rest).others (map (widget_inserted at k) others)
      (each_by (IsOwnOf n) (IsOwnOf (n + k)) (widget_inserted at k) (λ other stands. own_of_inserted n at k other stands) others h))

  pub names_given : (plan : Plan) → Plans plan own.sel (selections_of others) doc.tags (made_new doc own others place pieces rest) → All IsPiece pieces → AreListed doc.tags doc.cells → All (λ w. IsName (string_bytes w)) plan.names.items
  names_given plan plans are listed =
      let names = as_words plan.names.items in
      unmapped IsName (λ w. string_bytes w) plan.names.items (names_of_all names doc.tags (subst (All IsName) (sym plans.tags) (lists (pieces_named pieces are) listed).names))

  -- where nothing is refused there is room for all
  pub all_fit : refusal_of doc.limit (made_drafts doc own others place pieces rest) doc.log ≡ None
      → ((made_new doc own others place pieces rest).count ≤ GREATEST_COUNT) × (length doc.cells + length (made_new doc own others place pieces rest).cells ≤ doc.limit)
  all_fit none =
      let new = made_new doc own others place pieces rest in
      let fit = both_fit new.count doc.limit (length (put_after doc.cells a new.cells)) (sym refused_made ∙ none) in
      (fit.0, omega (arith, fit.1, put_length doc.cells a new.cells))
