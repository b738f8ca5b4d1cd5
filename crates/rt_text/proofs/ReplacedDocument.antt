-- A document after a replacement, which its replica made.
use Rattle.std.proofs.Common.{◌≡◌, ◌∙◌, ℕ, ◌+◌, ◌-◌, ◌^◌, ◌<◌, ◌≤◌, ◌++◌, All, IsUtf8, List, [], ◌∷◌, min, None, Option, length, map, refl, string_bytes, sym, ap, arith, subst}
use Rattle.std.specs.Prelude.{is_some}
use Rattle.std.specs.List.{AllByRecursion}
use Rattle.rt_stamps.specs.declared.fault.Fault.{Fault}
use Rattle.rt_stamps.specs.declared.limits.TheConstants.{GREATEST_COUNT, MOST_CELLS, MOST_SPANS}
use Rattle.rt_stamps.specs.Outcomes.{first_of}
use Rattle.rt_stamps.specs.Words.{Word}
use Rattle.rt_marks.specs.Marks.{marks_left}
use Rattle.rt_ops.specs.Operations.{Body, Operation}
use Rattle.rt_store.specs.Cells.{text_of}
use Rattle.rt_store.specs.Shown.{TaggedCell}
use Rattle.std.proofs.lemmas.List.{length-map}
use Rattle.rt_rga.specs.Cells.{cells_of}
use Rattle.rt_rga.specs.Drafts.{with_drafts}
use Rattle.rt_rga.specs.Histories.{IsHistory, greatest_last_count}
use Rattle.rt_rga.specs.Kept.{ReplicaValue}
use Rattle.rt_rga.specs.Made.{refusal_of}
use Rattle.rt_rga.specs.Requests.{MayBeMade, characters_in_all, last_count_after}
use Rattle.rt_rga.proofs.Appending.{characters_append, count_append, drafts_append, may_append}
use Rattle.rt_rga.proofs.Requests.{all_count_on}
use Rattle.rt_plans.specs.declared.inserting.Plan.{Plan}
use Rattle.rt_plans.specs.declared.range.Range.{Range}
use Rattle.rt_plans.specs.DeletionLaws.{IsPiece}
use Rattle.rt_plans.specs.Deletions.{delete_drafts, without_text}
use Rattle.rt_plans.specs.DraftLaws.{IsDocument, SparesLast}
use Rattle.rt_plans.specs.DocValue.{DocValue, logged}
use Rattle.rt_plans.specs.InsertionPlans.{Plans}
use Rattle.rt_plans.specs.Insertions.{Insertion, Piece}
use Rattle.rt_plans.specs.Listed.{AreListed}
use Rattle.rt_plans.proofs.FoundLaws.{left_stamps}
use Rattle.rt_plans.proofs.CharacterCounts.{loss_inserts_none}
use Rattle.rt_plans.proofs.DeletionDraftLaws.{loss_history, loss_made, loss_may}
use Rattle.rt_plans.proofs.PlaceLaws.{text_within}
use Rattle.rt_tags.specs.Tags.{IsName}
use Rattle.rt_text.specs.Commands.{cell_check, clock_check, with_pieces_at, with_range_replaced, without_ranges}
use Rattle.rt_text.specs.Kept.{IsDoc}
use Rattle.rt_text.specs.Replacements.{left_by, loss_at}
use Rattle.rt_lines.specs.declared.stretch.Stretch.{Stretch}
use Rattle.rt_text.specs.Widgets.{AreSiteMarks, IsOwnOf, WidgetValue, ViewValue, begin_of, in_text, last_newline, length_shown, widget_inserted, selections_of, with_selections}
use Rattle.rt_text.proofs.DeletionLaws.{deletion_listed}
use Rattle.rt_text.proofs.InsertedDocument.{all_fit, kept_made, made_drafts, made_flat, made_is, made_new, may_make, names_given, others_made, own_made, put_made, refused_as}
use Rattle.rt_text.proofs.InsertedSides.{IsPlace, at_text}
use Rattle.rt_text.proofs.LeftDocument.{begin_low, length_left, stretch_left}
use Rattle.rt_text.proofs.LimitedDeletions.{deletion_length, deletion_others, deletion_own, deletion_placed, deletion_rest, spared}
use Rattle.rt_text.proofs.MadeDocument.{seen, seen_made}
use Rattle.rt_text.proofs.MarkLaws.{own_of_selecting}
use Rattle.rt_text.proofs.PutLaws.{late_checks}
use Rattle.rt_text.proofs.StayingPlaces.{left_small}
use Rattle.rt_text.proofs.ViewLaws.{viewed}

abbrev refusal_by : ℕ → ℕ → ℕ → Option Fault
refusal_by limit count cells = first_of (clock_check count ∷ cell_check limit cells ∷ [])

-- operations behind others that insert nothing are refused as upon the larger log
pub refused_behind : (limit site : ℕ) (deletes more : List Body) (log : List Operation) → characters_in_all deletes ≡ 0 → length (cells_of (with_drafts site deletes log)) ≡ length (cells_of log)
    → refusal_of limit (deletes ++ more) log ≡ refusal_of limit more (with_drafts site deletes log)
refused_behind limit site deletes more log none same =
    let count : last_count_after (greatest_last_count log) (deletes ++ more) ≡ last_count_after (greatest_last_count (with_drafts site deletes log)) more =
    count_append deletes more (greatest_last_count log) ∙ ap (λ n. last_count_after n more) (sym (all_count_on site deletes log)) in
    let cells : length (cells_of log) + characters_in_all (deletes ++ more) ≡ length (cells_of (with_drafts site deletes log)) + characters_in_all more =
    omega (arith, characters_append deletes more, none, same) in
    λ i. refusal_by limit (count i) (cells i)

module _ (doc_value : DocValue) (own : WidgetValue) (others : List WidgetValue) (range : Range) (h : IsHistory doc_value.log) (doc : IsDocument doc_value.site doc_value.log doc_value) (real : 0 < doc_value.site)
    (fits : (without_text doc_value (loss_at (viewed doc_value own others) range)).count ≤ GREATEST_COUNT) where
  abbrev deletes : List Body
  deletes = delete_drafts MOST_SPANS doc_value (loss_at (viewed doc_value own others) range)

  abbrev pub rest_of : ViewValue
  rest_of = without_ranges (viewed doc_value own others) (range ∷ [])

  pub rest_site : rest_of.doc.site ≡ doc_value.site
  rest_site = ap (λ (f : DocValue). f.site) (deletion_rest doc_value own.limits (range ∷ []))

  pub rest_limit : rest_of.doc.limit ≡ doc_value.limit
  rest_limit = ap (λ (f : DocValue). f.limit) (deletion_rest doc_value own.limits (range ∷ []))

  pub rest_tags : rest_of.doc.tags ≡ doc_value.tags
  rest_tags = ap (λ (f : DocValue). f.tags) (deletion_rest doc_value own.limits (range ∷ []))

  pub rest_marks : rest_of.doc.marks ≡ marks_left (loss_at (viewed doc_value own others) range).places doc_value.marks
  rest_marks = ap (λ (f : DocValue). f.marks) (deletion_rest doc_value own.limits (range ∷ []))

  last_spared : SparesLast (loss_at (viewed doc_value own others) range).places (text_of doc_value.cells)
  last_spared = spared doc_value own.limits (range ∷ []) h doc

  -- what is left is a document of the larger log
  pub rest_history : IsHistory rest_of.doc.log
  rest_history = loss_history doc_value.site doc_value.log doc_value (loss_at (viewed doc_value own others) range) real h doc last_spared fits

  pub rest_document : IsDocument rest_of.doc.site rest_of.doc.log rest_of.doc
  rest_document =
      let d = loss_made doc_value.site doc_value.log doc_value (loss_at (viewed doc_value own others) range) real h doc last_spared fits in
      record { cells = d.cells; site = refl; count = d.count }

  pub rest_real : 0 < rest_of.doc.site
  rest_real = subst (λ n. 0 < n) (sym rest_site) real

  pub rest_listed : AreListed doc_value.tags doc_value.cells → AreListed rest_of.doc.tags rest_of.doc.cells
  rest_listed listed = subst (λ tags. AreListed tags rest_of.doc.cells) (sym rest_tags) (deletion_listed doc_value (loss_at (viewed doc_value own others) range) doc_value.tags listed)

  pub rest_kept : IsDoc doc_value.cells doc_value.marks doc_value.tags → IsDoc rest_of.doc.cells rest_of.doc.marks rest_of.doc.tags
  rest_kept kept = record {
    placed = deletion_placed doc_value own.limits (range ∷ []) rest_of.doc.marks (loss_at (viewed doc_value own others) range).places (λ p. refl) rest_marks kept.placed;
    listed = rest_listed kept.listed;
  }

  pub rest_own : IsOwnOf (length (text_of doc_value.cells)) own → IsOwnOf (length (text_of rest_of.doc.cells)) rest_of.own
  rest_own is = own_of_selecting _ _ rest_of.own.sel (deletion_own doc_value own.limits (range ∷ []) h doc own (loss_at (viewed doc_value own others) range).places (λ p. refl) is)

  pub rest_others : AllByRecursion (IsOwnOf (length (text_of doc_value.cells))) others → AllByRecursion (IsOwnOf (length (text_of rest_of.doc.cells))) rest_of.others
  rest_others all =
      deletion_others doc_value own.limits (range ∷ []) h doc others (loss_at (viewed doc_value own others) range).places (last_newline (viewed doc_value own others)) (is_some (loss_at (viewed doc_value own others) range).newline)
      (λ p. refl) all

  -- both in turn may be made
  pub both_may : (more : List Body) → MayBeMade rest_of.doc.site rest_of.doc.log more → MayBeMade doc_value.site doc_value.log (deletes ++ more)
  both_may more may =
      may_append doc_value.site deletes more doc_value.log (loss_may doc_value.site doc_value.log doc_value (loss_at (viewed doc_value own others) range) h doc last_spared) (subst (λ n. MayBeMade n rest_of.doc.log more) rest_site may)

  -- no cell is dropped
  rest_cells : length (cells_of rest_of.doc.log) ≡ length (cells_of doc_value.log)
  rest_cells =
      let loss = loss_at (viewed doc_value own others) range in
      let kept : length rest_of.doc.cells ≡ length doc_value.cells =
      sym (length-map rest_of.doc.cells (λ (c : TaggedCell). c.stamp)) ∙ ap length (left_stamps doc_value loss) ∙ length-map doc_value.cells (λ (c : TaggedCell). c.stamp) in
      ap length (sym rest_document.cells) ∙ kept ∙ ap length doc.cells

  -- the widget shows some of it
  pub rest_shown : 0 < length_shown rest_of
  rest_shown = omega (arith, length_left doc_value own others range h doc, begin_low doc_value own others range h doc)

  -- and that begins where it began
  pub rest_begin : begin_of rest_of ≡ begin_of (viewed doc_value own others)
  rest_begin = ap (λ (y : Stretch). y.begin) (stretch_left doc_value own others range h doc)

  -- the log of both in turn
  pub both_logged : (more : List Body) → with_drafts doc_value.site (deletes ++ more) doc_value.log ≡ with_drafts rest_of.doc.site more rest_of.doc.log
  both_logged more = drafts_append doc_value.site deletes more doc_value.log ∙ ap (λ n. with_drafts n more rest_of.doc.log) (sym rest_site)

  pub both_refused : (more : List Body) → refusal_of doc_value.limit (deletes ++ more) doc_value.log ≡ refusal_of rest_of.doc.limit more rest_of.doc.log
  both_refused more =
      refused_behind doc_value.limit doc_value.site deletes more doc_value.log (loss_inserts_none doc_value (loss_at (viewed doc_value own others) range)) rest_cells
      ∙ ap (λ n. refusal_of n more rest_of.doc.log) (sym rest_limit)

-- THE WHOLE REPLACEMENT

-- a replacement of a document of a history, where the counts of the deletion fit
pub record IsReplacement (doc_value : DocValue) (own : WidgetValue) (others : List WidgetValue) (range : Range) (place : ℕ) (pieces : List Piece) (rest : Word) : Type 0 where
  pub history : IsHistory doc_value.log
  pub document : IsDocument doc_value.site doc_value.log doc_value
  pub real : 0 < doc_value.site
  pub fits : (without_text doc_value (loss_at (viewed doc_value own others) range)).count ≤ GREATEST_COUNT
  pub at : place ≡ min range.from (length_shown (left_by (viewed doc_value own others) range) - 1)
  pub texts : All IsPiece pieces
  pub utf8 : IsUtf8 rest

module _ (doc_value : DocValue) (own : WidgetValue) (others : List WidgetValue) (range : Range) (place : ℕ) (pieces : List Piece) (rest : Word) (i : IsReplacement doc_value own others range place pieces rest) where
  abbrev left : ViewValue
  left = left_by (viewed doc_value own others) range

  -- the operations of the insertion, what it comes to, and the document after it but for its log
  abbrev pub more_drafts : List Body
  more_drafts = made_drafts left.doc left.own left.others place pieces rest

  abbrev pub more_new : Insertion
  more_new = made_new left.doc left.own left.others place pieces rest

  abbrev pub more_flat : DocValue
  more_flat = made_flat left.doc left.own left.others place pieces rest

  abbrev all_drafts : List Body
  all_drafts = delete_drafts MOST_SPANS doc_value (loss_at (viewed doc_value own others) range) ++ more_drafts

  abbrev edited : ViewValue
  edited = with_range_replaced (viewed doc_value own others) range pieces rest

  history_left : IsHistory left.doc.log
  history_left = rest_history doc_value own others range i.history i.document i.real i.fits

  document_left : IsDocument left.doc.site left.doc.log left.doc
  document_left = rest_document doc_value own others range i.history i.document i.real i.fits

  pub left_is : IsPlace left.doc left.own left.others place
  left_is = record {
    history = history_left;
    document = document_left;
    real = rest_real doc_value own others range i.history i.document i.real i.fits;
    within = omega (arith, i.at, rest_shown doc_value own others range i.history i.document i.real i.fits);
  }

  -- the place of the text that the deletion leaves
  abbrev pub point : ℕ
  point = in_text left place

  pub point_is : begin_of (viewed doc_value own others) + place ≡ point
  point_is = ap (λ n. n + place) (sym (rest_begin doc_value own others range i.history i.document i.real i.fits))

  pub point_within : point < length (text_of doc_value.cells)
  point_within =
      omega (arith, at_text left.doc left.own left.others place left_is, deletion_length doc_value own.limits (range ∷ []), left_small (loss_at (viewed doc_value own others) range).places (length (text_of doc_value.cells)))

  pub replaced_is : edited ≡ record {
    doc = logged left.doc more_drafts more_flat;
    own = record (widget_inserted point (length more_new.cells) left.own) { sel = more_new.sel };
    others = with_selections more_new.others (map (widget_inserted point (length more_new.cells)) left.others);
  }
  replaced_is = ap (λ p. with_pieces_at left p pieces rest) (sym i.at) ∙ put_made left.doc left.own left.others place pieces rest

  pub all_may : MayBeMade doc_value.site doc_value.log all_drafts
  all_may = both_may doc_value own others range i.history i.document i.real i.fits more_drafts (may_make left.doc left.own left.others place pieces rest left_is i.texts i.utf8)

  pub all_refused : refusal_of doc_value.limit all_drafts doc_value.log ≡ first_of (late_checks doc_value edited)
  all_refused =
      both_refused doc_value own others range i.history i.document i.real i.fits more_drafts
      ∙ refused_as left.doc left.own left.others place pieces rest left_is
      ∙ (λ k. first_of (clock_check (with_pieces_at left (i.at k) pieces rest).doc.count
      ∷ cell_check (rest_limit doc_value own others range i.history i.document i.real i.fits k) (length (with_pieces_at left (i.at k) pieces rest).doc.cells) ∷ []))

  -- where nothing is refused there is room for all
  pub both_room : refusal_of doc_value.limit all_drafts doc_value.log ≡ None → (more_new.count ≤ GREATEST_COUNT) × (length left.doc.cells + length more_new.cells ≤ doc_value.limit)
  both_room none =
      let fit = all_fit left.doc left.own left.others place pieces rest left_is (sym (both_refused doc_value own others range i.history i.document i.real i.fits more_drafts) ∙ none) in
      (fit.0, omega (arith, fit.1, rest_limit doc_value own others range i.history i.document i.real i.fits))

  -- and the marks can move for the characters
  pub characters_fit : refusal_of doc_value.limit all_drafts doc_value.log ≡ None → doc_value.limit ≤ MOST_CELLS → length (text_of left.doc.cells) + length more_new.cells ≤ 2 ^ 64 - 1
  characters_fit none few = omega (arith, (both_room none).1, text_within left.doc.cells, few)

  pub marks_left_in : IsDoc doc_value.cells doc_value.marks doc_value.tags → AreSiteMarks (length (text_of left.doc.cells)) left.doc.marks
  marks_left_in kept = (rest_kept doc_value own others range i.history i.document i.real i.fits kept).placed

  pub own_left_in : IsOwnOf (length (text_of doc_value.cells)) own → IsOwnOf (length (text_of left.doc.cells)) left.own
  own_left_in is = rest_own doc_value own others range i.history i.document i.real i.fits is

  pub others_left_in : AllByRecursion (IsOwnOf (length (text_of doc_value.cells))) others → AllByRecursion (IsOwnOf (length (text_of left.doc.cells))) left.others
  others_left_in h = rest_others doc_value own others range i.history i.document i.real i.fits h

  pub given_names : (plan : Plan) → Plans plan left.own.sel (selections_of left.others) left.doc.tags more_new → IsDoc doc_value.cells doc_value.marks doc_value.tags → All (λ w. IsName (string_bytes w)) plan.names.items
  given_names plan plans kept =
      names_given left.doc left.own left.others place pieces rest left_is plan plans i.texts (rest_listed doc_value own others range i.history i.document i.real i.fits kept.listed)

  -- what the replica has then made
  pub replacement_seen : (new : ReplicaValue) → refusal_of doc_value.limit all_drafts doc_value.log ≡ None → new.log ≡ with_drafts doc_value.site all_drafts doc_value.log → new.cells ≡ cells_of new.log → new.site ≡ doc_value.site → new.limit ≡ doc_value.limit
      → seen new more_flat.marks more_flat.tags ≡ logged left.doc more_drafts more_flat
  replacement_seen new none log cells site limit =
      let made = made_is left.doc left.own left.others place pieces rest left_is i.texts i.utf8 (both_room none).0 in
      seen_made left.doc more_flat more_drafts new (log ∙ both_logged doc_value own others range i.history i.document i.real i.fits more_drafts) cells
      (site ∙ sym (rest_site doc_value own others range i.history i.document i.real i.fits)) (limit ∙ sym (rest_limit doc_value own others range i.history i.document i.real i.fits)) refl made

  pub kept_after : IsDoc doc_value.cells doc_value.marks doc_value.tags → IsDoc more_flat.cells more_flat.marks more_flat.tags
  kept_after kept = kept_made left.doc left.own left.others place pieces rest left_is i.texts (rest_kept doc_value own others range i.history i.document i.real i.fits kept)

  pub own_after : IsDoc doc_value.cells doc_value.marks doc_value.tags → IsOwnOf (length (text_of doc_value.cells)) own
      → IsOwnOf (length (text_of more_flat.cells)) (record (widget_inserted point (length more_new.cells) left.own) { sel = more_new.sel })
  own_after kept is =
      own_made left.doc left.own left.others place pieces rest left_is i.texts (rest_listed doc_value own others range i.history i.document i.real i.fits kept.listed) (own_left_in is)

  pub others_after : IsDoc doc_value.cells doc_value.marks doc_value.tags → AllByRecursion (IsOwnOf (length (text_of doc_value.cells))) others
      → AllByRecursion (IsOwnOf (length (text_of more_flat.cells))) (with_selections more_new.others (map (widget_inserted point (length more_new.cells)) left.others))
  others_after kept h =
      others_made left.doc left.own left.others place pieces rest left_is i.texts (rest_listed doc_value own others range i.history i.document i.real i.fits kept.listed) (others_left_in h)

  pub tags_left_are : left.doc.tags ≡ doc_value.tags
  tags_left_are = rest_tags doc_value own others range i.history i.document i.real i.fits

  pub marks_left_are : left.doc.marks ≡ marks_left (loss_at (viewed doc_value own others) range).places doc_value.marks
  marks_left_are = rest_marks doc_value own others range i.history i.document i.real i.fits
