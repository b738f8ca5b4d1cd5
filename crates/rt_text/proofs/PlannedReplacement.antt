-- What the plan of a replacement finds, by what is kept of a document.
use Rattle.std.proofs.Common.{◌≡◌, ◌∙◌, ℕ, suc, ◌+◌, ◌-◌, ◌<◌, ◌≤◌, ◌^◌, ◌++◌, Bool, true, false, cond, List, [], ◌∷◌, length, map, min, Option, None, Some, refl, sym, ap, arith, subst}
use Rattle.std.specs.Prelude.{IfSome, is_some, nat_eq, option_and_then, option_map, unwrap_or}
use Rattle.std.proofs.lemmas.List.{length-map, map-append}
use Rattle.rt_marks.specs.Marks.{place_left}
use Rattle.rt_marks.proofs.Leaving.{place_rising}
use Rattle.rt_stamps.specs.declared.limits.TheConstants.{GREATEST_COUNT, MOST_CELLS, MOST_CHARACTERS, MOST_SPANS}
use Rattle.rt_stamps.specs.declared.stamp.Stamp.{Stamp}
use Rattle.rt_stamps.specs.declared.stamp.TheConstants.{ROOT}
use Rattle.rt_stamps.specs.Words.{Word}
use Rattle.rt_ops.specs.declared.op.Edit.{Edit}
use Rattle.rt_ops.specs.Edits.{body_of}
use Rattle.rt_ops.specs.Operations.{Body}
use Rattle.rt_store.specs.declared.cell.Cell.{Cell}
use Rattle.rt_store.specs.Cells.{text_of, visible_of}
use Rattle.rt_store.specs.Shown.{TaggedCell, shown}
use Rattle.rt_store.proofs.Distinct.{split}
use Rattle.rt_tags.specs.States.{TagStates, state_at}
use Rattle.rt_rga.specs.Histories.{IsHistory}
use Rattle.rt_plans.specs.declared.inserting.Plan.{Plan}
use Rattle.rt_plans.specs.declared.range.Range.{Range}
use Rattle.rt_plans.specs.Deletions.{Loss, delete_drafts, loss_in, without_text}
use Rattle.rt_plans.specs.DraftLaws.{IsDocument}
use Rattle.rt_plans.specs.DocValue.{DocValue}
use Rattle.rt_plans.specs.InsertionDrafts.{insertion_drafts}
use Rattle.rt_plans.specs.InsertionPlans.{Plans}
use Rattle.rt_plans.specs.Insertions.{Insertion, Piece, insertion_of, left_neighbour, right_neighbour}
use Rattle.rt_plans.specs.Removals.{gone_at, is_covered}
use Rattle.rt_plans.proofs.PieceDraftLaws.{insertion_grows}
use Rattle.rt_plans.proofs.PlaceLaws.{length_text, text_within}
use Rattle.rt_plans.proofs.RestLaws.{left_shown}
use Rattle.rt_lines.specs.declared.limits.Limits.{Limits}
use Rattle.rt_lines.specs.declared.stretch.Stretch.{Stretch}
use Rattle.rt_lines.specs.Limits.{place_of}
use Rattle.rt_lines.specs.Stretches.{part, stretch_of}
use Rattle.rt_text.specs.Commands.{none_inserted, right_behind, with_range_replaced}
use Rattle.rt_text.specs.Neighbours.{are_sides_shown, limit_left, pieces_text}
use Rattle.rt_text.specs.Replacements.{drafts_at, insertion_at, left_by, loss_at}
use Rattle.rt_text.specs.Widgets.{WidgetValue, ViewValue, length_shown, selections_of, cells_shown}
use Rattle.rt_text.proofs.InsertedSides.{place_kept_of}
use Rattle.rt_text.proofs.LeftDocument.{begin_low, end_stays, place_is, within}
use Rattle.rt_text.proofs.LeftDocument as leaving
use Rattle.rt_text.proofs.LeftPlaces.{limit_gone}
use Rattle.rt_text.proofs.LimitedDeletions.{deletion_rest, loss_kept, loss_of, stretch_kept}
use Rattle.rt_text.proofs.PutLaws.{visible_same}
use Rattle.rt_text.proofs.Replacements.{IsBetween, deletion_count, is_between, of_any, sel_kept, shown_in}
use Rattle.rt_text.proofs.ShownSides.{AreNewlines}
use Rattle.rt_text.proofs.StayingPlaces.{gone_shown, left_small}
use Rattle.rt_text.proofs.ViewLaws.{viewed}

pub few_visible : {T : Type 0} (cells : List (Cell T)) (limit : ℕ) → length cells ≤ limit → limit ≤ MOST_CELLS → length (visible_of cells) ≤ MOST_CELLS
few_visible cells limit h k = omega (arith, text_within cells, length_text cells, h, k)

-- the counts of a replacement are at least those of its deletion
pub counts_grow : (view : ViewValue) (range : Range) (pieces : List Piece) (rest : Word) → (without_text view.doc (loss_at view range)).count ≤ (with_range_replaced view range pieces rest).doc.count
counts_grow view range pieces rest =
    let left = left_by view range in
    let place = min range.from (length_shown left - 1) in
    insertion_grows left.doc.site (left_neighbour (cells_shown left) place) (right_behind left place pieces) pieces rest (none_inserted left)

-- NEIGHBOURS, SHOWN

right_same : (table : TagStates) (cells : List (Cell ℕ)) (place : ℕ) → option_map (shown table) (right_neighbour (visible_of cells) place) ≡ right_neighbour (visible_of (map (shown table) cells)) place
right_same table cells place = left_shown table cells (suc place)

none_if : {X Y : Type 0} (f : X → Y) (b : Bool) (o : Option X) → option_map f (cond b None o) ≡ cond b None (option_map f o)
none_if f true o = refl
none_if f false o = refl

some_if : {X Y : Type 0} (f : X → Y) (b : Bool) (o : Option X) → option_map f (cond b o None) ≡ cond b (option_map f o) None
some_if f true o = refl
some_if f false o = refl

stamp_same : (table : TagStates) (o : Option (Cell ℕ)) → unwrap_or (option_map (λ (cell : Cell ℕ). cell.stamp) o) ROOT ≡ unwrap_or (option_map (λ (cell : TaggedCell). cell.stamp) (option_map (shown table) o)) ROOT
stamp_same table None = refl
stamp_same table (Some cell) = refl

-- there is no right neighbour where the last newline is held
pub none_held : (b held : Bool) (o x : Option (Cell ℕ)) → x ≡ cond b (cond held None o) None → held ≡ true → x ≡ None
none_held true true o x e t = e
none_held false true o x e t = e
none_held b false o x e t = absurd (cc t)

-- WHAT IS KEPT OF A DOCUMENT

-- a document, what is kept of it, and the stretch that a widget shows
pub record IsKeptDocument (table : TagStates) (kept : List (Cell ℕ)) (doc : DocValue) (own : WidgetValue) (stretch : Stretch) : Type 0 where
  pub cells : map (shown table) kept ≡ doc.cells
  pub history : IsHistory doc.log
  pub document : IsDocument doc.site doc.log doc
  pub real : 0 < doc.site
  pub few : length (visible_of kept) ≤ MOST_CELLS
  pub shows : stretch ≡ stretch_of kept own.limits
  pub known : AreNewlines doc.cells own.limits

module _ (table : TagStates) (kept : List (Cell ℕ)) (doc : DocValue) (own : WidgetValue) (stretch : Stretch) (is : IsKeptDocument table kept doc own stretch) where
  same_stretch : stretch ≡ stretch_of doc.cells own.limits
  same_stretch = is.shows ∙ stretch_kept table kept doc.cells own.limits is.cells

  -- it has characters, and ends within the text
  pub stretch_kept_some : stretch.begin < stretch.end
  stretch_kept_some = omega (arith, ap (λ (x : Stretch). x.begin) same_stretch, ap (λ (x : Stretch). x.end) same_stretch, leaving.some doc own [] (record { from = 0; to = 0 }) is.history is.document)

  pub stretch_kept_within : stretch.end ≤ length (visible_of kept)
  stretch_kept_within = omega (arith, ap (λ (x : Stretch). x.end) same_stretch, within doc own [] (record { from = 0; to = 0 }) is.history is.document, visible_same table kept doc.cells is.cells)

  module _ (range : Range) (removed : List Range) (places : (p : ℕ) → is_covered removed p ≡ (loss_in (part stretch (text_of kept)) stretch.begin (range ∷ [])).places p) where
    abbrev lost : Loss
    lost = loss_of doc own.limits (range ∷ [])

    pub loss_is : loss_in (part stretch (text_of kept)) stretch.begin (range ∷ []) ≡ lost
    loss_is = loss_kept table kept doc own.limits stretch (range ∷ []) is.cells is.shows

    covered : is_covered removed ≡ lost.places
    covered = λ i p. (places p ∙ ap (λ (l : Loss). l.places p) loss_is) i

    pub spares : is_covered removed (stretch.end - 1) ≡ false
    spares = (λ i. covered i ((same_stretch i).end - 1)) ∙ end_stays doc own [] range is.history is.document

    last_same : place_left (is_covered removed) (stretch.end - 1) ≡ place_left lost.places ((stretch_of doc.cells own.limits).end - 1)
    last_same = λ i. place_left (covered i) ((same_stretch i).end - 1)

    -- the cells that are left
    shown_gone : map (shown table) (gone_at (is_covered removed) 0 kept) ≡ gone_at lost.places 0 doc.cells
    shown_gone = gone_shown (state_at table) (is_covered removed) 0 kept ∙ (λ i. gone_at (covered i) 0 (is.cells i))

    pub drafts_flat : (drafts : List Edit) → map body_of drafts ≡ delete_drafts MOST_SPANS doc (loss_in (part stretch (text_of kept)) stretch.begin (range ∷ [])) → map body_of drafts ≡ delete_drafts MOST_SPANS doc lost
    drafts_flat drafts e = e ∙ ap (delete_drafts MOST_SPANS doc) loss_is

    pub counted : (drafts : List Edit) → map body_of drafts ≡ delete_drafts MOST_SPANS doc (loss_in (part stretch (text_of kept)) stretch.begin (range ∷ [])) → (without_text doc lost).count ≡ doc.count + length drafts
    counted drafts e =
        let many : length drafts ≡ length (delete_drafts MOST_SPANS doc lost) = sym (length-map drafts body_of) ∙ ap length (drafts_flat drafts e) in
        deletion_count doc lost is.history is.document ∙ ap (λ n. doc.count + n) (sym many)

    -- the place of the new text: no later than where the last newline that is shown comes to stand
    pub at_flat : (sum last at : ℕ) → sum ≡ min (stretch.begin + range.from) (2 ^ 64 - 1) → last ≡ place_left (is_covered removed) (stretch.end - 1) → at ≡ min sum last
        → at ≡ min ((stretch_of doc.cells own.limits).begin + range.from) (place_left lost.places ((stretch_of doc.cells own.limits).end - 1))
    at_flat sum last at s l e =
        let small = left_small (is_covered removed) (stretch.end - 1) in
        omega (arith, s, l, e, small, is.few, stretch_kept_within, last_same, ap (λ (x : Stretch). x.begin) same_stretch)

    pub at_within : (sum last at : ℕ) → last ≡ place_left (is_covered removed) (stretch.end - 1) → at ≡ min sum last → at < place_left (is_covered removed) (length (visible_of kept))
    at_within sum last at l e =
        let end = stretch.end - 1 in
        let next : place_left (is_covered removed) (suc end) ≡ place_left (is_covered removed) end + 1 = ap (λ b. place_left (is_covered removed) end + cond b 0 1) spares in
        let rising = place_rising (is_covered removed) (suc end) (length (visible_of kept)) (omega (arith, stretch_kept_some, stretch_kept_within)) in
        omega (arith, l, e, next, rising)

    pub at_begin : (sum last at : ℕ) → sum ≡ min (stretch.begin + range.from) (2 ^ 64 - 1) → last ≡ place_left (is_covered removed) (stretch.end - 1) → at ≡ min sum last → stretch.begin ≤ at
    at_begin sum last at s l e =
        let low = begin_low doc own [] range is.history is.document in
        omega (arith, at_flat sum last at s l e, low, ap (λ (x : Stretch). x.begin) same_stretch)

    -- whether both sides are shown
    limit_is : (limit : Option Stamp) → limit_left (is_covered removed) kept limit ≡ option_and_then (place_of (gone_at lost.places 0 doc.cells)) limit
    limit_is limit = (λ i. option_map (place_left (covered i)) (place_kept_of table kept doc.cells limit is.cells i)) ∙ sym (limit_gone lost.places doc.cells limit)

    flag_is : (at : ℕ) (pieces : List Piece)
        → (are_sides_shown (limit_left (is_covered removed) kept own.limits.start) (limit_left (is_covered removed) kept own.limits.end) at (pieces_text pieces))
        ≡ shown_in (gone_at lost.places 0 doc.cells) own.limits at pieces
    flag_is at pieces = λ i. are_sides_shown (limit_is own.limits.start i) (limit_is own.limits.end i) at (pieces_text pieces)

    -- what the plan finds beside the place
    pub record IsBeside (limits : Limits) (held : Bool) (place at : ℕ) (pieces : List Piece) (before : Option (Cell ℕ)) (after : Stamp) (l r : Option (Cell ℕ)) : Type 0 where
      pub held_is : held ≡ is_some (loss_in (part stretch (text_of kept)) stretch.begin (range ∷ [])).newline
      pub limits_is : limits ≡ own.limits
      pub place_of_at : place ≡ at - stretch.begin
      pub at_is : at ≡ min ((stretch_of doc.cells own.limits).begin + range.from) (place_left lost.places ((stretch_of doc.cells own.limits).end - 1))
      pub before_is : before ≡ left_neighbour (visible_of (gone_at (is_covered removed) 0 kept)) at
      pub after_is : after ≡ unwrap_or (option_map (λ cell. cell.stamp) before) ROOT
      pub left_is : l ≡ cond (nat_eq place 0) None before
      pub right_is : r ≡ cond (are_sides_shown (limit_left (is_covered removed) kept limits.start) (limit_left (is_covered removed) kept limits.end) at (pieces_text pieces))
          (cond held None (right_neighbour (visible_of (gone_at (is_covered removed) 0 kept)) at)) None

    module _ (others : List WidgetValue) (limits : Limits) (held : Bool) (place at : ℕ) (pieces : List Piece) (rest : Word) (before : Option (Cell ℕ)) (after : Stamp) (l r : Option (Cell ℕ))
        (fits : (without_text doc lost).count ≤ GREATEST_COUNT) (beside : IsBeside limits held place at pieces before after l r) where
      abbrev left : ViewValue
      left = left_by (viewed doc own others) range

      is_held : held ≡ is_some lost.newline
      is_held = beside.held_is ∙ ap (λ (x : Loss). is_some x.newline) loss_is

      place_flat : place ≡ at - (stretch_of doc.cells own.limits).begin
      place_flat = beside.place_of_at ∙ ap (λ (x : Stretch). at - x.begin) same_stretch

      pub at_left : place ≡ min range.from (length_shown left - 1)
      at_left = place_flat ∙ place_is doc own others range is.history is.document at beside.at_is

      between : IsBetween doc own others range is.history is.document pieces rest (at - (stretch_of doc.cells own.limits).begin) after (option_map (shown table) l) (option_map (shown table) r)
      between =
          let cells = gone_at (is_covered removed) 0 kept in
          let gone = gone_at lost.places 0 doc.cells in
          let near : option_map (shown table) before ≡ left_neighbour (visible_of gone) at =
          ap (option_map (shown table)) beside.before_is ∙ left_shown table cells at ∙ ap (λ (v : List TaggedCell). left_neighbour (visible_of v) at) shown_gone in
          let first : option_map (shown table) l ≡ cond (nat_eq (at - (stretch_of doc.cells own.limits).begin) 0) None (option_map (shown table) before) =
          ap (option_map (shown table)) beside.left_is ∙ none_if (shown table) (nat_eq place 0) before ∙ ap (λ p. cond (nat_eq p 0) None (option_map (shown table) before)) place_flat in
          let next : option_map (shown table) (right_neighbour (visible_of cells) at) ≡ right_neighbour (visible_of gone) at =
          right_same table cells at ∙ ap (λ (v : List TaggedCell). right_neighbour (visible_of v) at) shown_gone in
          let flag = ap (λ (y : Limits). are_sides_shown (limit_left (is_covered removed) kept y.start) (limit_left (is_covered removed) kept y.end) at (pieces_text pieces)) beside.limits_is ∙ flag_is at pieces in
          let second : option_map (shown table) r ≡ cond (shown_in gone own.limits at pieces) (cond held None (right_neighbour (visible_of gone) at)) None =
          ap (option_map (shown table)) beside.right_is ∙ some_if (shown table) _ (cond held None (right_neighbour (visible_of cells) at))
          ∙ (λ i. cond (flag i) ((none_if (shown table) held (right_neighbour (visible_of cells) at) ∙ ap (cond held None) next) i) None) in
          is_between doc own others range is.history is.document is.real is.known fits pieces rest at beside.at_is held (option_map (shown table) before) after (option_map (shown table) l) (option_map (shown table) r) is_held near first
          (beside.after_is ∙ stamp_same table before) second

      abbrev flag : Bool
      flag = are_sides_shown (limit_left (is_covered removed) kept limits.start) (limit_left (is_covered removed) kept limits.end) at (pieces_text pieces)

      -- what is selected, where there is a right neighbour
      selected : (sel : List Stamp) → sel ≡ own.sel → IfSome r (λ cell. left.own.sel ≡ sel)
      selected sel e =
          split held
          (λ t. subst (λ (o : Option (Cell ℕ)). IfSome o (λ cell. left.own.sel ≡ sel)) (sym (none_held flag held (right_neighbour (visible_of (gone_at (is_covered removed) 0 kept)) at) r beside.right_is t)) tt)
          (λ f. of_any r (left.own.sel ≡ sel) (sel_kept doc own others range is.history is.document (sym is_held ∙ f) ∙ sym e))

      module _ (site count : ℕ) (sel : List Stamp) (s : site ≡ doc.site) (n : count ≡ (without_text doc lost).count) (e : sel ≡ own.sel) where
        abbrev inserting : List Stamp → List (List Stamp) → List Word → Insertion
        inserting x y z = insertion_of site (option_map (shown table) l) (option_map (shown table) r) pieces rest (record { cells = []; count = count; sel = x; others = y; tags = z })

        abbrev drafting : List Stamp → List (List Stamp) → List Word → List Body
        drafting x y z = insertion_drafts MOST_CHARACTERS site after (option_map (shown table) l) (option_map (shown table) r) pieces rest (record { cells = []; count = count; sel = x; others = y; tags = z })

        site_is : site ≡ left.doc.site
        site_is = s ∙ sym (ap (λ (f : DocValue). f.site) (deletion_rest doc own.limits (range ∷ [])))

        inserting_is : inserting left.own.sel (selections_of left.others) left.doc.tags ≡ insertion_at left place pieces rest
        inserting_is =
            (λ i. insertion_of (site_is i) (option_map (shown table) l) (option_map (shown table) r) pieces rest (record { cells = []; count = n i; sel = left.own.sel; others = selections_of left.others; tags = left.doc.tags }))
            ∙ between.insertion ∙ ap (λ p. insertion_at left p pieces rest) (sym place_flat)

        drafting_is : drafting left.own.sel (selections_of left.others) left.doc.tags ≡ drafts_at left place pieces rest
        drafting_is =
            (λ i. insertion_drafts MOST_CHARACTERS (site_is i) after (option_map (shown table) l) (option_map (shown table) r) pieces rest
            (record { cells = []; count = n i; sel = left.own.sel; others = selections_of left.others; tags = left.doc.tags }))
            ∙ between.drafts ∙ ap (λ p. drafts_at left p pieces rest) (sym place_flat)

        -- counts that are too great are so in the whole edit
        pub too_great : (most : ℕ) → ((x : List Stamp) (y : List (List Stamp)) (z : List Word) → IfSome r (λ cell. x ≡ sel) → most < (inserting x y z).count) → most < (with_range_replaced (viewed doc own others) range pieces rest).doc.count
        too_great most f =
            let here : most < (insertion_at left place pieces rest).count = subst (λ (x : Insertion). most < x.count) inserting_is (f left.own.sel (selections_of left.others) left.doc.tags (selected sel e)) in
            subst (λ p. most < (insertion_at left p pieces rest).count) at_left here

        pub plan_is : (plan : Plan) → ((x : List Stamp) (y : List (List Stamp)) (z : List Word) → IfSome r (λ cell. x ≡ sel) → Plans plan x y z (inserting x y z))
            → Plans plan left.own.sel (selections_of left.others) left.doc.tags (insertion_at left place pieces rest)
        plan_is plan f = subst (Plans plan left.own.sel (selections_of left.others) left.doc.tags) inserting_is (f left.own.sel (selections_of left.others) left.doc.tags (selected sel e))

        pub drafts_are : (deletes more all : List Edit) → map body_of deletes ≡ delete_drafts MOST_SPANS doc (loss_in (part stretch (text_of kept)) stretch.begin (range ∷ []))
            → ((x : List Stamp) (y : List (List Stamp)) (z : List Word) → IfSome r (λ cell. x ≡ sel) → map body_of more ≡ drafting x y z) → all ≡ deletes ++ more
            → map body_of all ≡ delete_drafts MOST_SPANS doc lost ++ drafts_at left place pieces rest
        drafts_are deletes more all d f g =
            let first = drafts_flat deletes d in
            let second : map body_of more ≡ drafts_at left place pieces rest = f left.own.sel (selections_of left.others) left.doc.tags (selected sel e) ∙ drafting_is in
            ap (map body_of) g ∙ map-append body_of deletes more ∙ (λ i. first i ++ second i)
