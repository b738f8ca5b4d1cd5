-- What the deletion of a replacement leaves, where the widget that commands shows a stretch of the text.
use Rattle.std.proofs.Common.{◌≡◌, ◌∙◌, ℕ, suc, ◌+◌, ◌-◌, ◌<◌, ◌≤◌, ◌&&◌, Bool, true, false, cond, List, [], ◌∷◌, length, map, min, refl, sym, ap, arith}
use Rattle.std.specs.Prelude.{nat_le, nat_lt}
use Rattle.std.proofs.lemmas.Bool.Decides.{nat_tests}
use Rattle.std.proofs.lemmas.List.{length-map}
use Rattle.rt_marks.specs.Marks.{place_left}
use Rattle.rt_marks.proofs.Leaving.{place_rising}
use Rattle.rt_stamps.specs.declared.limits.TheConstants.{GREATEST_COUNT}
use Rattle.rt_stamps.specs.declared.stamp.Stamp.{Stamp}
use Rattle.rt_stamps.specs.Words.{Word}
use Rattle.rt_store.specs.declared.cell.Cell.{Cell}
use Rattle.rt_store.specs.Cells.{EndsFinal, map_state, text_of, visible_of}
use Rattle.rt_store.specs.Shown.{TaggedCell}
use Rattle.rt_tags.specs.States.{names_on}
use Rattle.rt_rga.specs.Histories.{IsHistory}
use Rattle.rt_plans.specs.declared.range.Range.{Range}
use Rattle.rt_plans.specs.Deletions.{Loss, without_places, without_text}
use Rattle.rt_plans.specs.DraftLaws.{IsDocument}
use Rattle.rt_plans.specs.DocValue.{DocValue}
use Rattle.rt_plans.specs.Removals.{gone_at, is_removed}
use Rattle.rt_plans.specs.TagWrites.{bared, cell_with_tag, with_tag}
use Rattle.rt_plans.proofs.DeletionDraftLaws.{loss_history, loss_made}
use Rattle.rt_plans.proofs.NewlineDrafts.{loss_has}
use Rattle.rt_plans.proofs.Putting.{tagged_state}
use Rattle.rt_plans.proofs.StateChanges.{ChangesState}
use Rattle.rt_lines.specs.declared.limits.Limits.{Limits}
use Rattle.rt_lines.specs.declared.stretch.Stretch.{Stretch}
use Rattle.rt_lines.specs.Stretches.{part, stretch_of}
use Rattle.rt_lines.proofs.Shown.{stretch_shown}
use Rattle.rt_lines.proofs.Whole.{stretch_some, stretch_within}
use Rattle.rt_text.specs.Replacements.{left_by}
use Rattle.rt_text.specs.Widgets.{WidgetValue, ViewValue, in_text, length_shown, stretch_by}
use Rattle.rt_text.proofs.InsertedSides.{IsPlace, document_final}
use Rattle.rt_text.proofs.LeftLines.{place_same}
use Rattle.rt_text.proofs.LeftPlaces.{AreShown, stretch_gone}
use Rattle.rt_text.proofs.LimitedDeletions.{deletion_length, deletion_rest, loss_of, spared}
use Rattle.rt_text.proofs.LimitedTags.{shown_length}
use Rattle.rt_text.proofs.ViewLaws.{viewed}

-- STATES DON'T MATTER

-- a cell without its state
abbrev plain : TaggedCell → Cell ℕ
plain cell = map_state (λ _. 0) cell

plain_changed : (g : TaggedCell → TaggedCell) → ChangesState g → (cells : List TaggedCell) → map plain (map g cells) ≡ map plain cells
plain_changed g h [] = refl
plain_changed g h (c ∷ cs) = λ i. plain (h c i) ∷ plain_changed g h cs i

plain_bared : (names : List Word) (document : DocValue) (stamp : Stamp) → map plain (bared document stamp names).cells ≡ map plain document.cells
plain_bared [] document stamp = refl
plain_bared (name ∷ names) document stamp =
    plain_bared names (with_tag document name false (stamp ∷ [])) stamp
    ∙ plain_changed (cell_with_tag document.site document.count name false (stamp ∷ [])) (tagged_state document.site document.count name false (stamp ∷ [])) document.cells

plain_left : (document : DocValue) (loss : Loss) → map plain (without_text document loss).cells ≡ map plain (gone_at loss.places 0 document.cells)
plain_left document loss =
    loss_has (λ (f : DocValue). map plain f.cells ≡ map plain (gone_at loss.places 0 document.cells)) document loss refl (λ cell e. plain_bared (names_on cell.state) (without_places document loss.places) cell.stamp)

stretch_plain : (xs ys : List TaggedCell) (limits : Limits) → map plain xs ≡ map plain ys → stretch_of xs limits ≡ stretch_of ys limits
stretch_plain xs ys limits e = sym (stretch_shown (λ _. 0) xs limits) ∙ ap (λ (l : List (Cell ℕ)). stretch_of l limits) e ∙ stretch_shown (λ _. 0) ys limits

-- THE STRETCH THAT IS LEFT

second_false : (a b c : Bool) → b ≡ false → (a && (b && c)) ≡ false
second_false true true c h = absurd (cc h)
second_false true false c h = refl
second_false false b c h = refl

first_false : (a b : Bool) → a ≡ false → (a && b) ≡ false
first_false true b h = absurd (cc h)
first_false false b h = refl

module _ (document : DocValue) (own : WidgetValue) (others : List WidgetValue) (range : Range) (h : IsHistory document.log) (doc : IsDocument document.site document.log document) where
  abbrev pub loss : Loss
  loss = loss_of document own.limits (range ∷ [])

  abbrev pub stretch : Stretch
  stretch = stretch_of document.cells own.limits

  abbrev pub left : ViewValue
  left = left_by (viewed document own others) range

  final : EndsFinal document.cells
  final = document_final document h doc

  pub within : stretch.end ≤ length (visible_of document.cells)
  within = stretch_within document.cells own.limits final

  pub some : stretch.begin < stretch.end
  some = stretch_some document.cells own.limits final

  abbrev shown_text : List ℕ
  shown_text = map (λ cell. cell.ch) (part stretch (visible_of document.cells))

  pub size : length shown_text ≡ stretch.end - stretch.begin
  size = shown_length document.cells stretch within

  -- the newline that ends what is shown stays
  pub end_stays : loss.places (stretch.end - 1) ≡ false
  end_stays =
      let last = stretch.end - 1 - stretch.begin in
      let none : nat_lt (last + 1) (length shown_text) ≡ false = past (last + 1) (length shown_text) (omega (arith, size, some)) in
      second_false (nat_le stretch.begin (stretch.end - 1)) (nat_lt (last + 1) (length shown_text)) _ none
    where
      past : (a b : ℕ) → b ≤ a → nat_lt a b ≡ false
      past a b l = grind (arith, nat_tests, l)

  pub before_stays : (p : ℕ) → p < stretch.begin → loss.places p ≡ false
  before_stays p l = first_false (nat_le stretch.begin p) (is_removed shown_text (range ∷ []) (p - stretch.begin)) (less stretch.begin p l)
    where
      less : (a b : ℕ) → b < a → nat_le a b ≡ false
      less a b k = grind (arith, nat_tests, k)

  pub are_shown : AreShown loss.places document.cells own.limits
  are_shown = record { final = final; before = before_stays; spared = end_stays }

  -- the place of that newline in what is left
  abbrev pub last_place : ℕ
  last_place = place_left loss.places (stretch.end - 1)

  pub stretch_left : stretch_by left ≡ record { begin = stretch.begin; end = last_place + 1 }
  stretch_left = stretch_plain (without_text document loss).cells (gone_at loss.places 0 document.cells) own.limits (plain_left document loss) ∙ stretch_gone loss.places document.cells own.limits are_shown

  pub begin_low : stretch.begin ≤ last_place
  begin_low = omega (arith, place_same loss.places stretch.begin before_stays, place_rising loss.places stretch.begin (stretch.end - 1) (omega (arith, some)))

  left_within : (stretch_by left).end ≤ length (visible_of left.doc.cells)
  left_within =
      let end = stretch.end - 1 in
      let next : place_left loss.places (suc end) ≡ last_place + 1 = ap (λ b. last_place + cond b 0 1) end_stays in
      let all : length (text_of left.doc.cells) ≡ place_left loss.places (length (text_of document.cells)) = deletion_length document own.limits (range ∷ []) in
      let was : length (text_of document.cells) ≡ length (visible_of document.cells) = length-map (visible_of document.cells) (λ (cell : TaggedCell). cell.ch) in
      let now : length (text_of left.doc.cells) ≡ length (visible_of left.doc.cells) = length-map (visible_of left.doc.cells) (λ (cell : TaggedCell). cell.ch) in
      let rising = place_rising loss.places (suc end) (length (text_of document.cells)) (omega (arith, within, some, was)) in
      omega (arith, ap (λ (x : Stretch). x.end) stretch_left, next, all, now, rising)

  pub length_left : length_shown left ≡ last_place + 1 - stretch.begin
  length_left = shown_length left.doc.cells (stretch_by left) left_within ∙ ap (λ (x : Stretch). x.end - x.begin) stretch_left

  -- THE PLACE OF THE NEW TEXT

  pub place_is : (at : ℕ) → at ≡ min (stretch.begin + range.from) last_place → at - stretch.begin ≡ min range.from (length_shown left - 1)
  place_is at e = omega (arith, e, length_left, begin_low)

  pub at_low : (at : ℕ) → at ≡ min (stretch.begin + range.from) last_place → stretch.begin ≤ at
  at_low at e = omega (arith, e, begin_low)

  pub at_is : (at : ℕ) → at ≡ min (stretch.begin + range.from) last_place → in_text left (at - stretch.begin) ≡ at
  at_is at e = omega (arith, ap (λ (x : Stretch). x.begin) stretch_left, at_low at e)

  -- THE DOCUMENT THAT IS LEFT

  site_left : left.doc.site ≡ document.site
  site_left = ap (λ (f : DocValue). f.site) (deletion_rest document own.limits (range ∷ []))

  pub is_place : (at : ℕ) → at ≡ min (stretch.begin + range.from) last_place → 0 < document.site → (without_text document loss).count ≤ GREATEST_COUNT → IsPlace left.doc left.own left.others (at - stretch.begin)
  is_place at e real fits =
      let spares = spared document own.limits (range ∷ []) h doc in
      let made : IsDocument document.site left.doc.log (without_text document loss) = loss_made document.site document.log document loss real h doc spares fits in
      record {
        history = loss_history document.site document.log document loss real h doc spares fits;
        document = record { cells = made.cells; site = refl; count = made.count };
        real = omega (arith, real, site_left);
        within = omega (arith, place_is at e, length_left, begin_low);
      }
