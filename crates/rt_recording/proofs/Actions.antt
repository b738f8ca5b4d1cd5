-- What an edit's action names: characters that never came back under other stamps, no final newline, and tags as operations list them.
use Rattle.std.proofs.Common.{◌≡◌, ◌∙◌, ℕ, zero, suc, ◌+◌, ◌-◌, ◌<◌, Bool, true, false, ◌||◌, List, [], ◌∷◌, cond, map, ap, arith, refl, subst, sym}
use Rattle.std.specs.List.{AllByRecursion}
use Rattle.std.proofs.lemmas.Bool.{or_from}
use Rattle.std.proofs.lemmas.Bool.Decides.{nat_tests}
use Rattle.std.proofs.lemmas.List.Elements.{recursion_from_All}
use Rattle.rt_stamps.specs.declared.stamp.Stamp.{Stamp}
use Rattle.rt_stamps.specs.declared.stamp.TheConstants.{FINAL}
use Rattle.rt_stamps.specs.Stamps.{is_same}
use Rattle.rt_stamps.specs.Words.{Word}
use Rattle.rt_ops.specs.Operations.{stamps_from, stamps_of_span}
use Rattle.rt_store.specs.Cells.{text_of}
use Rattle.rt_store.specs.Shown.{TaggedCell}
use Rattle.rt_store.specs.Spans.{is_among}
use Rattle.rt_tags.specs.States.{names_on}
use Rattle.rt_rga.specs.Cells.{cell_in, cells_of, is_gone}
use Rattle.rt_rga.specs.Histories.{characters}
use Rattle.rt_rga.specs.Reading.{Character, reading}
use Rattle.rt_rga.proofs.Corollaries.{character_count}
use Rattle.rt_rga.proofs.Skipping.{split}
use Rattle.rt_plans.specs.declared.range.Range.{Range}
use Rattle.rt_plans.specs.DraftLaws.{AreTagNames, IsDocument, SparesLast}
use Rattle.rt_plans.specs.Deletions.{loss_in}
use Rattle.rt_plans.specs.DocValue.{DocValue}
use Rattle.rt_plans.specs.Removals.{cells_at, stamps_at}
use Rattle.rt_plans.proofs.RemovalDraftLaws.{last_spared}
use Rattle.rt_plans.proofs.TagNames.{cells_have_names}
use Rattle.rt_revert.specs.Reverting.{as_removed}
use Rattle.rt_revert.specs.ReversionLaws.{MayReturn, MayRevert}
use Rattle.rt_recording.specs.Recordings.{HasStayed, span_action}
use Rattle.rt_recording.specs.Settled.{is_gone_cell as has_gone}
use Rattle.rt_text.specs.Commands.{lost_in}
use Rattle.rt_text.specs.Widgets.{ViewValue, begin_of, text_shown}
use Rattle.rt_text.proofs.LimitedDeletions.{spared}
use Rattle.rt_undo.specs.declared.action.Kind.{Kind}
use Rattle.rt_undo.specs.Actions.{Removed}
use Rattle.rt_recording.specs.Edits.{edit_action, counts_between}
use Rattle.rt_recording.specs.Noting.{IsOfLog}
use Rattle.rt_recording.proofs.Growing.{character_gone, gone_in_log}

-- THE COUNTS THAT AN EDIT TOOK

-- of stamps from a count on, each has that count or a greater one
from_count : (P : Stamp → Type 0) (site first n low : ℕ) → low < first → ((s : Stamp) → low < s.count → s.site ≡ site → P s) → AllByRecursion P (stamps_from site first n)
from_count P site first zero low h f = tt
from_count P site first (suc n) low h f = (f (record { count = first; site = site }) h refl, from_count P site (first + 1) n low (omega arith) f)

pub counts_all : (P : Stamp → Type 0) (site before after : ℕ) → ((s : Stamp) → before < s.count → s.site ≡ site → P s) → AllByRecursion P (stamps_of_span (counts_between site before after))
counts_all P site before after f = from_count P site (before + 1) (after + 1 - (before + 1)) before (omega arith) f

pub none_among : (t : Stamp) (xs : List Stamp) → AllByRecursion (λ s. is_same s t ≡ false) xs → is_among xs t ≡ false
none_among t [] h = refl
none_among t (x ∷ xs) h = or_from (is_same x t) (is_among xs t) h.0 (none_among t xs h.1)

not_final : (s : Stamp) (site : ℕ) → 0 < site → s.site ≡ site → is_same s FINAL ≡ false
not_final s site h e = let p : 0 < s.site = omega (arith, h, e) in grind (arith, nat_tests, p)

pub counts_spare_final : (site before after : ℕ) → 0 < site → is_among (stamps_of_span (counts_between site before after)) FINAL ≡ false
counts_spare_final site before after h = none_among FINAL (stamps_of_span (counts_between site before after)) (counts_all (λ s. is_same s FINAL ≡ false) site before after (λ s l e. not_final s site h e))

module _ (doc : DocValue) (kept : IsOfLog doc) (back : Stamp → Bool) (gone : (s : Stamp) → back s ≡ true → has_gone doc.cells s ≡ true) where
  -- who came back is gone in the log
  pub back_gone : (s : Stamp) → back s ≡ true → is_gone doc.log s ≡ true
  back_gone s h = gone_in_log doc.log s (sym (ap (λ (cells : List TaggedCell). has_gone cells s) kept.cells) ∙ gone s h)

  -- a count that no operation had
  pub new_stays : (s : Stamp) → doc.count < s.count → back s ≡ false
  new_stays s later = split (back s) (λ h. absurd (let old = character_count doc.log s (character_gone doc.log kept.history s (back_gone s h)) in let same = kept.count in omega (arith, old, same, later))) (λ h. h)

  pub counts_stay : (after : ℕ) → AllByRecursion (λ s. back s ≡ false) (stamps_of_span (counts_between doc.site doc.count after))
  counts_stay after = counts_all (λ s. back s ≡ false) doc.site doc.count after (λ s l e. new_stays s l)

  -- THE CHARACTERS THAT IT TOOK

  -- a cell of the log tells whether it is gone
  abbrev TellsGone : TaggedCell → Type 0
  TellsGone cell = cell.gone ≡ is_gone doc.log cell.stamp

  tell_gone : (xs : List Character) → AllByRecursion TellsGone (map (cell_in doc.log) xs)
  tell_gone [] = tt
  tell_gone (x ∷ xs) = (refl, tell_gone xs)

  visible_stays : (cell : TaggedCell) → TellsGone cell → cell.gone ≡ false → back cell.stamp ≡ false
  visible_stays cell tells shown = split (back cell.stamp) (λ h. absurd (let taken = back_gone cell.stamp h in cc (taken, tells, shown))) (λ h. h)

  taken_stay : (places : ℕ → Bool) (place : ℕ) (cells : List TaggedCell) → AllByRecursion TellsGone cells
      → AllByRecursion (λ (r : Removed (List Word)). back r.stamp ≡ false) (map as_removed (cells_at places place cells))
  taken_stay places place [] h = tt
  taken_stay places place (cell ∷ cells) h = by cell.gone refl (places place) refl (taken_stay places place cells h.1) (taken_stay places (place + 1) cells h.1)
    where
      Stays : List TaggedCell → Type 0
      Stays taken = AllByRecursion (λ (r : Removed (List Word)). back r.stamp ≡ false) (map as_removed taken)

      by : (g : Bool) → cell.gone ≡ g → (c : Bool) → places place ≡ c → Stays (cells_at places place cells) → Stays (cells_at places (place + 1) cells)
          → Stays (cond cell.gone (cells_at places place cells) (cond (places place) (cell ∷ cells_at places (place + 1) cells) (cells_at places (place + 1) cells)))
      by true e c f here next = subst (λ b. Stays (cond b (cells_at places place cells) (cond (places place) (cell ∷ cells_at places (place + 1) cells) (cells_at places (place + 1) cells)))) (sym e)
          here
      by false e true f here next = subst (λ b. Stays (cond b (cells_at places place cells) (cond (places place) (cell ∷ cells_at places (place + 1) cells) (cells_at places (place + 1) cells)))) (sym e)
          (subst (λ b. Stays (cond b (cell ∷ cells_at places (place + 1) cells) (cells_at places (place + 1) cells))) (sym f)
          (visible_stays cell h.0 e, next))
      by false e false f here next = subst (λ b. Stays (cond b (cells_at places place cells) (cond (places place) (cell ∷ cells_at places (place + 1) cells) (cells_at places (place + 1) cells)))) (sym e)
          (subst (λ b. Stays (cond b (cell ∷ cells_at places (place + 1) cells) (cells_at places (place + 1) cells))) (sym f)
          next)

  pub places_stay : (places : ℕ → Bool) → AllByRecursion (λ (r : Removed (List Word)). back r.stamp ≡ false) (map as_removed (cells_at places 0 doc.cells))
  places_stay places =
      subst (λ (cells : List TaggedCell). AllByRecursion (λ (r : Removed (List Word)). back r.stamp ≡ false) (map as_removed (cells_at places 0 cells))) (sym kept.cells)
      (taken_stay places 0 (cells_of doc.log) (tell_gone (reading (characters doc.log))))

  pub action_stays : (kind : Kind) (after : ℕ) (removed : List (Removed (List Word))) → AllByRecursion (λ (r : Removed (List Word)). back r.stamp ≡ false) removed
      → HasStayed back (span_action kind (counts_between doc.site doc.count after) removed)
  action_stays kind after removed h = record { inserted = counts_stay after; removed = h }

-- ITS TAGS, AND NO FINAL NEWLINE

abbrev HasNames : TaggedCell → Type 0
HasNames cell = AreTagNames (names_on cell.state)

or_left : (a b : Bool) → (a || b) ≡ false → a ≡ false
or_left true b h = absurd (cc h)
or_left false b h = refl

or_rest : (a b : Bool) → (a || b) ≡ false → b ≡ false
or_rest true b h = absurd (cc h)
or_rest false b h = h

taken_sound : (places : ℕ → Bool) (place : ℕ) (cells : List TaggedCell) → AllByRecursion HasNames cells → is_among (stamps_at places place cells) FINAL ≡ false
    → AllByRecursion MayReturn (map as_removed (cells_at places place cells))
taken_sound places place [] h spared = tt
taken_sound places place (cell ∷ cells) h spared = by cell.gone (places place) (taken_sound places place cells h.1) (taken_sound places (place + 1) cells h.1) spared
  where
    by : (g c : Bool) → (is_among (stamps_at places place cells) FINAL ≡ false → AllByRecursion MayReturn (map as_removed (cells_at places place cells)))
        → (is_among (stamps_at places (place + 1) cells) FINAL ≡ false → AllByRecursion MayReturn (map as_removed (cells_at places (place + 1) cells)))
        → is_among (cond g (stamps_at places place cells) (cond c (cell.stamp ∷ stamps_at places (place + 1) cells) (stamps_at places (place + 1) cells))) FINAL ≡ false
        → AllByRecursion MayReturn (map as_removed (cond g (cells_at places place cells) (cond c (cell ∷ cells_at places (place + 1) cells) (cells_at places (place + 1) cells))))
    by true c here next s = here s
    by false true here next s = (
      record { stamp = or_left (is_same cell.stamp FINAL) (is_among (stamps_at places (place + 1) cells) FINAL) s; tags = h.0 },
      next (or_rest (is_same cell.stamp FINAL) (is_among (stamps_at places (place + 1) cells) FINAL) s),
    )
    by false false here next s = next s

pub lost_sound : (view : ViewValue) (ranges : List Range) → IsOfLog view.doc → AllByRecursion MayReturn (map as_removed (lost_in view ranges))
lost_sound view ranges kept =
    let doc = view.doc in
    let places = (loss_in (text_shown view) (begin_of view) ranges).places in
    let names : AllByRecursion HasNames doc.cells = subst (AllByRecursion HasNames) (sym kept.cells) (recursion_from_All HasNames (cells_of doc.log) (cells_have_names doc.log kept.history)) in
    let document : IsDocument doc.site doc.log doc = record { cells = kept.cells; site = refl; count = kept.count } in
    let stays : SparesLast places (text_of doc.cells) = spared doc view.own.limits ranges kept.history document in
    let here : is_among (stamps_at places 0 (cells_of doc.log)) FINAL ≡ false =
    last_spared doc.log places kept.history (subst (λ (cells : List TaggedCell). SparesLast places (text_of cells)) kept.cells stays) in
    taken_sound places 0 doc.cells names (subst (λ (cells : List TaggedCell). is_among (stamps_at places 0 cells) FINAL ≡ false) (sym kept.cells) here)

pub action_sound : (kind : Kind) (site before after : ℕ) (removed : List (Removed (List Word))) → 0 < site → AllByRecursion MayReturn removed → MayRevert (span_action kind (counts_between site before after) removed)
action_sound kind site before after removed h k = record { inserted = counts_spare_final site before after h; removed = k }

-- an edit's action, where it is the site's own
pub edit_sound : (kind : Kind) (site : ℕ) (old new : DocValue) (lost : List TaggedCell) → site ≡ old.site → 0 < site → AllByRecursion MayReturn (map as_removed lost) → MayRevert (edit_action kind old new lost)
edit_sound kind site old new lost e h k = action_sound kind old.site old.count new.count (map as_removed lost) (subst (λ n. 0 < n) e h) k
