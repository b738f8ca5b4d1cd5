-- The text after a recorded insertion was undone.
use Rattle.std.proofs.Common.{◌≡◌, ◌∙◌, ℕ, zero, suc, ◌+◌, ◌*◌, ◌-◌, ◌<◌, ◌≤◌, ◌==◌, Bool, true, false, not, List, [], ◌∷◌, ◌++◌, length, map, filter, take, drop, cond, ap, arith, refl, subst, sym, length-drop, length-take, add-zero}
use Rattle.std.specs.List.{AllByRecursion}
use Rattle.std.specs.Prelude.{Option, option_map, reverse, slice_get, unwrap_or}
use Rattle.std.specs.Str.{chars}
use Rattle.std.proofs.lemmas.Bool.{cond-false, cond-true, or_left, or_right}
use Rattle.std.proofs.lemmas.Bool.Decides.{nat_tests}
use Rattle.std.proofs.lemmas.List.{append-nil, map-id, take-append-drop}
use Rattle.std.proofs.lemmas.List.Elements.{filter-append}
use mathlib.Core.List.{reverse-cons}
use Rattle.rt_stamps.specs.declared.limits.TheConstants.{MOST_CHARACTERS}
use Rattle.rt_stamps.specs.declared.stamp.Stamp.{Stamp}
use Rattle.rt_stamps.specs.Stamps.{is_same}
use Rattle.rt_stamps.specs.Words.{Word}
use Rattle.rt_stamps.proofs.Order.{same_refl}
use Rattle.rt_ops.specs.Operations.{Operation, stamps_from, stamps_of_span}
use Rattle.rt_tags.specs.States.{Write, names_on}
use Rattle.rt_store.specs.Cells.{after_element, cells_from, stamps_of, visible_of}
use Rattle.rt_store.specs.Shown.{TaggedCell}
use Rattle.rt_store.specs.Spans.{is_among}
use Rattle.rt_rga.specs.Histories.{IsHistory}
use Rattle.rt_rga.specs.Texts.{TaggedCharacter, tagged_text}
use Rattle.rt_rga.proofs.Skipping.{split}
use Rattle.rt_plans.specs.DraftLaws.{IsDocument}
use Rattle.rt_plans.specs.DocValue.{DocValue, left_stamp, put_after}
use Rattle.rt_plans.specs.Insertions.{Insertion, Piece, cells_of_inserts, counts_for, further_tags, insertion_of, inserts_for, left_neighbour, new_state, on_left, shared_names, tagged_cells, tags_between, with_listed, with_pieces, with_unlisted}
use Rattle.rt_plans.specs.Removals.{gone_at}
use Rattle.rt_undo.specs.declared.action.Kind.TheVariants.{Insert}
use Rattle.rt_undo.specs.Actions.{Action}
use Rattle.rt_revert.specs.Reverting.{are_at, as_it_is, reverted, stamp_after, with_each_reverted, with_removal, with_returns}
use Rattle.rt_text.specs.Commands.{none_inserted, right_behind, with_pieces_at}
use Rattle.rt_text.specs.Widgets.{ViewValue, in_text, cells_shown}
use Rattle.rt_recording.specs.Edits.{edit_action, counts_between}
use Rattle.rt_recording.proofs.TakenBack.{counts_apart}

-- THE STAMPS OF NEW CELLS

-- a cell has a stamp of a site, whose count is greater than one count, and at most another
pub record IsBetween (site low high : ℕ) (cell : TaggedCell) : Type 0 where
  pub own : cell.stamp.site ≡ site
  pub above : low < cell.stamp.count
  pub within : cell.stamp.count ≤ high

-- each of some cells has such a stamp
abbrev pub AreBetween : ℕ → ℕ → ℕ → List TaggedCell → Type 0
AreBetween site low high cells = AllByRecursion (IsBetween site low high) cells

-- it is so of wider counts
pub between_wider : (site low high less more : ℕ) (cells : List TaggedCell) → less ≤ low → high ≤ more → AreBetween site low high cells → AreBetween site less more cells
between_wider site low high less more [] l m h = tt
between_wider site low high less more (c ∷ cs) l m h =
    (record { own = h.0.own; above = omega (arith, l, h.0.above); within = omega (arith, m, h.0.within) }, between_wider site low high less more cs l m h.1)

-- it is so of two lists, one behind the other
between_append : (site low high : ℕ) (xs ys : List TaggedCell) → AreBetween site low high xs → AreBetween site low high ys → AreBetween site low high (xs ++ ys)
between_append site low high [] ys h k = k
between_append site low high (x ∷ xs) ys h k = (h.0, between_append site low high xs ys h.1 k)

-- it is so of the cells of characters with consecutive counts
between_from : (site low high count : ℕ) (state : List Write) (text : List ℕ) → low < count → count + length text ≤ high + 1 → AreBetween site low high (cells_from count site state text)
between_from site low high count state [] l m = tt
between_from site low high count state (c ∷ text) l m =
    (record { own = refl; above = l; within = omega (arith, m) }, between_from site low high (count + 1) state text (omega (arith, l)) (omega (arith, m)))

-- those of a text that is several Inserts, with the Tag operations behind each
between_inserts : (inserts site low high count : ℕ) (names : List Word) (text : List ℕ) → low ≤ count → count + (length text + inserts * length (further_tags names)) ≤ high
    → AreBetween site low high (cells_of_inserts inserts site count names text)
between_inserts zero site low high count names text l m = tt
between_inserts (suc inserts) site low high count names text l m =
    let part = take MOST_CHARACTERS text in
    let others = drop MOST_CHARACTERS text in
    let tags = length (further_tags names) in
    let last = count + length part in
    let parts : length part + length others ≡ length text = omega (arith, length-take MOST_CHARACTERS text, length-drop MOST_CHARACTERS text) in
    let rest : last + tags + (length others + inserts * tags) ≤ high = omega (arith, parts, m) in
    between_append site low high (cells_from (count + 1) site (new_state site last names) part) (cells_of_inserts inserts site (last + tags) names others)
    (between_from site low high (count + 1) (new_state site last names) part (omega (arith, l)) (omega (arith, rest)))
    (between_inserts inserts site low high (last + tags) names others (omega (arith, l)) rest)

-- those of a text take the counts that it is said to take
between_tagged : (site count : ℕ) (names : List Word) (text : List ℕ) → AreBetween site count (count + counts_for names text) (tagged_cells site count names text)
between_tagged site count names text = between_inserts (inserts_for (length text)) site count (count + counts_for names text) count names text (omega arith) (omega arith)

-- what pieces have come to: each new cell has a count greater than the one at which the insertion began, and at most the one that
-- it has come to
pub record IsNew (site low : ℕ) (so_far : Insertion) : Type 0 where
  pub cells : AreBetween site low so_far.count so_far.cells
  pub count : low ≤ so_far.count

-- it is so after one text more
module _ (site low : ℕ) (so_far next : Insertion) (names : List Word) (text : List ℕ) (h : IsNew site low so_far)
    (cells : next.cells ≡ so_far.cells ++ tagged_cells site so_far.count names text) (count : next.count ≡ so_far.count + counts_for names text) where
  new_more : IsNew site low next
  new_more =
      let new = tagged_cells site so_far.count names text in
      record {
        cells = subst (AreBetween site low next.count) (sym cells)
            (between_append site low next.count so_far.cells new
            (between_wider site low so_far.count low next.count so_far.cells (omega arith) (omega (arith, count)) h.cells)
            (between_wider site so_far.count (so_far.count + counts_for names text) low next.count new h.count (omega (arith, count)) (between_tagged site so_far.count names text)));
        count = omega (arith, count, h.count);
      }

-- after characters with a list, after several pieces, after characters without a list, and so after a whole insertion
new_listed : (site low : ℕ) (names : List Word) (text : List ℕ) (so_far : Insertion) → IsNew site low so_far → IsNew site low (with_listed site names text so_far)
new_listed site low names [] so_far h = h
new_listed site low names (c ∷ text) so_far h = new_more site low so_far (with_listed site names (c ∷ text) so_far) (shared_names names) (c ∷ text) h refl refl

new_pieces : (site low : ℕ) (pieces : List Piece) (so_far : Insertion) → IsNew site low so_far → IsNew site low (with_pieces site pieces so_far)
new_pieces site low [] so_far h = h
new_pieces site low (piece ∷ pieces) so_far h =
    new_pieces site low pieces (with_listed site piece.tags (chars piece.text) so_far) (new_listed site low piece.tags (chars piece.text) so_far h)

new_unlisted : (site low : ℕ) (left right : Option TaggedCell) (text : List ℕ) (so_far : Insertion) → IsNew site low so_far → IsNew site low (with_unlisted site left right text so_far)
new_unlisted site low left right [] so_far h = h
new_unlisted site low left right (c ∷ text) so_far h =
    new_more site low so_far (with_unlisted site left right (c ∷ text) so_far) (tags_between left right) (c ∷ text) h refl refl

pub new_insertion : (site low : ℕ) (left right : Option TaggedCell) (pieces : List Piece) (rest : Word) (start : Insertion) → IsNew site low start
    → IsNew site low (insertion_of site left right pieces rest start)
new_insertion site low left right pieces rest start h =
    let listed = with_pieces site pieces start in
    new_unlisted site low (on_left left listed.cells) right (chars rest) listed (new_pieces site low pieces start h)

-- a stamp of a site is among those of the site's consecutive counts where its count is one of them
among_from : (s : Stamp) (site first n : ℕ) → s.site ≡ site → first ≤ s.count → s.count < first + n → is_among (stamps_from site first n) s ≡ true
among_from s site first zero e l m = absurd (omega (arith, l, m))
among_from s site first (suc n) e l m =
    let here : Stamp = record { count = first; site = site } in
    split (first == s.count)
    (λ q. or_left (is_same here s) (is_among (stamps_from site (first + 1) n) s) (grind (arith, nat_tests, q, e)))
    (λ q. let later : first + 1 ≤ s.count = grind (arith, nat_tests, q, l) in
    or_right (is_same here s) (is_among (stamps_from site (first + 1) n) s) (among_from s site (first + 1) n e later (omega (arith, m))))

-- so the stamp of such a cell is among those that an edit's action has put in
among_counts : (site low high : ℕ) (cell : TaggedCell) → IsBetween site low high cell → is_among (stamps_of_span (counts_between site low high)) cell.stamp ≡ true
among_counts site low high cell h =
    among_from cell.stamp site (low + 1) (high + 1 - (low + 1)) h.own (omega (arith, h.above)) (omega (arith, h.above, h.within))

-- CELLS WITHOUT THOSE OF SOME STAMPS

-- the cells that have none of some stamps
abbrev pub beside : List Stamp → List TaggedCell → List TaggedCell
beside stamps cells = filter (λ (cell : TaggedCell). not (is_among stamps cell.stamp)) cells

-- of cells that all have such a stamp there are none
pub none_beside : (site low high : ℕ) (cells : List TaggedCell) → AreBetween site low high cells → beside (stamps_of_span (counts_between site low high)) cells ≡ []
none_beside site low high [] h = refl
none_beside site low high (c ∷ cs) h =
    let rest = beside (stamps_of_span (counts_between site low high)) cs in
    ap (λ b. cond (not b) (c ∷ rest) rest) (among_counts site low high c h.0) ∙ none_beside site low high cs h.1

-- of cells none of which has one there are all
pub all_beside : (stamps : List Stamp) (cells : List TaggedCell) → ((s : Stamp) → is_among (stamps_of cells) s ≡ true → is_among stamps s ≡ false) → beside stamps cells ≡ cells
all_beside stamps [] h = refl
all_beside stamps (c ∷ cs) h =
    let rest = beside stamps cs in
    ap (λ b. cond (not b) (c ∷ rest) rest) (h c.stamp (or_left (is_same c.stamp c.stamp) (is_among (stamps_of cs) c.stamp) (same_refl c.stamp)))
    ∙ ap (λ l. c ∷ l) (all_beside stamps cs (λ s k. h s (or_right (is_same c.stamp s) (is_among (stamps_of cs) s) k)))

-- where new cells were put in, those beside them are the old ones
pub beside_put : (stamps : List Stamp) (cells new : List TaggedCell) (after : Stamp) → beside stamps cells ≡ cells → beside stamps new ≡ []
    → beside stamps (put_after cells after new) ≡ cells
beside_put stamps cells new after old none =
    let keep : TaggedCell → Bool = λ cell. not (is_among stamps cell.stamp) in
    let at = after_element cells after in
    let front = take at cells in
    let back = drop at cells in
    filter-append keep (front ++ new) back
    ∙ ap (λ l. l ++ filter keep back) (filter-append keep front new ∙ ap (λ l. filter keep front ++ l) none ∙ append-nil (filter keep front))
    ∙ sym (filter-append keep front back)
    ∙ ap (filter keep) (take-append-drop at cells)
    ∙ old

-- THE TEXT WITHOUT THEM

-- a cell as a character of the text
abbrev pub tagged_as : TaggedCell → TaggedCharacter
tagged_as cell = record { ch = cell.ch; tags = names_on cell.state }

-- a first cell that is gone adds nothing to the text
text_behind : (cell : TaggedCell) (cells : List TaggedCell) → cell.gone ≡ true → tagged_text (cell ∷ cells) ≡ tagged_text cells
text_behind cell cells e = ap (λ b. map tagged_as (cond (not b) (cell ∷ visible_of cells) (visible_of cells))) e

-- a first cell that is visible adds its character, with its tags
text_from : (cell : TaggedCell) (cells : List TaggedCell) → cell.gone ≡ false → tagged_text (cell ∷ cells) ≡ tagged_as cell ∷ tagged_text cells
text_from cell cells e = ap (λ b. map tagged_as (cond (not b) (cell ∷ visible_of cells) (visible_of cells))) e

-- where the visible cells of some stamps go, the text is that of the cells that have none of these stamps
text_beside : (stamps : List Stamp) (places : ℕ → Bool) (p : ℕ) (cells : List TaggedCell) → ((k : ℕ) → places (p + k) ≡ are_at stamps cells k)
    → tagged_text (gone_at places p cells) ≡ tagged_text (beside stamps cells)
text_beside stamps places p [] h = refl
text_beside stamps places p (c ∷ cs) h =
    let among = is_among stamps c.stamp in
    let rest = beside stamps cs in
    let at : List TaggedCell → ℕ → Bool = λ shown k. unwrap_or (option_map (λ (cell : TaggedCell). is_among stamps cell.stamp) (slice_get shown k)) false in
    let shown : Bool → List TaggedCell = λ b. cond (not b) (c ∷ visible_of cs) (visible_of cs) in
    let left : TaggedCell = record c { gone = places p } in
    let same = gone_at places p cs in
    let further = gone_at places (p + 1) cs in
    split c.gone
    (λ e.
    let tail = text_beside stamps places p cs (λ k. h k ∙ ap (λ b. at (shown b) k) e) in
    ap tagged_text (cond-true c.gone (c ∷ same) (left ∷ further) e) ∙ text_behind c same e ∙ tail
    ∙ split among
    (λ q. sym (ap (λ b. tagged_text (cond (not b) (c ∷ rest) rest)) q))
    (λ q. sym (ap (λ b. tagged_text (cond (not b) (c ∷ rest) rest)) q ∙ text_behind c rest e)))
    (λ e.
    let here : places p ≡ among = ap places (sym (add-zero p)) ∙ h 0 ∙ ap (λ b. at (shown b) 0) e in
    let tail = text_beside stamps places (p + 1) cs (λ k. ap places (omega arith) ∙ h (suc k) ∙ ap (λ b. at (shown b) (suc k)) e) in
    ap tagged_text (cond-false c.gone (c ∷ same) (left ∷ further) e)
    ∙ split among
    (λ q. text_behind left further (here ∙ q) ∙ tail ∙ sym (ap (λ b. tagged_text (cond (not b) (c ∷ rest) rest)) q))
    (λ q. text_from left further (here ∙ q) ∙ ap (λ l. tagged_as c ∷ l) tail
    ∙ sym (ap (λ b. tagged_text (cond (not b) (c ∷ rest) rest)) q ∙ text_from c rest e)))

-- UNDONE

-- one element in reverse
pub one_reversed : {X : Type 0} (x : X) → reverse (x ∷ []) ≡ x ∷ []
one_reversed x = reverse-cons x []

-- after an action was reverted that took nothing away, the text is that of the cells that it has not put in
text_reverted : (document : DocValue) (action : Action (List Word)) → action.removed ≡ [] → tagged_text (reverted document (action ∷ [])).cells ≡ tagged_text (beside action.inserted document.cells)
text_reverted document action none =
    let r = as_it_is document in
    let stamps = map (stamp_after []) action.inserted in
    ap (λ group. tagged_text (with_each_reverted group r).doc.cells) (one_reversed action)
    ∙ ap (λ removed. tagged_text (with_returns removed (with_removal stamps r)).doc.cells) none
    ∙ ap (λ stamps. tagged_text (with_removal stamps r).doc.cells) (map-id action.inserted)
    ∙ text_beside action.inserted (are_at action.inserted document.cells) 0 document.cells (λ k. ap (are_at action.inserted document.cells) (omega arith))

-- an insertion that is undone at once leaves the text as it was
pub insertion_back : (site : ℕ) (log : List Operation) (view : ViewValue) (place : ℕ) (pieces : List Piece) (rest : Word) → 0 < site → IsHistory log → IsDocument site log view.doc
    → let new = (with_pieces_at view place pieces rest).doc in
    tagged_text (reverted new (edit_action Insert view.doc new [] ∷ [])).cells ≡ tagged_text view.doc.cells
insertion_back site log view place pieces rest p h doc =
    let document = view.doc in
    let start = none_inserted view in
    let inserted = insertion_of document.site (left_neighbour (cells_shown view) place) (right_behind view place pieces) pieces rest start in
    let after = left_stamp document.cells (in_text view place) in
    let new = (with_pieces_at view place pieces rest).doc in
    let stamps = stamps_of_span (counts_between document.site document.count inserted.count) in
    let is_new : IsNew document.site document.count inserted =
    new_insertion document.site document.count (left_neighbour (cells_shown view) place) (right_behind view place pieces) pieces rest start (record { cells = tt; count = omega arith }) in
    text_reverted new (edit_action Insert document new []) refl
    ∙ ap tagged_text (beside_put stamps document.cells inserted.cells after
    (all_beside stamps document.cells (counts_apart site log document inserted.count p h doc))
    (none_beside document.site document.count inserted.count inserted.cells is_new.cells))
