-- What the operations of a deletion do.
use Rattle.std.proofs.Common.{◌≡◌, ℕ, ◌+◌, ◌-◌, ◌<◌, ◌≤◌, List, [], ◌∷◌, ◌++◌, Bool, true, false, cond, not, ◌&&◌, length, refl, sym, ◌∙◌, ap, subst, arith, add-zero, nat_lt, Option, Some, None}
use Rattle.std.specs.Prelude.{nat_le, option_map, unwrap_or}
use Rattle.std.specs.List.{list_all}
use Rattle.std.proofs.lemmas.Bool.{cond-false, cond-true}
use Rattle.std.proofs.lemmas.Bool.Decides.{nat_tests}
use Rattle.rt_stamps.specs.declared.limits.TheConstants.{GREATEST_COUNT, MOST_SPANS}
use Rattle.rt_ops.specs.Operations.{Operation, Body}
use Rattle.rt_ops.specs.Rules.{is_name}
use Rattle.rt_store.specs.Cells.{stamps_of, text_of, visible_of}
use Rattle.rt_store.specs.Shown.{TaggedCell}
use Rattle.rt_store.proofs.Distinct.{split}
use Rattle.rt_rga.specs.Drafts.{with_drafts}
use Rattle.rt_rga.specs.Histories.{IsHistory, greatest_last_count}
use Rattle.rt_rga.specs.Requests.{MayBeMade, last_count_after}
use Rattle.rt_rga.proofs.Appending.{drafts_append, may_append}
use Rattle.rt_rga.proofs.Drafting.{made}
use Rattle.rt_rga.proofs.Requests.{all_count_on, drafts_for}
use Rattle.rt_tags.specs.States.{names_on}
use Rattle.rt_plans.specs.declared.range.Range.{Range}
use Rattle.rt_plans.specs.Deletions.{Loss, delete_drafts, loss_in, newline_left, without_places, without_text}
use Rattle.rt_plans.specs.DraftLaws.{IsDocument, SparesLast}
use Rattle.rt_plans.specs.DocValue.{DocValue}
use Rattle.rt_plans.specs.RemovalDrafts.{removal_drafts}
use Rattle.rt_plans.specs.Removals.{gone_at}
use Rattle.rt_plans.specs.TagDrafts.{newline_drafts}
use Rattle.rt_plans.specs.TagWrites.{bared}
use Rattle.rt_plans.proofs.DraftSteps.{known_cells}
use Rattle.rt_plans.proofs.NewlineDrafts.{EndsAs, IsKnown, bared_counted, bared_grows, bared_made, bared_may, length_ends, newline_among, newline_names, still_known}
use Rattle.rt_plans.proofs.RemovalDraftLaws.{removal_counted, removal_made, removal_may}
use Rattle.rt_plans.proofs.TagNames.{CellsNamed, every_named}

-- THE LAST NEWLINE STAYS

and_false : (a b : Bool) → a ≡ false → (a && b) ≡ false
and_false true b h = absurd (cc h)
and_false false b h = refl

false_and : (a b : Bool) → b ≡ false → (a && b) ≡ false
false_and true b h = h
false_and false b h = refl

none_past : (n begin m : ℕ) → begin + m ≤ n → nat_lt (n - 1 - begin + 1) m ≡ false
none_past n begin m h = let e : m ≤ n - 1 - begin + 1 = omega (arith, h) in grind (arith, nat_tests, e)

pub spares_last : (text stretch : List ℕ) (begin : ℕ) (ranges : List Range) → begin + length stretch ≤ length text → SparesLast (loss_in stretch begin ranges).places text
spares_last text stretch begin ranges h =
    let last = length text - 1 in
    false_and (nat_le begin last) _ (and_false (nat_lt (last - begin + 1) (length stretch)) _ (none_past (length text) begin (length stretch) h))

gone_front : (r : ℕ → Bool) (p : ℕ) (front : List TaggedCell) (last : TaggedCell) → last.gone ≡ false → r (p + length (visible_of front)) ≡ false
    → gone_at r p (front ++ last ∷ []) ≡ gone_at r p front ++ last ∷ []
gone_front r p [] last g h =
    let off : r p ≡ last.gone = ap r (sym (add-zero p)) ∙ h ∙ sym g in
    cond-false last.gone (last ∷ []) (record last { gone = r p } ∷ []) g ∙ (λ i. record last { gone = off i } ∷ [])
gone_front r p (c ∷ cs) last g h =
    let here = gone_at r p (cs ++ last ∷ []) in
    let next = gone_at r (p + 1) (cs ++ last ∷ []) in
    let old : TaggedCell = record c { gone = r p } in
    split c.gone
    (λ e.
    let seen : length (visible_of (c ∷ cs)) ≡ length (visible_of cs) = ap (λ b. length (cond (not b) (c ∷ visible_of cs) (visible_of cs))) e in
    cond-true c.gone (c ∷ here) (old ∷ next) e
    ∙ ap (λ l. c ∷ l) (gone_front r p cs last g (ap (λ k. r (p + k)) (sym seen) ∙ h))
    ∙ sym (ap (λ l. l ++ last ∷ []) (cond-true c.gone (c ∷ gone_at r p cs) (old ∷ gone_at r (p + 1) cs) e)))
    (λ e.
    let seen : length (visible_of (c ∷ cs)) ≡ length (c ∷ visible_of cs) = ap (λ b. length (cond (not b) (c ∷ visible_of cs) (visible_of cs))) e in
    let at : p + 1 + length (visible_of cs) ≡ p + length (visible_of (c ∷ cs)) = omega (arith, seen) in
    cond-false c.gone (c ∷ here) (old ∷ next) e
    ∙ ap (λ l. old ∷ l) (gone_front r (p + 1) cs last g (ap r at ∙ h))
    ∙ sym (ap (λ l. l ++ last ∷ []) (cond-false c.gone (c ∷ gone_at r p cs) (old ∷ gone_at r (p + 1) cs) e)))

pub still_ends : (document : DocValue) (removed : ℕ → Bool) (front : List TaggedCell) (last : TaggedCell) → EndsAs document front last → SparesLast removed (text_of document.cells)
    → EndsAs (without_places document removed) (gone_at removed 0 front) last
still_ends document removed front last e s =
    let n : length (text_of document.cells) - 1 ≡ 0 + length (visible_of front) = omega (arith, length_ends document front last e) in
    record {
      is = ap (gone_at removed 0) e.is ∙ gone_front removed 0 front last e.gone (ap removed (sym n) ∙ s);
      stamp = e.stamp;
      gone = e.gone;
    }

pub stamps_gone : (r : ℕ → Bool) (p : ℕ) (cells : List TaggedCell) → stamps_of (gone_at r p cells) ≡ stamps_of cells
stamps_gone r p [] = refl
stamps_gone r p (c ∷ cs) =
    let here : stamps_of (c ∷ gone_at r p cs) ≡ c.stamp ∷ stamps_of cs = ap (λ l. c.stamp ∷ l) (stamps_gone r p cs) in
    let next : stamps_of (record c { gone = r p } ∷ gone_at r (p + 1) cs) ≡ c.stamp ∷ stamps_of cs = ap (λ l. c.stamp ∷ l) (stamps_gone r (p + 1) cs) in
    elim c.gone as (λ b. stamps_of (cond b (c ∷ gone_at r p cs) (record c { gone = r p } ∷ gone_at r (p + 1) cs)) ≡ c.stamp ∷ stamps_of cs) [ true ↦ here | false ↦ next ]

-- THE WHOLE DELETION

abbrev deletes_of : DocValue → Loss → List Body
deletes_of document loss = removal_drafts MOST_SPANS loss.places document.cells

-- the Tags of the newline that stays
abbrev tags_of : Option TaggedCell → List Body
tags_of o = unwrap_or (option_map (λ (cell : TaggedCell). newline_drafts cell.stamp (names_on cell.state)) o) []

abbrev left_by : DocValue → Option TaggedCell → DocValue
left_by left o = unwrap_or (option_map (λ (cell : TaggedCell). bared left cell.stamp (names_on cell.state)) o) left

-- it is known, and its tags are names
newline_known : (site : ℕ) (log : List Operation) (document : DocValue) (loss : Loss) (cell : TaggedCell) → IsHistory log → IsDocument site log document → newline_left document loss ≡ Some cell → IsKnown log cell.stamp
newline_known site log document loss cell h doc e = known_cells log document.cells h doc.cells cell.stamp (newline_among document loss cell e)

pub document_named : (site : ℕ) (log : List Operation) (document : DocValue) → IsHistory log → IsDocument site log document → CellsNamed document.cells
document_named site log document h doc = subst CellsNamed (sym doc.cells) (every_named log h)

newline_tags : (site : ℕ) (log : List Operation) (document : DocValue) (loss : Loss) (cell : TaggedCell) → IsHistory log → IsDocument site log document → newline_left document loss ≡ Some cell
    → list_all is_name (names_on cell.state) ≡ true
newline_tags site log document loss cell h doc e = newline_names document loss cell (document_named site log document h doc) e

pub loss_may : (site : ℕ) (log : List Operation) (document : DocValue) (loss : Loss) → IsHistory log → IsDocument site log document → SparesLast loss.places (text_of document.cells)
    → MayBeMade site log (delete_drafts MOST_SPANS document loss)
loss_may site log document loss h doc s =
    may_append site deletes (tags_of (newline_left document loss)) log (removal_may site log document loss.places h doc s) (by (newline_left document loss) refl)
  where
    deletes : List Body
    deletes = deletes_of document loss

    by : (o : Option TaggedCell) → newline_left document loss ≡ o → MayBeMade site (with_drafts site deletes log) (tags_of o)
    by None e = tt
    by (Some cell) e =
        bared_may (names_on cell.state) site (with_drafts site deletes log) cell.stamp (newline_tags site log document loss cell h doc e)
        (still_known site deletes log cell.stamp (newline_known site log document loss cell h doc e))

pub loss_counted : (site : ℕ) (log : List Operation) (document : DocValue) (loss : Loss) → IsHistory log → IsDocument site log document
    → greatest_last_count (with_drafts site (delete_drafts MOST_SPANS document loss) log) ≡ (without_text document loss).count
loss_counted site log document loss h doc =
    ap greatest_last_count (drafts_append site deletes (tags_of (newline_left document loss)) log) ∙ by (newline_left document loss)
  where
    deletes : List Body
    deletes = deletes_of document loss

    left : DocValue
    left = without_places document loss.places

    by : (o : Option TaggedCell) → greatest_last_count (with_drafts site (tags_of o) (with_drafts site deletes log)) ≡ (left_by left o).count
    by None = removal_counted site log document loss.places h doc
    by (Some cell) = bared_counted (names_on cell.state) site (with_drafts site deletes log) left cell.stamp (sym (removal_counted site log document loss.places h doc))

pub loss_history : (site : ℕ) (log : List Operation) (document : DocValue) (loss : Loss) → 0 < site → IsHistory log → IsDocument site log document → SparesLast loss.places (text_of document.cells)
    → (without_text document loss).count ≤ GREATEST_COUNT → IsHistory (with_drafts site (delete_drafts MOST_SPANS document loss) log)
loss_history site log document loss p h doc s l =
    let drafts = delete_drafts MOST_SPANS document loss in
    let fits : last_count_after (greatest_last_count log) drafts ≤ GREATEST_COUNT = omega (arith, all_count_on site drafts log, loss_counted site log document loss h doc, l) in
    (made site drafts log p h (drafts_for site log drafts (loss_may site log document loss h doc s) fits)).history

pub loss_made : (site : ℕ) (log : List Operation) (document : DocValue) (loss : Loss) → 0 < site → IsHistory log → IsDocument site log document → SparesLast loss.places (text_of document.cells)
    → (without_text document loss).count ≤ GREATEST_COUNT → IsDocument site (with_drafts site (delete_drafts MOST_SPANS document loss) log) (without_text document loss)
loss_made site log document loss p h doc s l =
    subst (λ set. IsDocument site set (without_text document loss)) (sym (drafts_append site deletes (tags_of (newline_left document loss)) log)) (by (newline_left document loss) refl l)
  where
    deletes : List Body
    deletes = deletes_of document loss

    left : DocValue
    left = without_places document loss.places

    by : (o : Option TaggedCell) → newline_left document loss ≡ o → (left_by left o).count ≤ GREATEST_COUNT → IsDocument site (with_drafts site (tags_of o) (with_drafts site deletes log)) (left_by left o)
    by None e k = (removal_made site log document loss.places p h doc s k).document
    by (Some cell) e k =
        let few : left.count ≤ GREATEST_COUNT = omega (arith, k, bared_grows (names_on cell.state) left cell.stamp) in
        let one = removal_made site log document loss.places p h doc s few in
        bared_made (names_on cell.state) site (with_drafts site deletes log) left cell.stamp p one.history one.document (newline_tags site log document loss cell h doc e)
        (still_known site deletes log cell.stamp (newline_known site log document loss cell h doc e)) k
