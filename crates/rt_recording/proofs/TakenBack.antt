-- Counts that an edit takes are those of none of the cells that were there.
use Rattle.std.proofs.Common.{◌≡◌, ◌∙◌, ℕ, ◌<◌, ◌≤◌, true, false, List, ap, arith, subst, sym}
use Rattle.rt_stamps.specs.declared.stamp.Stamp.{Stamp}
use Rattle.rt_stamps.specs.Stamps.{is_same}
use Rattle.rt_stamps.proofs.Order.{same_from_true}
use Rattle.rt_ops.specs.Operations.{Operation, stamps_of_span}
use Rattle.rt_store.specs.Cells.{stamps_of}
use Rattle.rt_store.specs.Spans.{is_among}
use Rattle.rt_store.specs.Written.{AreBelowNext}
use Rattle.rt_store.proofs.Distinct.{new_apart}
use Rattle.rt_rga.specs.Histories.{IsHistory}
use Rattle.rt_rga.proofs.Corollaries.{cells_older}
use Rattle.rt_rga.proofs.Skipping.{split}
use Rattle.rt_plans.specs.DraftLaws.{IsDocument}
use Rattle.rt_plans.specs.DocValue.{DocValue}
use Rattle.rt_recording.specs.Edits.{counts_between}
use Rattle.rt_recording.proofs.Actions.{counts_all, none_among}

-- where no cell is newer than the greatest count, none has one of the counts that an edit takes
pub below_apart : (document : DocValue) (after : ℕ) → 1 ≤ document.site → AreBelowNext document.count document.cells → (s : Stamp) → is_among (stamps_of document.cells) s ≡ true
    → is_among (stamps_of_span (counts_between document.site document.count after)) s ≡ false
below_apart document after real below s there =
    none_among s (stamps_of_span (counts_between document.site document.count after))
    (counts_all (λ t. is_same t s ≡ false) document.site document.count after (λ t later own. split (is_same t s)
    (λ e. absurd (
    let none = new_apart document.count t.count document.site document.cells below later real in
    let is : record { count = t.count; site = document.site } ≡ s = (λ i. record { count = t.count; site = sym own i }) ∙ same_from_true t s e in
    let same = ap (is_among (stamps_of document.cells)) is in
    cc (none, same, there)))
    (λ e. e)))

-- no cell of a document is
pub document_below : (site : ℕ) (log : List Operation) (document : DocValue) → IsHistory log → IsDocument site log document → AreBelowNext document.count document.cells
document_below site log document h doc = subst (λ (q : _). q) (λ i. AreBelowNext (sym doc.count i) (sym doc.cells i)) (cells_older log h)

-- no character that was there has one of the counts that an edit takes
pub counts_apart : (site : ℕ) (log : List Operation) (document : DocValue) (after : ℕ) → 0 < site → IsHistory log → IsDocument site log document → (s : Stamp)
    → is_among (stamps_of document.cells) s ≡ true → is_among (stamps_of_span (counts_between document.site document.count after)) s ≡ false
counts_apart site log document after p h doc = below_apart document after (omega (arith, doc.site, p)) (document_below site log document h doc)
