-- What the operations of a replacement do.
use Rattle.std.proofs.Common.{◌≡◌, ℕ, ◌≤◌, ◌<◌, List, ◌++◌, sym, ◌∙◌, ap, arith, Option}
use Rattle.rt_stamps.specs.declared.limits.TheConstants.{GREATEST_COUNT, MOST_CHARACTERS, MOST_SPANS}
use Rattle.rt_stamps.specs.declared.stamp.Stamp.{Stamp}
use Rattle.rt_stamps.specs.Words.{Word}
use Rattle.rt_ops.specs.Operations.{Operation}
use Rattle.rt_store.specs.Cells.{text_of}
use Rattle.rt_store.specs.Shown.{TaggedCell}
use Rattle.rt_rga.specs.Cells.{cells_of}
use Rattle.rt_rga.specs.Drafts.{with_drafts}
use Rattle.rt_rga.specs.Histories.{IsHistory, greatest_last_count}
use Rattle.rt_rga.specs.Requests.{MayBeMade}
use Rattle.rt_rga.proofs.Appending.{drafts_append, may_append}
use Rattle.rt_plans.specs.Deletions.{Loss, delete_drafts, without_text}
use Rattle.rt_plans.specs.DraftLaws.{IsDocument, IsInsertion, SparesLast}
use Rattle.rt_plans.specs.DocValue.{DocValue, put_after}
use Rattle.rt_plans.specs.InsertionDrafts.{insertion_drafts}
use Rattle.rt_plans.specs.Insertions.{Insertion, Piece, insertion_of}
use Rattle.rt_plans.proofs.DeletionDraftLaws.{loss_counted, loss_history, loss_made, loss_may}
use Rattle.rt_plans.proofs.PieceDraftLaws.{insertion_counted, insertion_grows, insertion_made, insertion_may}

pub replacement_may : (site : ℕ) (log : List Operation) (document : DocValue) (loss : Loss) (after : Stamp) (left right : Option TaggedCell) (pieces : List Piece) (rest : Word) (start : Insertion)
    → IsHistory log → IsDocument site log document → SparesLast loss.places (text_of document.cells) → IsInsertion site (with_drafts site (delete_drafts MOST_SPANS document loss) log) after left right pieces rest start
    → MayBeMade site log (delete_drafts MOST_SPANS document loss ++ insertion_drafts MOST_CHARACTERS site after left right pieces rest start)
replacement_may site log document loss after left right pieces rest start h doc s i =
    let deletes = delete_drafts MOST_SPANS document loss in
    may_append site deletes (insertion_drafts MOST_CHARACTERS site after left right pieces rest start) log (loss_may site log document loss h doc s)
    (insertion_may site (with_drafts site deletes log) after left right pieces rest start i)

pub replacement_counted : (site : ℕ) (log : List Operation) (document : DocValue) (loss : Loss) (after : Stamp) (left right : Option TaggedCell) (pieces : List Piece) (rest : Word) (start : Insertion)
    → IsHistory log → IsDocument site log document → start.count ≡ (without_text document loss).count
    → greatest_last_count (with_drafts site (delete_drafts MOST_SPANS document loss ++ insertion_drafts MOST_CHARACTERS site after left right pieces rest start) log)
    ≡ (insertion_of site left right pieces rest start).count
replacement_counted site log document loss after left right pieces rest start h doc e =
    let deletes = delete_drafts MOST_SPANS document loss in
    ap greatest_last_count (drafts_append site deletes (insertion_drafts MOST_CHARACTERS site after left right pieces rest start) log)
    ∙ insertion_counted site (with_drafts site deletes log) after left right pieces rest start (e ∙ sym (loss_counted site log document loss h doc))

pub replacement_made : (site : ℕ) (log : List Operation) (document : DocValue) (loss : Loss) (after : Stamp) (left right : Option TaggedCell) (pieces : List Piece) (rest : Word) (start : Insertion)
    → 0 < site → IsHistory log → IsDocument site log document → SparesLast loss.places (text_of document.cells) → IsInsertion site (with_drafts site (delete_drafts MOST_SPANS document loss) log) after left right pieces rest start
    → (insertion_of site left right pieces rest start).count ≤ GREATEST_COUNT
    → cells_of (with_drafts site (delete_drafts MOST_SPANS document loss ++ insertion_drafts MOST_CHARACTERS site after left right pieces rest start) log)
    ≡ put_after (without_text document loss).cells after (insertion_of site left right pieces rest start).cells
replacement_made site log document loss after left right pieces rest start p h doc s i l =
    let deletes = delete_drafts MOST_SPANS document loss in
    let less = with_drafts site deletes log in
    let new = insertion_of site left right pieces rest start in
    let few : (without_text document loss).count ≤ GREATEST_COUNT =
    omega (arith, loss_counted site log document loss h doc, i.count, insertion_grows site left right pieces rest start, l) in
    let left_over = loss_made site log document loss p h doc s few in
    let made = insertion_made site less after left right pieces rest start p (loss_history site log document loss p h doc s few) i l in
    ap cells_of (drafts_append site deletes (insertion_drafts MOST_CHARACTERS site after left right pieces rest start) log)
    ∙ made.cells
    ∙ ap (λ (cells : List TaggedCell). put_after cells after new.cells) (sym left_over.cells)
