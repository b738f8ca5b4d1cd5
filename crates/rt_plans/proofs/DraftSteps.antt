-- Which characters stay known while drafts are made.
use Rattle.std.proofs.Common.{◌≡◌, ℕ, ◌⊎◌, inl, inr, List, [], ◌∷◌, true, ◌||◌, sym, ◌∙◌, ap}
use Rattle.rt_stamps.specs.declared.stamp.Stamp.{Stamp}
use Rattle.rt_stamps.specs.declared.stamp.TheConstants.{FINAL}
use Rattle.rt_stamps.specs.Stamps.{is_same}
use Rattle.rt_stamps.proofs.Order.{same_from_true, same_sym}
use Rattle.rt_ops.specs.Operations.{Operation, Body}
use Rattle.rt_oplog.specs.Logs.{with_operation}
use Rattle.rt_store.specs.Cells.{stamps_of}
use Rattle.rt_store.specs.Shown.{TaggedCell}
use Rattle.rt_store.specs.Spans.{is_among}
use Rattle.rt_store.proofs.Distinct.{split}
use Rattle.rt_rga.specs.Cells.{cells_of}
use Rattle.rt_rga.specs.Drafts.{next_operation, with_drafts}
use Rattle.rt_rga.specs.Histories.{IsHistory, has_character}
use Rattle.rt_rga.proofs.Corollaries.{cells_have}
use Rattle.rt_plans.proofs.PartLaws.{still_character}

-- a character stays one
pub stays_character : (site : ℕ) (drafts : List Body) (log : List Operation) (s : Stamp) → has_character log s ≡ true → has_character (with_drafts site drafts log) s ≡ true
stays_character site [] log s h = h
stays_character site (draft ∷ drafts) log s h =
    let op = next_operation site draft log in
    stays_character site drafts (with_operation op log) s (still_character op log s h)

-- the stamps of cells are those of characters, or the last newline's
abbrev pub AreKnownCells : List Operation → List TaggedCell → Type 0
AreKnownCells log cells = (s : Stamp) → is_among (stamps_of cells) s ≡ true → (has_character log s ≡ true) ⊎ (s ≡ FINAL)

pub known_cells : (log : List Operation) (cells : List TaggedCell) → IsHistory log → cells ≡ cells_of log → AreKnownCells log cells
known_cells log cells h e s k =
    let either : (has_character log s || is_same FINAL s) ≡ true = sym (cells_have log h s) ∙ ap (λ (l : List TaggedCell). is_among (stamps_of l) s) (sym e) ∙ k in
    split (has_character log s)
    (λ f. inl f)
    (λ f. inr (same_from_true s FINAL (same_sym s FINAL ∙ ap (λ b. b || is_same FINAL s) (sym f) ∙ either)))

pub known_later : (site : ℕ) (drafts : List Body) (log : List Operation) (cells : List TaggedCell) → AreKnownCells log cells → AreKnownCells (with_drafts site drafts log) cells
known_later site drafts log cells f s k = elim (f s k) [ inl h ↦ inl (stays_character site drafts log s h) | inr h ↦ inr h ]
