-- The last newline of a document is none of the characters that go.
use Rattle.std.proofs.Common.{◌≡◌, ℕ, ◌-◌, Bool, false, not, List, [], ◌∷◌, ◌++◌, cond, length, refl, ◌∙◌, ap, arith, Option, Some}
use Rattle.std.specs.Prelude.{option_map, slice_get, unwrap_or}
use Rattle.std.proofs.lemmas.List.Elements.{filter-append}
use Rattle.rt_stamps.specs.declared.stamp.Stamp.{Stamp}
use Rattle.rt_stamps.specs.declared.stamp.TheConstants.{FINAL}
use Rattle.rt_store.specs.Cells.{text_of, visible_of}
use Rattle.rt_store.specs.Shown.{TaggedCell}
use Rattle.rt_store.specs.Spans.{is_among}
use Rattle.rt_ops.specs.Operations.{Operation}
use Rattle.rt_rga.specs.Cells.{cell_in}
use Rattle.rt_rga.specs.Histories.{IsHistory, final_character}
use Rattle.rt_rga.proofs.Final.{cells_last}
use Rattle.rt_plans.specs.DraftLaws.{IsDocument, SparesLast}
use Rattle.rt_plans.specs.DocValue.{DocValue}
use Rattle.rt_plans.proofs.NewlineDrafts.{EndsAs, document_ends, length_ends}
use Rattle.rt_revert.specs.Reverting.{are_at}

at_end : {X : Type 0} (xs : List X) (x : X) → slice_get (xs ++ x ∷ []) (length xs) ≡ Some x
at_end [] x = refl
at_end (y ∷ ys) x = at_end ys x

last_visible : (front : List TaggedCell) (last : TaggedCell) → last.gone ≡ false → visible_of (front ++ last ∷ []) ≡ visible_of front ++ last ∷ []
last_visible front last g =
    filter-append (λ (cell : TaggedCell). not cell.gone) front (last ∷ []) ∙ ap (λ b. visible_of front ++ cond (not b) (last ∷ []) []) g

ends_apart : (stamps : List Stamp) (document : DocValue) (front : List TaggedCell) (last : TaggedCell) → EndsAs document front last → is_among stamps FINAL ≡ false
    → SparesLast (are_at stamps document.cells) (text_of document.cells)
ends_apart stamps document front last e n =
    let place : length (text_of document.cells) - 1 ≡ length (visible_of front) = omega (arith, length_ends document front last e) in
    let seen : visible_of document.cells ≡ visible_of front ++ last ∷ [] = ap visible_of e.is ∙ last_visible front last e.gone in
    let test : Option TaggedCell → Bool = λ o. unwrap_or (option_map (λ (cell : TaggedCell). is_among stamps cell.stamp) o) false in
    ap (are_at stamps document.cells) place
    ∙ ap (λ (cells : List TaggedCell). test (slice_get cells (length (visible_of front)))) seen
    ∙ ap test (at_end (visible_of front) last)
    ∙ ap (is_among stamps) e.stamp
    ∙ n

pub spares_final : (site : ℕ) (log : List Operation) (document : DocValue) (stamps : List Stamp) → IsHistory log → IsDocument site log document → is_among stamps FINAL ≡ false
    → SparesLast (are_at stamps document.cells) (text_of document.cells)
spares_final site log document stamps h doc n =
    ends_apart stamps document (cells_last log h).0 (cell_in log final_character) (document_ends site log document h doc) n
