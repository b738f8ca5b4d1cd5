-- How many cells and counts there are after one more operation.
use Rattle.std.proofs.Common.{◌≡◌, ℕ, ◌+◌, true, false, refl, sym, ap, ◌∙◌, arith, List, [], ◌∷◌, cond, max, length}
use Rattle.std.proofs.lemmas.List.{length-map}
use Rattle.rt_stamps.specs.declared.stamp.Stamp.{Stamp}
use Rattle.rt_stamps.specs.declared.stamp.TheConstants.{ROOT}
use Rattle.rt_stamps.specs.Stamps.{is_before}
use Rattle.rt_store.specs.Cells.{cells_from, skip_from}
use Rattle.rt_tags.specs.Writers.{listed_by, state_after}
use Rattle.rt_ops.specs.Operations.{Operation, Body, Insert, Delete, Tag, last_count, stamp_of}
use Rattle.rt_oplog.specs.Logs.{with_operation}
use Rattle.rt_rga.specs.Histories.{IsHistory, greatest_last_count, inserted, inserted_by}
use Rattle.rt_rga.specs.Cells.{cells_of}
use Rattle.rt_rga.specs.Changes.{changed_by, written_in_any}
use Rattle.rt_rga.proofs.Changing.{length_text}
use Rattle.rt_rga.proofs.Histories.{continues_from}
use Rattle.rt_store.proofs.Places.{length_from, length_put}
use Rattle.rt_store.specs.Spans.{gone_in_any}
use Rattle.rt_store.specs.Shown.{TaggedCell}
use Rattle.rt_rga.proofs.Merging.{cells_with}

swapped : (a b c : ℕ) → max b (max a c) ≡ max a (max b c)
swapped a b c = omega arith

pub count_with : (op : Operation) (set : List Operation) → greatest_last_count (with_operation op set) ≡ max (last_count op) (greatest_last_count set)
count_with op [] = refl
count_with op (q ∷ older) = elim (is_before (stamp_of q) (stamp_of op)) as (λ b. greatest_last_count (cond b (op ∷ q ∷ older) (q ∷ with_operation op older)) ≡ max (last_count op) (max (last_count q) (greatest_last_count older))) [
  | true ↦ refl
  | false ↦ ap (max (last_count q)) (count_with op older) ∙ swapped (last_count op) (last_count q) (greatest_last_count older)
]

length_by : (stamp : Stamp) (body : Body) (cells : List TaggedCell) → length (changed_by stamp body cells) ≡ length cells + length (inserted_by stamp body)
length_by stamp (Insert after tags text) cells =
    let new : List TaggedCell = cells_from stamp.count stamp.site (state_after [] (listed_by ROOT tags)) text in
    length_put (skip_from cells after stamp) new cells
    ∙ ap (λ n. length cells + n) (length_from stamp.count stamp.site (state_after [] (listed_by ROOT tags)) text ∙ sym (length_text after stamp text))
length_by stamp (Delete spans) cells = length-map cells (gone_in_any spans) ∙ omega arith
length_by stamp (Tag on name spans) cells = length-map cells (written_in_any spans (record { name = name; writer = stamp; on = on })) ∙ omega arith

pub length_with : (set : List Operation) (op : Operation) → IsHistory set → IsHistory (with_operation op set) → length (cells_of (with_operation op set)) ≡ length (cells_of set) + length (inserted op)
length_with set op h w = ap length (cells_with op set h (continues_from op set h w)) ∙ length_by (stamp_of op) op.body (cells_of set)
