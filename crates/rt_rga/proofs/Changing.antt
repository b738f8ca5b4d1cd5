-- What the code's edits do to what is kept.
use Rattle.std.proofs.Common.{◌≡◌, ℕ, suc, ◌+◌, refl, ap, ◌∙◌, List, [], ◌∷◌, length}
use Rattle.rt_stamps.specs.declared.stamp.Stamp.{Stamp}
use Rattle.rt_store.specs.declared.cell.Cell.{Cell}
use Rattle.rt_ops.specs.Operations.{Operation, Insert, Name, stamp_of}
use Rattle.rt_store.proofs.Places.{length_from, length_put}
use Rattle.rt_store.specs.Cells.{cells_from, put_at}
use Rattle.rt_rga.specs.Histories.{characters_from, inserted, inserted_by}

pub length_text : (left stamp : Stamp) (text : List ℕ) → length (characters_from left stamp text) ≡ length text
length_text left stamp [] = refl
length_text left stamp (c ∷ cs) = ap suc (length_text stamp (record { count = stamp.count + 1; site = stamp.site }) cs)

pub length_inserted : (op : Operation) (after : Stamp) (tags : List Name) (text : List ℕ) → op.body ≡ Insert after tags text → length (inserted op) ≡ length text
length_inserted op after tags text e = ap (λ b. length (inserted_by (stamp_of op) b)) e ∙ length_text after (stamp_of op) text

-- as many cells as before, and the new ones
pub length_changed : (cells old : List (Cell ℕ)) (at count site state : ℕ) (text : List ℕ) → cells ≡ put_at at (cells_from count site state text) old → length cells ≡ length old + length text
length_changed cells old at count site state text e = ap length e ∙ length_put at (cells_from count site state text) old ∙ ap (λ n. length old + n) (length_from count site state text)
