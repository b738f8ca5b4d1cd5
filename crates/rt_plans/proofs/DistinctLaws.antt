-- Stamps that differ.
use Rattle.std.proofs.Common.{◌≡◌, ℕ, ◌+◌, List, [], ◌∷◌, Bool, true, false, cond, refl}
use Rattle.std.specs.List.{IsDistinct}
use Rattle.std.proofs.lemmas.Bool.{or_from, or_parts}
use Rattle.rt_stamps.specs.declared.stamp.Stamp.{Stamp}
use Rattle.rt_stamps.specs.Stamps.{is_same}
use Rattle.rt_store.specs.declared.cell.Cell.{Cell}
use Rattle.rt_store.specs.Cells.{stamps_of}
use Rattle.rt_store.specs.Spans.{is_among}
use Rattle.rt_plans.specs.Removals.{stamps_at}
use Rattle.rt_store.proofs.Distinct.{distinct_more, first_apart, none_distinct, others_distinct}

-- STAMPS AT PLACES

within_step : (x : Stamp) (b d : Bool) (xs ys : List Stamp) (s : Stamp) → is_same x s ≡ false → is_among xs s ≡ false → is_among ys s ≡ false
    → is_among (cond b xs (cond d (x ∷ ys) ys)) s ≡ false
within_step x true d xs ys s e f g = f
within_step x false true xs ys s e f g = or_from (is_same x s) (is_among ys s) e g
within_step x false false xs ys s e f g = g

-- the stamps at places are stamps of the cells
pub stamps_within : {T : Type 0} (r : ℕ → Bool) (p : ℕ) (cells : List (Cell T)) (s : Stamp) → is_among (stamps_of cells) s ≡ false → is_among (stamps_at r p cells) s ≡ false
stamps_within r p [] s h = refl
stamps_within r p (c ∷ cs) s h =
    let q = or_parts (is_same c.stamp s) (is_among (stamps_of cs) s) h in
    within_step c.stamp c.gone (r p) (stamps_at r p cs) (stamps_at r (p + 1) cs) s q.0 (stamps_within r p cs s q.1) (stamps_within r (p + 1) cs s q.1)

distinct_step : (x : Stamp) (b d : Bool) (xs ys : List Stamp) → is_among ys x ≡ false → IsDistinct is_same xs → IsDistinct is_same ys
    → IsDistinct is_same (cond b xs (cond d (x ∷ ys) ys))
distinct_step x true d xs ys e f g = f
distinct_step x false true xs ys e f g = distinct_more x ys e g
distinct_step x false false xs ys e f g = g

-- and differ where those do
pub distinct_at : {T : Type 0} (r : ℕ → Bool) (p : ℕ) (cells : List (Cell T)) → IsDistinct is_same (stamps_of cells) → IsDistinct is_same (stamps_at r p cells)
distinct_at r p [] h = none_distinct
distinct_at r p (c ∷ cs) h =
    let rest = others_distinct c.stamp (stamps_of cs) h in
    distinct_step c.stamp c.gone (r p) (stamps_at r p cs) (stamps_at r (p + 1) cs)
    (stamps_within r (p + 1) cs c.stamp (first_apart c.stamp (stamps_of cs) h)) (distinct_at r p cs rest) (distinct_at r (p + 1) cs rest)
