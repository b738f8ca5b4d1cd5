-- Who is gone stays gone while a log grows.
use Rattle.std.proofs.Common.{◌≡◌, ◌∙◌, Bool, true, false, ◌||◌, ◌&&◌, List, [], ◌∷◌, Option, Some, cond, map, ap, arith, refl, sym}
use Rattle.std.specs.Prelude.{option_map, unwrap_or}
use Rattle.std.specs.List.{find}
use Rattle.rt_stamps.specs.declared.stamp.Stamp.{Stamp}
use Rattle.rt_stamps.specs.Stamps.{is_same}
use Rattle.rt_stamps.proofs.Order.{same_from_true}
use Rattle.rt_oplog.proofs.Sets.{any_at, any_from}
use Rattle.rt_ops.specs.Operations.{Operation}
use Rattle.rt_store.specs.Cells.{stamps_of}
use Rattle.rt_store.specs.Shown.{TaggedCell}
use Rattle.rt_store.specs.Spans.{is_among}
use Rattle.rt_rga.specs.Cells.{cell_in, cells_of, deletes, is_gone}
use Rattle.rt_rga.specs.Histories.{IsHistory, characters, has_character}
use Rattle.rt_rga.specs.Reading.{Character, reading}
use Rattle.rt_rga.proofs.Corollaries.{cells_have}
use Rattle.rt_rga.proofs.Skipping.{split}
use Rattle.rt_rga.proofs.Writes.{not_gone}
use Rattle.rt_text.proofs.Growing.{Grows}
use Rattle.rt_recording.specs.Settled.{is_gone_cell as has_gone}

-- LOGS

-- who is gone in a log is gone in one that has its operations
gone_more : (old new : List Operation) → Grows old new → (s : Stamp) → is_gone old s ≡ true → is_gone new s ≡ true
gone_more old new grows s h = let (op, there, deletes_it) = any_from (λ op. deletes op.body s) old h in any_at (λ op. deletes op.body s) new op (grows op there) deletes_it

-- THE CELLS OF A LOG

-- whether there is such a gone cell
abbrev some_gone : Option TaggedCell → Bool
some_gone found = unwrap_or (option_map (λ (cell : TaggedCell). cell.gone) found) false

gone_some : (cell : TaggedCell) (b : Bool) → cell.gone ≡ b → some_gone (Some cell) ≡ b
gone_some cell b e = e

-- the cell of a stamp is gone where it is there and the log takes it away
among_gone : (log : List Operation) (s : Stamp) (xs : List Character) → has_gone (map (cell_in log) xs) s ≡ (is_among (stamps_of (map (cell_in log) xs)) s && is_gone log s)
among_gone log s [] = refl
among_gone log s (x ∷ xs) = by (is_same x.stamp s) refl (among_gone log s xs)
  where
    rest : List TaggedCell
    rest = map (cell_in log) xs

    by : (b : Bool) → is_same x.stamp s ≡ b → has_gone rest s ≡ (is_among (stamps_of rest) s && is_gone log s)
        → some_gone (cond (is_same x.stamp s) (Some (cell_in log x)) (find (λ (cell : TaggedCell). is_same cell.stamp s) rest)) ≡ ((is_same x.stamp s || is_among (stamps_of rest) s) && is_gone log s)
    by true e more = ap (λ b. some_gone (cond b (Some (cell_in log x)) (find (λ (cell : TaggedCell). is_same cell.stamp s) rest))) e
        ∙ gone_some (cell_in log x) (is_gone log s) (ap (is_gone log) (same_from_true x.stamp s e))
        ∙ sym (ap (λ b. (b || is_among (stamps_of rest) s) && is_gone log s) e)
    by false e more = ap (λ b. some_gone (cond b (Some (cell_in log x)) (find (λ (cell : TaggedCell). is_same cell.stamp s) rest))) e
        ∙ more ∙ sym (ap (λ b. (b || is_among (stamps_of rest) s) && is_gone log s) e)

and_true : (a b : Bool) → a ≡ true → b ≡ true → (a && b) ≡ true
and_true a b h k = grind arith

and_second : (a b : Bool) → (a && b) ≡ true → b ≡ true
and_second true b h = h
and_second false b h = absurd (cc h)

pub character_gone : (log : List Operation) → IsHistory log → (s : Stamp) → is_gone log s ≡ true → has_character log s ≡ true
character_gone log h s e = split (has_character log s) (λ y. y) (λ n. absurd (let other = not_gone log h s n in cc (other, e)))

pub gone_in_log : (log : List Operation) (s : Stamp) → has_gone (cells_of log) s ≡ true → is_gone log s ≡ true
gone_in_log log s h = and_second (is_among (stamps_of (cells_of log)) s) (is_gone log s) (sym (among_gone log s (reading (characters log))) ∙ h)

pub gone_in_cells : (log : List Operation) → IsHistory log → (s : Stamp) → is_gone log s ≡ true → has_gone (cells_of log) s ≡ true
gone_in_cells log h s e =
    among_gone log s (reading (characters log))
    ∙ and_true (is_among (stamps_of (cells_of log)) s) (is_gone log s) (cells_have log h s ∙ or_true_left (has_character log s) (is_same _ s) (character_gone log h s e)) e
  where
    or_true_left : (a b : Bool) → a ≡ true → (a || b) ≡ true
    or_true_left true b h = refl
    or_true_left false b h = absurd (cc h)

-- so a cell that is gone stays so
pub cells_stay_gone : (old new : List Operation) → IsHistory new → Grows old new → (s : Stamp) → has_gone (cells_of old) s ≡ true → has_gone (cells_of new) s ≡ true
cells_stay_gone old new h grows s e = gone_in_cells new h s (gone_more old new grows s (gone_in_log old s e))
