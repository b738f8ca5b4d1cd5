-- A single character, as it is typed.
use Rattle.std.proofs.Common.{◌≡◌, ◌∙◌, ℕ, ◌+◌, ◌<◌, ◌≤◌, arith, List, [], ◌∷◌, ◌++◌, Some, None, cond, drop, length, nat_lt, refl, take, true, false}
use Rattle.std.proofs.lemmas.Bool.Decides.{nat_tests}
use Rattle.std.proofs.lemmas.List.{append_assoc}
use Rattle.rt_stamps.specs.declared.fault.Fault.TheVariants.{ClockSpent, TextFull}
use Rattle.rt_stamps.specs.declared.limits.TheConstants.{GREATEST_COUNT}
use Rattle.rt_stamps.specs.declared.stamp.Stamp.{Stamp}
use Rattle.rt_stamps.specs.Outcomes.{first_of}
use Rattle.rt_ops.specs.Operations.{Operation}
use Rattle.rt_store.specs.declared.cell.Cell.{Cell}
use Rattle.rt_store.specs.Cells.{put_at, skip_from}
use Rattle.rt_rga.specs.Cells.{cells_of}
use Rattle.rt_rga.specs.Drafts.{one_character, operations_of}
use Rattle.rt_rga.specs.Histories.{Continues, greatest_last_count}
use Rattle.rt_rga.specs.Made.{cell_check, refusal_of}
use Rattle.rt_rga.specs.Making.{next_insert}
use Rattle.rt_rga.specs.Requests.{MayBeMade, characters_in_all, last_count_after}
use Rattle.rt_rga.proofs.Making.{ready}

-- no count is left
pub spent : (limit : ℕ) (after : Stamp) (character : ℕ) (log : List Operation) → GREATEST_COUNT ≤ greatest_last_count log → refusal_of limit (one_character after character) log ≡ Some ClockSpent
spent limit after character log h =
    let more : nat_lt GREATEST_COUNT (last_count_after (greatest_last_count log) (one_character after character)) ≡ true = grind (arith, nat_tests) in
    λ i. first_of (cond (more i) (Some ClockSpent) None ∷ cell_check limit (length (cells_of log) + characters_in_all (one_character after character)) ∷ [])

-- a count is left, and no cell
pub full : (limit : ℕ) (after : Stamp) (character : ℕ) (log : List Operation) → greatest_last_count log < GREATEST_COUNT → limit ≤ length (cells_of log)
    → refusal_of limit (one_character after character) log ≡ Some TextFull
full limit after character log h l =
    let left : nat_lt GREATEST_COUNT (last_count_after (greatest_last_count log) (one_character after character)) ≡ false = grind (arith, nat_tests) in
    let more : nat_lt limit (length (cells_of log) + characters_in_all (one_character after character)) ≡ true = grind (arith, nat_tests) in
    λ i. first_of (cond (left i) (Some ClockSpent) None ∷ cond (more i) (Some TextFull) None ∷ [])

-- both are left
pub fits : (limit : ℕ) (after : Stamp) (character : ℕ) (log : List Operation) → greatest_last_count log < GREATEST_COUNT → length (cells_of log) < limit
    → refusal_of limit (one_character after character) log ≡ None
fits limit after character log h l =
    let left : nat_lt GREATEST_COUNT (last_count_after (greatest_last_count log) (one_character after character)) ≡ false = grind (arith, nat_tests) in
    let room : nat_lt limit (length (cells_of log) + characters_in_all (one_character after character)) ≡ false = grind (arith, nat_tests) in
    λ i. first_of (cond (left i) (Some ClockSpent) None ∷ cond (room i) (Some TextFull) None ∷ [])

-- so its operation continues the log
pub one_continues : (site limit : ℕ) (after : Stamp) (character : ℕ) (log : List Operation) → 0 < site → MayBeMade site log (one_character after character) → refusal_of limit (one_character after character) log ≡ None
    → Continues log (next_insert site after character log)
one_continues site limit after character log p m r = (ready site limit (one_character after character) log (operations_of site (one_character after character) log) p m r refl).continues.0

-- WHERE IT IS PUT

-- the place that a store finds
pub found : (at : ℕ) (cells kept : List (Cell ℕ)) (after stamp new : Stamp) → at ≡ skip_from cells after stamp → cells ≡ kept → stamp ≡ new → at ≡ skip_from kept after new
found at cells kept after stamp new e s n = e ∙ (λ i. skip_from (s i) after (n i))

-- and what it puts there
pub spliced : (at place : ℕ) (cells kept more fresh now : List (Cell ℕ)) → now ≡ take at cells ++ more ++ drop at cells → at ≡ place → more ≡ fresh → cells ≡ kept → now ≡ put_at place fresh kept
spliced at place cells kept more fresh now e a m s = e ∙ append_assoc (take at cells) more (drop at cells) ∙ (λ i. put_at (a i) (m i) (s i))
