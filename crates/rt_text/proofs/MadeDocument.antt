-- A document after its replica has made operations, or has refused to.
use Rattle.std.proofs.Common.{◌≡◌, ◌∙◌, ℕ, ◌+◌, ◌<◌, ◌≤◌, Bool, true, false, cond, List, [], ◌∷◌, Option, None, Some, length, refl, sym, ap, arith, subst}
use Rattle.std.specs.Prelude.{nat_lt}
use Rattle.std.proofs.lemmas.Bool.{cond-false, le-ltb, ltb-true, ltb-false}
use Rattle.rt_marks.specs.Marks.{Mark}
use Rattle.rt_ops.specs.Operations.{Body, Operation}
use Rattle.rt_stamps.specs.declared.fault.Fault.{Fault}
use Rattle.rt_stamps.specs.declared.fault.Fault.TheVariants.{ClockSpent, TextFull}
use Rattle.rt_stamps.specs.declared.limits.TheConstants.{GREATEST_COUNT}
use Rattle.rt_stamps.specs.Outcomes.{first_of}
use Rattle.rt_stamps.specs.Words.{Word}
use Rattle.rt_rga.specs.Cells.{cells_of}
use Rattle.rt_rga.specs.Drafts.{with_drafts}
use Rattle.rt_rga.specs.Histories.{IsHistory, greatest_last_count}
use Rattle.rt_rga.specs.Kept.{ReplicaValue}
use Rattle.rt_rga.specs.Made.{refusal_of}
use Rattle.rt_rga.specs.Requests.{characters_in_all, last_count_after}
use Rattle.rt_rga.proofs.Corollaries.{cells_written}
use Rattle.rt_store.specs.Written.{AreWritten}
use Rattle.rt_plans.specs.DraftLaws.{IsDocument}
use Rattle.rt_plans.specs.DocValue.{DocValue, logged}
use Rattle.rt_text.specs.Commands.{clock_check, cell_check}

-- what is seen of a replica, with marks and tags
abbrev pub seen : ReplicaValue → List Mark → List Word → DocValue
seen replica marks tags = record {
  cells = replica.cells;
  site = replica.site;
  limit = replica.limit;
  log = replica.log;
  count = greatest_last_count replica.log;
  marks = marks;
  tags = tags;
}

-- what a replica has made is seen as the edited document, which is one of the larger log
pub seen_made : (document edited : DocValue) (drafts : List Body) (new : ReplicaValue) → new.log ≡ with_drafts document.site drafts document.log → new.cells ≡ cells_of new.log → new.site ≡ document.site → new.limit ≡ document.limit
    → edited.limit ≡ document.limit → IsDocument document.site (with_drafts document.site drafts document.log) edited → seen new edited.marks edited.tags ≡ logged document drafts edited
seen_made document edited drafts new log cells site limit same doc =
    λ i. record {
      cells = (cells ∙ ap cells_of log ∙ sym doc.cells) i;
      site = (site ∙ sym doc.site) i;
      limit = (limit ∙ sym same) i;
      log = log i;
      count = (ap greatest_last_count log ∙ sym doc.count) i;
      marks = edited.marks;
      tags = edited.tags;
    }

-- REFUSALS

-- the replica refuses what the counts and the cells of the edited document refuse
pub refusal_is : (limit : ℕ) (drafts : List Body) (log : List Operation) (count cells : ℕ) → last_count_after (greatest_last_count log) drafts ≡ count → length (cells_of log) + characters_in_all drafts ≡ cells
    → refusal_of limit drafts log ≡ first_of (clock_check count ∷ cell_check limit cells ∷ [])
refusal_is limit drafts log count cells e f = λ i. first_of (clock_check (e i) ∷ cell_check limit (f i) ∷ [])

-- Where operations insert nothing, they are refused for their counts alone.
pub counts_alone : (limit : ℕ) (drafts : List Body) (log : List Operation) (count : ℕ) → length (cells_of log) ≤ limit → characters_in_all drafts ≡ 0 → last_count_after (greatest_last_count log) drafts ≡ count
    → refusal_of limit drafts log ≡ clock_check count
counts_alone limit drafts log count few none e =
    refusal_is limit drafts log count (length (cells_of log)) e (omega (arith, none))
    ∙ ap (λ c. first_of (clock_check count ∷ c ∷ [])) (cond-false (nat_lt limit (length (cells_of log))) (Some TextFull) None (le-ltb limit (length (cells_of log)) few))
    ∙ by (clock_check count)
  where
    by : (check : Option Fault) → first_of (check ∷ None ∷ []) ≡ check
    by None = refl
    by (Some fault) = refl

-- what a check of the clock says
pub clock_fits : (count : ℕ) → clock_check count ≡ None → count ≤ GREATEST_COUNT
clock_fits count e = by (nat_lt GREATEST_COUNT count) refl e
  where
    by : (b : Bool) → nat_lt GREATEST_COUNT count ≡ b → cond b (Some ClockSpent) None ≡ None → count ≤ GREATEST_COUNT
    by false f k = ltb-false GREATEST_COUNT count f
    by true f k = let bad : ⊥ = cc in absurd bad

pub clock_passed : (count : ℕ) (fault : Fault) → clock_check count ≡ Some fault → (fault ≡ ClockSpent) × (GREATEST_COUNT < count)
clock_passed count fault e = by (nat_lt GREATEST_COUNT count) refl e
  where
    by : (b : Bool) → nat_lt GREATEST_COUNT count ≡ b → cond b (Some ClockSpent) None ≡ Some fault → (fault ≡ ClockSpent) × (GREATEST_COUNT < count)
    by true f k = (cc, ltb-true GREATEST_COUNT count f)
    by false f k = let bad : ⊥ = cc in absurd bad

pub both_fit : (count limit cells : ℕ) → first_of (clock_check count ∷ cell_check limit cells ∷ []) ≡ None → (count ≤ GREATEST_COUNT) × (cells ≤ limit)
both_fit count limit cells e = by (nat_lt GREATEST_COUNT count) (nat_lt limit cells) refl refl e
  where
    by : (b d : Bool) → nat_lt GREATEST_COUNT count ≡ b → nat_lt limit cells ≡ d → first_of (cond b (Some ClockSpent) None ∷ cond d (Some TextFull) None ∷ []) ≡ None → (count ≤ GREATEST_COUNT) × (cells ≤ limit)
    by false false f h k = (ltb-false GREATEST_COUNT count f, ltb-false limit cells h)
    by false true f h k = let bad : ⊥ = cc in absurd bad
    by true d f h k = let bad : ⊥ = cc in absurd bad

-- WRITES

-- no write in a document that has the cells of a history is newer than its count
pub document_written : (document : DocValue) → IsHistory document.log → IsDocument document.site document.log document → AreWritten document.count document.cells
document_written document history doc = subst (λ (p : _). p) (λ i. AreWritten (sym doc.count i) (sym doc.cells i)) (cells_written document.log history)
