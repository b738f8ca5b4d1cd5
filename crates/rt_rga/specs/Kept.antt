-- What contracts see of a replica.
use Rattle.std.specs.Prelude.{◌≡◌, ℕ, ◌≤◌, Bool, not, ◌&&◌, ◌==◌, List, length, Result, Ok, Err}
use Rattle.rt_stamps.specs.declared.fault.Fault.{Fault}
use Rattle.rt_stamps.specs.declared.limits.TheConstants.{MOST_CELLS}
use Rattle.rt_stamps.specs.declared.stamp.Span.{Span}
use Rattle.rt_stamps.specs.declared.stamp.Stamp.{Stamp}
use Rattle.rt_stamps.specs.declared.stamp.TheConstants.{FINAL}
use Rattle.rt_stamps.specs.Stamps.{is_same}
use Rattle.rt_ops.specs.Operations.{Operation}
use Rattle.rt_store.specs.declared.cell.Cell.{Cell}
use Rattle.rt_tags.specs.States.{TagStates}
use Rattle.rt_rga.specs.declared.answer.Offer.{Offer}
use Rattle.rt_rga.specs.declared.answer.Offer.TheVariants as offers
use Rattle.rt_rga.specs.Answers.{Answer, New, Repeat, Refused, passes_end}
use Rattle.rt_rga.specs.Cells.{cells_of}
use Rattle.rt_rga.specs.Histories.{IsHistory, greatest_last_count}
use Rattle.rt_store.specs.Cells.{stamps_of}
use Rattle.rt_store.specs.Spans.{is_among}
use Rattle.rt_store.specs.Shown.{TaggedCell}
use Rattle.rt_rga.specs.Replicas.{IsReplica}

-- The accepted operations, the newest first; their cells with the writes on each; what the ids of states mean; the site's own
-- number; the most cells that there may be.
pub record ReplicaValue : Type 0 where
  pub log : List Operation
  pub cells : List TaggedCell
  pub table : TagStates
  pub site : ℕ
  pub limit : ℕ

-- a replica within its limit of cells, whose clock has seen the greatest count of its log
pub record IsWithin (log : List Operation) (table : TagStates) (kept : List (Cell ℕ)) (clock limit : ℕ) : Type 0 where
  pub replica : IsReplica log table kept
  pub seen : clock ≡ greatest_last_count log
  pub cells : length kept ≤ limit
  pub most : limit ≤ MOST_CELLS

-- what a replica keeps to: it is within its limit, what its store keeps of tags is right by its table of states, and so is what is
-- noted by its log
pub record ReplicaIsSound (Within Agrees Noted : Type 0) : Type 0 where
  pub within : Within
  pub agrees : Agrees
  pub noted : Noted

-- the cells that are kept have the stamps of a history's cells
pub record AreCellsOf (log : List Operation) (kept : List (Cell ℕ)) : Type 0 where
  pub history : IsHistory log
  pub stamps : stamps_of kept ≡ stamps_of (cells_of log)

-- a stamp is that of a kept cell other than the final newline's
abbrev pub is_kept_character : List (Cell ℕ) → Stamp → Bool
is_kept_character kept stamp = not (is_same stamp FINAL) && is_among (stamps_of kept) stamp

-- what the code answers, as an answer
abbrev pub said : Result Offer Fault → Answer
said (Ok offers.New) = New
said (Ok offers.Repeat) = Repeat
said (Err fault) = Refused fault

-- a span of a real site goes past the site's known end
abbrev pub goes_past : List Operation → Span → Bool
goes_past log span = not (span.site == 0) && passes_end log span
