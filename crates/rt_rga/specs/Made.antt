-- What making a site's own operations answers, and what it does.
use Rattle.std.specs.Prelude.{◌≡◌, ◌⊎◌, ℕ, ◌+◌, nat_lt, List, [], ◌∷◌, length, Option, Some, None, Result, IfErr, OnErr, OnOk, if◌then◌else◌}
use Rattle.rt_stamps.specs.declared.fault.Fault.{Fault}
use Rattle.rt_stamps.specs.declared.fault.Fault.TheVariants.{NoMemory, TextFull}
use Rattle.rt_stamps.specs.Clock.{clock_check}
use Rattle.rt_stamps.specs.Outcomes.{first_of}
use Rattle.rt_ops.specs.Operations.{Operation, Body}
use Rattle.rt_tags.specs.States.{KeepsIds}
use Rattle.rt_rga.specs.Cells.{cells_of}
use Rattle.rt_rga.specs.Drafts.{with_drafts}
use Rattle.rt_rga.specs.Histories.{greatest_last_count}
use Rattle.rt_rga.specs.Kept.{ReplicaValue}
use Rattle.rt_rga.specs.Requests.{characters_in_all, last_count_after}

-- there may be so many cells
abbrev pub cell_check : ℕ → ℕ → Option Fault
cell_check limit cells = if nat_lt limit cells then Some TextFull else None

-- Why drafts are refused after a last count, beside so many cells, within a limit of cells, want of memory aside: their counts
-- would pass the greatest one, or the cells the limit.
abbrev pub refusal_from : ℕ → ℕ → ℕ → List Body → Option Fault
refusal_from last cells limit drafts =
    first_of (clock_check (last_count_after last drafts) ∷ cell_check limit (cells + characters_in_all drafts) ∷ [])

-- why they are refused by a site with a log, within its limit of cells
abbrev pub refusal_of : ℕ → List Body → List Operation → Option Fault
refusal_of limit drafts log = refusal_from (greatest_last_count log) (length (cells_of log)) limit drafts

-- a call for which there is a refusal is refused so, and another one for want of memory alone
abbrev pub RefusesFor : Option Fault → Fault → Type 0
RefusesFor refusal fault = (refusal ≡ Some fault) ⊎ ((fault ≡ NoMemory) × (refusal ≡ None))

-- what becomes of a set: the larger one where nothing is refused
abbrev pub unless_refused : Option Fault → List Operation → List Operation → List Operation
unless_refused None more set = more
unless_refused (Some fault) more set = set

-- A replica makes operations of drafts, all of them or none. It logs them where nothing refuses them and memory suffices. Else all is
-- as before, but where memory was wanting, names and states may have got ids.
pub record Makes {T : Type 0} (drafts : List Body) (old new : ReplicaValue) (result : Result T Fault) : Type 0 where
  pub fits : OnOk result (refusal_of old.limit drafts old.log ≡ None)
  pub refused : IfErr result (RefusesFor (refusal_of old.limit drafts old.log))
  pub log : OnOk result (new.log ≡ with_drafts old.site drafts old.log)
  pub cells : OnOk result (new.cells ≡ cells_of new.log)
  pub same : OnErr result (new ≡ record old { table = new.table })
  pub kept : (refusal_of old.limit drafts old.log ≡ None → ⊥) → new ≡ old
  pub site : new.site ≡ old.site
  pub limit : new.limit ≡ old.limit
  pub ids : KeepsIds old.table new.table
