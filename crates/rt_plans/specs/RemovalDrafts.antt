-- The operations that a removal makes.
use Rattle.std.specs.Prelude.{ℕ, Bool, List, map}
use Rattle.rt_ops.specs.Operations.{Body, Delete}
use Rattle.rt_store.specs.declared.cell.Cell.{Cell}
use Rattle.rt_plans.specs.NamedSpans.{parts_of, spans_in}
use Rattle.rt_plans.specs.Removals.{stamps_at}

-- One Delete with the spans of all removed characters, and where it would have more than so many spans, one for each part of
-- these. Where nothing is removed there is none.
abbrev pub removal_drafts : {T : Type 0} → ℕ → (ℕ → Bool) → List (Cell T) → List Body
removal_drafts most removed cells = map (λ spans. Delete spans) (parts_of most (spans_in (stamps_at removed 0 cells)))
