-- What an edit does to a document and its site's widgets.
use Rattle.std.specs.Prelude.{◌≡◌, ◌⊎◌, [], ◌∷◌, length, Option, None, Some, Result, OnOk, OnErr, IfErr}
use Rattle.std.specs.List.{AllByRecursion}
use Rattle.rt_stamps.specs.declared.fault.Fault.{Fault}
use Rattle.rt_stamps.specs.declared.fault.Fault.TheVariants.{NoMemory}
use Rattle.rt_stamps.specs.Outcomes.{first_of}
use Rattle.rt_store.specs.Cells.{text_of}
use Rattle.rt_plans.specs.DocValue.{DocValue}
use Rattle.rt_text.specs.Commands.{cell_check, clock_check}
use Rattle.rt_text.specs.Widgets.{IsOwnOf, ViewValue}

-- the counts of an edited document are left
abbrev pub count_check : DocValue → Option Fault
count_check edited = clock_check edited.count

-- and its cells are within the limit of the document that it was
abbrev pub edit_check : DocValue → DocValue → Option Fault
edit_check old edited = first_of (clock_check edited.count ∷ cell_check old.limit (length edited.cells) ∷ [])

-- An edit that is done or refused as a whole: `edited` is what it makes by its definition, `new` what there is then.
pub record IsEdit (check : DocValue → Option Fault) (old edited new : ViewValue) (result : Result (Unit {0}) Fault) : Type 0 where
  pub ok : OnOk result (new ≡ edited)
  pub checked : OnOk result (check new.doc ≡ None)
  -- refused is what doesn't pass the check, or finds no memory
  pub err : IfErr result (λ fault. (fault ≡ NoMemory) ⊎ (check edited.doc ≡ Some fault))
  pub unchanged : OnErr result (new ≡ old)
  -- either way the own marks of each widget stand in the text
  pub own : IsOwnOf (length (text_of new.doc.cells)) new.own
  pub others : AllByRecursion (IsOwnOf (length (text_of new.doc.cells))) new.others
