-- What pieces of text have come to, as the plan of an insertion keeps it.
use Rattle.std.specs.Prelude.{◌≡◌, length, List, Option, None, option_map}
use Rattle.rt_stamps.specs.declared.stamp.Stamp.{Stamp}
use Rattle.rt_stamps.specs.Words.{Word, as_words}
use Rattle.rt_tags.specs.States.{names_on}
use Rattle.rt_plans.specs.declared.inserting.Between.{Between}
use Rattle.rt_plans.specs.declared.inserting.Plan.{Plan}
use Rattle.rt_plans.specs.declared.pieces.PlannedPieces.{PlannedPieces}
use Rattle.rt_plans.specs.InsertionDrafts.{last_element}
use Rattle.rt_plans.specs.Insertions.{Insertion, all_listed, on_left}
use Rattle.rt_plans.specs.Selections.{with_stamps}

-- The number of new characters and the greatest count, the element behind them, what the commanding widget selects, the tags to
-- list, and those of the last new character. The pieces go behind an element, the widget has a selection, and some tags are
-- listed.
pub record AreSoFar (after : Stamp) (selection : List Stamp) (listed : List Word) (pieces : PlannedPieces) (so_far : Insertion) : Type 0 where
  pub characters : pieces.characters ≡ length so_far.cells
  pub count : pieces.texts.count ≡ so_far.count
  pub element : pieces.texts.behind ≡ last_element after so_far.cells
  pub sel : with_stamps pieces.selected.items selection ≡ so_far.sel
  pub tags : all_listed (as_words pieces.names.items) listed ≡ so_far.tags
  pub last : option_map (λ names. as_words names.items) pieces.last ≡ option_map (λ cell. names_on cell.state) (on_left None so_far.cells)

-- the plan that the pieces make, with the characters between two others
pub record ArePlanned (plan : Plan) (pieces : PlannedPieces) (between : Option Between) : Type 0 where
  pub characters : plan.characters ≡ pieces.characters
  pub selected : plan.selected ≡ pieces.selected
  pub names : plan.names ≡ pieces.names
  pub others : plan.between ≡ between
