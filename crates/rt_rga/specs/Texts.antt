-- The text of cells, with its tags.
use Rattle.std.specs.Prelude.{ℕ, List, map}
use Rattle.rt_ops.specs.Operations.{Name}
use Rattle.rt_store.specs.Cells.{visible_of}
use Rattle.rt_store.specs.Shown.{TaggedCell}
use Rattle.rt_tags.specs.States.{names_on}

-- a character, and the tags that are on it
pub record TaggedCharacter : Type 0 where
  pub ch : ℕ
  pub tags : List Name

-- the visible characters, each with its tags
abbrev pub tagged_text : List TaggedCell → List TaggedCharacter
tagged_text cells = map (λ cell. record { ch = cell.ch; tags = names_on cell.state }) (visible_of cells)
