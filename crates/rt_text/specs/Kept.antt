-- What is so of a document between commands, beside what is so of its replica.
use Rattle.std.specs.Prelude.{List, length}
use Rattle.rt_plans.specs.Listed.{AreListed}
use Rattle.rt_marks.specs.Marks.{Mark}
use Rattle.rt_stamps.specs.Words.{Word}
use Rattle.rt_store.specs.Cells.{text_of}
use Rattle.rt_store.specs.Shown.{TaggedCell}
use Rattle.rt_text.specs.Widgets.{AreSiteMarks}

-- Cells, marks and tags of a document: each mark stands in the text and has a name of the site's; the tags on visible
-- characters are listed.
pub record IsDoc (cells : List TaggedCell) (marks : List Mark) (tags : List Word) : Type 0 where
  pub placed : AreSiteMarks (length (text_of cells)) marks
  pub listed : AreListed tags cells
