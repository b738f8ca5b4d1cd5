use Rattle.std.proofs.Common.{subst}
use Rattle.std.specs.Prelude.{length}
use Rattle.rt_store.specs.Cells.{text_of}
use Rattle.rt_plans.specs.DocValue.{DocValue}
use Rattle.rt_text.specs.Widgets.{AreSiteMarks}
use Rattle.rt_text.proofs.doc.Doc.marks.Goals as goal

pub returns-clause-site : goal.returns-clause-site
returns-clause-site g c = subst (λ (f : DocValue). AreSiteMarks (length (text_of f.cells)) f.marks) c.self.view_is c.self.invariant.placed
