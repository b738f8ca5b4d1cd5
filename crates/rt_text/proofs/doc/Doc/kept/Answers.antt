use Rattle.std.proofs.Common.{◌∙◌, List, subst, sym}
use Rattle.rt_store.specs.Cells.{AreDistinct}
use Rattle.rt_store.specs.Shown.{TaggedCell}
use Rattle.rt_store.proofs.Shown.{distinct_from_shown}
use Rattle.rt_tags.specs.States.{state_at}
use Rattle.rt_rga.proofs.Corollaries.{cells_distinct}
use Rattle.rt_text.proofs.doc.Doc.kept.Goals as goal

pub returns-clause-distinct : goal.returns-clause-distinct
returns-clause-distinct g c =
    let replica = c.self.inside.replica in
    distinct_from_shown (state_at replica.table) (g.S.TextStore.list c.store.result.now)
    (subst (λ (cells : List TaggedCell). AreDistinct cells) (sym (c.store.ensures.kept ∙ c.store.ensures.cells)) (cells_distinct replica.log c.log.ensures.history))
