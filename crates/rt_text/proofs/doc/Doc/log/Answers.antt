use Rattle.std.proofs.Common.{ap, arith, length}
use Rattle.std.proofs.lemmas.List.{length-map}
use Rattle.rt_plans.specs.DocValue.{DocValue}
use Rattle.rt_store.specs.Shown.{shown}
use Rattle.rt_text.proofs.doc.Doc.log.Goals as goal

-- the store has a cell for each that the document shows
pub returns-clause-few : goal.returns-clause-few
returns-clause-few g c =
    let kept = g.S.TextStore.list c.store.result.now in
    let cells = ap (λ (f : DocValue). length f.cells) c.self.view_is in
    let limit = ap (λ (f : DocValue). f.limit) c.self.view_is in
    omega (arith, cells, limit, ap length c.store.ensures.kept, length-map kept (shown c.self.inside.replica.table), c.store.ensures.few)
