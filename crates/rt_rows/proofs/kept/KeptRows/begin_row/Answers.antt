use Rattle.std.proofs.Common.{ap, subst, List}
use Rattle.rt_ops.specs.Operations.{Name, Operation}
use Rattle.rt_rows.specs.Stored.{IsPut, KeptValue}
use Rattle.rt_rows.specs.Views.{operation_of}
use Rattle.rt_rows.proofs.kept.KeptRows.begin_row.Goals as goal

pub returns-clause-put : goal.returns-clause-put
returns-clause-put c =
    let op : List (List Name) → Operation = λ lists. operation_of lists c.args.one.now in
    subst (λ kept. IsPut kept c.begin-place.new.rows.items op c.begin-place.result) (ap (λ (v : KeptValue). v.kept) c.self.view_is)
    (c.begin-place.ensures.put op c.of.ensures.is)
