use Rattle.std.proofs.Common.{subst, sym}
use Rattle.rt_rows.specs.Stored.{AreListed, IsPut}
use Rattle.rt_rows.specs.Views.{operation_of}
use Rattle.rt_rows.proofs.kept.take_any.Goals as goal

pub returns-in-Some-clause-put : goal.returns-in-Some-clause-put
returns-in-Some-clause-put c =
    subst (λ kept. IsPut kept c.take_at.new.rows.items (λ lists. operation_of lists c.args.one.now) c.in-Some.place) c.loop-row.invariant.same c.in-Some.ensures.put

pub returns-in-Some-clause-listed : goal.returns-in-Some-clause-listed
returns-in-Some-clause-listed c many h = c.take_at.ensures.listed many (subst (AreListed many) (sym c.loop-row.invariant.same) h)
