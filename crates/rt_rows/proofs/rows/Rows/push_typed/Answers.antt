use Rattle.std.proofs.Common.{refl}
use Rattle.rt_rows.specs.Views.{operation_typed}
use Rattle.rt_rows.proofs.rows.Rows.push_typed.Goals as goal

pub returns-clause-there : goal.returns-clause-there
returns-clause-there c = c.push_row.ensures.there (operation_typed c.args.typed) (λ lists. refl)
