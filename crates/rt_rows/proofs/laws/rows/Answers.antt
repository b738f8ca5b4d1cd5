use Rattle.rt_rows.specs.Rows.{puts}
use Rattle.rt_rows.proofs.Following.{row_next, row_exact, from_length}
use Rattle.rt_rows.proofs.laws.rows.Goals as goal

pub returns-clause-next : goal.returns-clause-next
returns-clause-next c = row_next

pub returns-clause-exact : goal.returns-clause-exact
returns-clause-exact c = row_exact

pub returns-clause-length : goal.returns-clause-length
returns-clause-length c = λ row. from_length row.start (puts row.start row.after row.tags) 0 row.text
