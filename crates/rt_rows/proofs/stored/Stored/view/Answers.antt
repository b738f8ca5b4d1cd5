use Rattle.std.proofs.Common.{ap, arith, length}
use Rattle.rt_rows.specs.Listed.{names_at}
use Rattle.rt_rows.specs.Rows.{deletes, puts}
use Rattle.rt_rows.specs.Stored.{operations_stored}
use Rattle.rt_rows.proofs.Following.{from_length}
use Rattle.rt_rows.proofs.stored.Stored.view.Goals as goal

pub view-requires : goal.view-requires
view-requires c =
    let row = c.in-Typed.row in
    let all = ap (λ e. length (operations_stored c.args.lists.now.lists e)) c.in-Typed.is in
    omega (arith, c.requires, all, from_length row.start (puts row.start row.after (names_at c.args.lists.now.lists row.list)) 0 row.text)

pub view-requires-in-Deleted : goal.view-requires-in-Deleted
view-requires-in-Deleted c =
    let row = c.in-Deleted.row in
    let all = ap (λ e. length (operations_stored c.args.lists.now.lists e)) c.in-Deleted.is in
    omega (arith, c.requires, all, from_length row.start deletes 0 row.spans)
