use Rattle.std.proofs.Common.{◌∙◌, ap, sym, arith, length}
use Rattle.rt_ops.specs.Operations.{stamp_of}
use Rattle.rt_rows.specs.Places.{nothing}
use Rattle.rt_rows.specs.Listed.{KeptRow, names_at}
use Rattle.rt_rows.specs.Rows.{puts, stamp_in}
use Rattle.rt_rows.proofs.Following.{from_past, row_stamp}
use Rattle.rt_rows.proofs.row.Row.stamp_at.Goals as goal

pub returns-then-place-len : goal.returns-then-place-len
returns-then-place-len c lists =
    let row : KeptRow = c.args.self.now in
    let text = ap (λ (r : KeptRow). length r.text) c.self.view_is in
    c.stamp_at.ensures ∙ ap (λ (r : KeptRow). stamp_in r.start c.args.place) c.self.view_is
    ∙ row_stamp row.start (puts row.start row.after (names_at lists row.list)) row.text c.args.place nothing (omega (arith, c.if-place-len.true, c.len.ensures.value, text))

pub returns-else-place-len : goal.returns-else-place-len
returns-else-place-len c lists =
    let row : KeptRow = c.args.self.now in
    let text = ap (λ (r : KeptRow). length r.text) c.self.view_is in
    ap stamp_of (sym (from_past row.start (puts row.start row.after (names_at lists row.list)) 0 row.text c.args.place nothing
    (omega (arith, c.if-place-len.false, c.len.ensures.value, text))))
