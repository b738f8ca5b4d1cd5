use Rattle.std.proofs.Common.{◌<◌, length, arith, rules}
use Rattle.std.proofs.lemmas.List.{length-map}
use Rattle.rt_nodes.specs.Rows.{row_items}
use Rattle.rt_nodes.proofs.Rows.{AreRows-at, is_at}
use Rattle.rt_nodes.proofs.memory.NodeMem.len.Goals as goal

pub returns-clause-fits : goal.returns-clause-fits
returns-clause-fits g c =
    let rs = c.self.inside.rows.items in let asked = rw (← c.self.view_is) at c.requires in
    let lt : c.args.id.index < length rs = omega (arith, asked.1, length-map rs row_items) in
    let had = AreRows-at g.row.CAP rs c.args.id.index c.self.invariant.rows_fit lt in
    let is = is_at rs c.args.id.index c.index.result.now lt c.index.ensures in
    let fits = rw (← is) at had.fits in
    search (rules, fits)
