use Rattle.std.proofs.Common.{◌≡◌, ◌≤◌, ◌∙◌, false, nat_lt, sym, ap, arith}
use Rattle.std.proofs.lemmas.Bool.Decides.{nat_tests}
use Rattle.rt_oplog.specs.Ends.{end_in}
use Rattle.rt_oplog.specs.Logs.{holds, known_end}
use Rattle.rt_oplog.specs.Kept.{newest_first}
use Rattle.rt_oplog.proofs.Joins.{later_new}
use Rattle.rt_oplog.proofs.log.OpLog.contains.Goals as goal

pub returns-else-prev-get : goal.returns-else-prev-get
returns-else-prev-get c =
    let op = c.args.op.now in
    let set = newest_first c.self.inside.ops.rows c.self.inside.order.items in
    let seen = ap (λ log. log.operations) c.self.view_is in
    let known = c.self.invariant.known op.site in
    let past : known_end set op.site ≤ op.prev = omega (arith, c.if-prev-get.false, c.get.ensures, ap (end_in c.self.inside.ends) c.site.ensures, c.prev.ensures, known) in
    let new = later_new set op c.self.invariant.log past in
    let not : nat_lt c.prev.result c.get.result ≡ false = grind (arith, nat_tests, c.if-prev-get.false) in
    not ∙ sym (ap (λ log. holds log op) (sym seen) ∙ new)
