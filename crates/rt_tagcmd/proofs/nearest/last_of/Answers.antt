use Rattle.std.proofs.Common.{◌<◌, arith}
use Rattle.rt_tagcmd.proofs.Walking.{is_last, none_left}
use Rattle.rt_tagcmd.proofs.nearest.last_of.Goals as goal

pub returns-else-count-eq0-clause-some : goal.returns-else-count-eq0-clause-some
returns-else-count-eq0-clause-some c =
    let some : 0 < c.args.count = omega (arith, c.if-count-eq0.false) in
    is_last c.at.result c.args.count c.args.marks.now some c.at.ensures

pub returns-else-count-eq0-clause-none : goal.returns-else-count-eq0-clause-none
returns-else-count-eq0-clause-none c =
    let some : 0 < c.args.count = omega (arith, c.if-count-eq0.false) in
    none_left c.at.result c.args.count c.args.marks.now some c.requires c.at.ensures
