use Rattle.std.proofs.Common.{arith}
use Rattle.rt_tree.proofs.Ends.{next_spot}
use Rattle.rt_tree.proofs.Puts.{spot_within}
use Rattle.rt_tree.proofs.put.spot_behind.Goals as goal

pub next_entry-requires-clause-node : goal.next_entry-requires-clause-node
next_entry-requires-clause-node c =
    let end = c.requires.end in let same = c.requires.tree.shape.same in
    (end.is.is, omega (arith, end.is.is, same))

pub next_entry-requires-clause-within : goal.next_entry-requires-clause-within
next_entry-requires-clause-within c =
    let spot = c.args.end in let end = c.requires.end in
    spot_within c.args.mem.now c.args.root.index end.place spot.leaf.index spot.entry spot.offset end.run end.is

pub returns-in-Some : goal.returns-in-Some
returns-in-Some c =
    let e = c.in-Some.ensures in
    (e.run.0, next_spot c.args.mem.now c.args.root.index c.args.at c.args.end c.in-Some.entry e.run.0 c.requires.end e.next e.run.1 e.run.2)
