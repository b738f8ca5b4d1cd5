use Rattle.std.proofs.Common.{subst}
use Rattle.std.specs.Prelude.{IfSome}
use Rattle.rt_tree.specs.Holds.{Holds}
use Rattle.rt_tree.proofs.Holding.{spot_held}
use Rattle.rt_tree.proofs.Stands.{stands}
use Rattle.rt_tree.proofs.near.found_near.Goals as goal

pub known-requires-clause-held : goal.known-requires-clause-held
known-requires-clause-held c = subst (λ o. IfSome o (Holds c.args.mem.now c.args.root.index)) c.in-Some.is c.requires.held

pub returns-in-Some-known-clause-run : goal.returns-in-Some-known-clause-run
returns-in-Some-known-clause-run c =
    let f = c.in-Some-known.there in let e = c.in-Some-known.ensures in
    stands c.args.mem.now c.args.root.index c.requires.tree c.args.by c.args.place f.spot.leaf.index f.spot.entry f.spot.offset f.run f.before e.spot e.held.before

pub returns-clause-run : goal.returns-clause-run
returns-clause-run c =
    let f = c.descend_by.result in
    stands c.args.mem.now c.args.root.index c.requires.tree c.args.by c.args.place f.spot.leaf.index f.spot.entry f.spot.offset f.run f.before c.descend_by.ensures.spot c.descend_by.ensures.before

pub returns-clause-held : goal.returns-clause-held
returns-clause-held c =
    let f = c.descend_by.result in
    spot_held c.args.mem.now c.args.root.index c.args.by c.args.place f.spot.leaf.index f.spot.entry f.spot.offset f.run f.before c.descend_by.ensures.spot c.descend_by.ensures.before
