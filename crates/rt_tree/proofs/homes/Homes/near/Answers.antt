use Rattle.std.proofs.Common.{subst}
use Rattle.std.specs.Prelude.{IfSome}
use Rattle.rt_tree.specs.Holds.{Holds}
use Rattle.rt_tree.proofs.Stands.{parted}
use Rattle.rt_tree.proofs.homes.Homes.near.Goals as goal

pub returns-clause-home : goal.returns-clause-home
returns-clause-home c =
    let m = c.args.mem.now in let r = c.args.root.index in let f = c.in_ok-found.found in
    let held = subst (λ o. IfSome o (Holds m r)) c.in_ok-found.was c.requires.held in
    parted m r c.requires.tree f.spot.leaf.index f.spot.entry f.run f.before held.is held.low held.here held.before
