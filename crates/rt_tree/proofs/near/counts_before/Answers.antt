use Rattle.std.proofs.Common.{Option, subst}
use Rattle.std.specs.Prelude.{IfSome}
use Rattle.rt_tree.specs.declared.walk.Found.{Found}
use Rattle.rt_tree.specs.Holds.{Holds}
use Rattle.rt_tree.proofs.Ends.{kept_front}
use Rattle.rt_tree.proofs.near.counts_before.Goals as goal

pub returns-then-found-spot-2 : goal.returns-then-found-spot-2
returns-then-found-spot-2 c =
    let m = c.args.mem.now in let r = c.args.root.index in let f = c.in-Some.found in
    let held = subst (λ (o : Option Found). IfSome o (Holds m r)) c.in-Some.is c.requires.held in
    kept_front m r c.args.spot f.spot f.run f.before held c.if-found-spot.true c.if-found-spot-2.true
