use Rattle.std.proofs.Common.{sym}
use Rattle.rt_revert.proofs.Positions.{held_found, held_none}
use Rattle.rt_revert.proofs.named.push_position.Goals as goal

pub returns-in_ok-push-in-Some-clause-ok : goal.returns-in_ok-push-in-Some-clause-ok
returns-in_ok-push-in-Some-clause-ok g c at =
    held_found (g.S.TextStore.list c.args.store.now) c.args.positions.now.items c.push.new.self.items c.in-Some.position c.args.stamp at c.requires.distinct (sym c.in-Some.ensures) c.in_ok-push-in-Some.ensures.items

pub returns-in-None-clause-ok : goal.returns-in-None-clause-ok
returns-in-None-clause-ok g c at = held_none (g.S.TextStore.list c.args.store.now) c.args.positions.now.items c.args.stamp at (sym c.in-None.ensures)
