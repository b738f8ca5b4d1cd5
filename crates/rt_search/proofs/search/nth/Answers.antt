use Rattle.std.proofs.Common.{◌+◌, ◌-◌, sym}
use Rattle.rt_search.proofs.Orders.{backwards_at, forwards_at}
use Rattle.rt_search.proofs.search.nth.Goals as goal

pub returns-in-Forwards-clause-place : goal.returns-in-Forwards-clause-place
returns-in-Forwards-clause-place c = rw c.in-Forwards.is (sym (forwards_at c.args.stretch c.args.index (c.args.stretch.begin + c.args.index) c.requires))

pub returns-in-Backwards-clause-place : goal.returns-in-Backwards-clause-place
returns-in-Backwards-clause-place c = rw c.in-Backwards.is (sym (backwards_at c.args.stretch c.args.index (c.args.stretch.end - 1 - c.args.index) c.requires))
