use Rattle.rt_tree.proofs.Twice.{pushed_twice}
use Rattle.rt_tree.proofs.summary.Summary.push.Goals as goal

pub returns-then-ends_in-clause-pushed : goal.returns-then-ends_in-clause-pushed
returns-then-ends_in-clause-pushed c xs was = pushed_twice c.args.states.now xs c.args.state c.args.self.now (c.ends_in.ensures c.if-ends_in.true) was
