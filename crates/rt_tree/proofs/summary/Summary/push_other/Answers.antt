use Rattle.std.proofs.Common.{Some, refl}
use Rattle.rt_tree.proofs.Gathering.{pushed_summary}
use Rattle.rt_tree.proofs.summary.Summary.push_other.Goals as goal

pub returns-clause-pushed : goal.returns-clause-pushed
returns-clause-pushed c xs was =
    pushed_summary c.args.states.now xs c.args.state c.args.self.now (record { first = c.either-self.result; last = Some c.args.state; counts = c.add_border.new.self }) was
    c.either-self.ensures refl c.add_border.ensures.given c.add_border.ensures.others
