use Rattle.std.proofs.Common.{◌++◌, [], append-nil, subst, sym}
use Rattle.rt_tree.specs.Summaries.{IsSummary}
use Rattle.rt_tree.proofs.Reaching.{shown_gone, shown_here}
use Rattle.rt_tree.proofs.gather.add_run.Goals as goal

pub returns-then-run-clause-added : goal.returns-then-run-clause-added
returns-then-run-clause-added c xs was =
    subst (λ l. IsSummary c.args.states.now (xs ++ l) c.args.summary.now) (sym (shown_gone c.args.run.now [] c.if-run.true)) (subst (λ l. IsSummary c.args.states.now l c.args.summary.now) (sym (append-nil xs)) was)

pub returns-clause-added : goal.returns-clause-added
returns-clause-added c xs was =
    subst (λ l. IsSummary c.args.states.now (xs ++ l) c.push.new.self) (sym (shown_here c.args.run.now [] c.if-run.false)) (c.push.ensures.pushed xs was)
