use Rattle.std.proofs.Common.{arith}
use Rattle.rt_tree.proofs.Adding.{grown}
use Rattle.rt_tree.proofs.Amounts.{same_counts}
use Rattle.rt_tree.proofs.totals.difference.Goals as goal

pub returns : goal.returns
returns c = grown c.args.before c.args.after _ c.requires (same_counts _ _ (omega (arith, c.requires.cells)) (omega (arith, c.requires.visible)) (omega (arith, c.requires.newlines)))
