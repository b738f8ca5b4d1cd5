use Rattle.std.proofs.Common.{arith}
use Rattle.std.proofs.lemmas.Grind.{common_steps}
use Rattle.rt_rga.proofs.new_cells.push_new.Goals as goal

pub loop-ch-preserved : goal.loop-ch-preserved
loop-ch-preserved c = grind (arith, common_steps)
