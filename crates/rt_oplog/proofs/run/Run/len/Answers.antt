use Rattle.std.proofs.Common.{arith}
use Rattle.rt_oplog.proofs.InRuns.{length_of}
use Rattle.rt_oplog.proofs.run.Run.len.Goals as goal

pub returns : goal.returns
returns c = omega (arith, length_of c.args.self)
