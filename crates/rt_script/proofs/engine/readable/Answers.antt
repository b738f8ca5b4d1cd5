use Rattle.std.proofs.Common.{arith}
use Rattle.rt_script.proofs.RunLaws.{readable_text, unreadable_text}
use Rattle.rt_script.proofs.engine.readable.Goals as goal

pub returns-in-Ok : goal.returns-in-Ok
returns-in-Ok c = (readable_text c.args.line.now (omega arith) c.in-Ok.ensures.cases.1, c.in-Ok.ensures.cases.0)

pub returns-in-Err : goal.returns-in-Err
returns-in-Err c = unreadable_text c.args.line.now c.in-Err.ensures.cases.0
