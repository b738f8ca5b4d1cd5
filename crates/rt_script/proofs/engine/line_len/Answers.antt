use Rattle.rt_script.proofs.LinesLaws.{newline_first, newline_nowhere}
use Rattle.rt_script.proofs.engine.line_len.Goals as goal

pub returns-in-Some : goal.returns-in-Some
returns-in-Some c = newline_first c.args.bytes.now c.in-Some.len c.in-Some.ensures

pub returns-in-None : goal.returns-in-None
returns-in-None c = newline_nowhere c.args.bytes.now c.in-None.ensures
