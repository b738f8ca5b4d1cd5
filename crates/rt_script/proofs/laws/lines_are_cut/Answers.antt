use Rattle.rt_script.proofs.CutLines.{are_lines}
use Rattle.rt_script.proofs.laws.lines_are_cut.Goals as goal

pub returns : goal.returns
returns c = are_lines
