use Rattle.rt_lines.proofs.Ordered.{first_is_behind}
use Rattle.rt_lines.proofs.laws.ordered_limits.Goals as goal

pub returns : goal.returns
returns c s cells limits stamp position h start = first_is_behind cells limits stamp position h start
