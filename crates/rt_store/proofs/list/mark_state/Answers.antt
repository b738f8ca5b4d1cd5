use Rattle.std.proofs.Common.{arith, rules}
use Rattle.std.proofs.lemmas.Grind.{common_steps}
use Rattle.std.proofs.lemmas.List.Edits.{map_over_more}
use Rattle.rt_store.specs.Cells.{state_in}
use Rattle.rt_store.proofs.list.mark_state.Goals as goal

pub loop-i-preserved : goal.loop-i-preserved
loop-i-preserved c = record {
  items = first_of (search (rules, map_over_more (state_in c.args.span c.args.state)), grind (arith, common_steps, map_over_more));
  len = first_of (search rules, omega arith);
  capacity = first_of (search rules, omega arith);
}
