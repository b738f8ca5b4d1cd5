use Rattle.std.proofs.Common.{ℕ, arith, rules}
use Rattle.std.proofs.lemmas.Grind.{common_steps}
use Rattle.std.proofs.lemmas.List.Edits.{map_over_more}
use Rattle.rt_store.specs.Cells.{gone_in}
use Rattle.rt_store.proofs.list.mark_gone.Goals as goal

pub loop-i-preserved : goal.loop-i-preserved
loop-i-preserved c = record {
  items = first_of (search (rules, map_over_more (gone_in {T = ℕ} c.args.span)), grind (arith, common_steps, map_over_more));
  len = first_of (search rules, omega arith);
  capacity = first_of (search rules, omega arith);
}
