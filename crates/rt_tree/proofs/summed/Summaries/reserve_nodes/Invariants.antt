use Rattle.std.proofs.Common.{◌≡◌, ℕ, ◌<◌, ◌≤◌, length}
use Rattle.rt_tree.specs.Summaries.{HaveMemory, summary_of}
use Rattle.rt_tree.proofs.summed.Summaries.reserve_nodes.Given as goal

abbrev pub invariant-loop : goal.invariant-loop
invariant-loop l = record {
  memory : HaveMemory l.self;
  same : (i : ℕ) → i < length l.fn.self.each.items → summary_of l.self.each.items i ≡ summary_of l.fn.self.each.items i;
  many : length l.self.each.items ≡ l.counter;
  kept : length l.fn.self.each.items ≤ length l.self.each.items;
  tags : l.self.tags ≡ l.fn.self.tags;
}
