use Rattle.std.proofs.Common.{◌≡◌, ℕ, ◌<◌, ◌≤◌, length}
use Rattle.rt_tree.specs.Summaries.{TellsAs, room_at, summary_of}
use Rattle.rt_tree.proofs.summed.reserve_each.Given as goal

abbrev pub invariant-loop-id : goal.invariant-loop-id
invariant-loop-id l = record {
  same : (i : ℕ) → TellsAs (summary_of l.fn.each i) (summary_of l.each i);
  many : length l.each ≡ length l.fn.each;
  done : (i : ℕ) → i < l.id → l.tags ≤ room_at l.each i;
  kept : (i : ℕ) → room_at l.fn.each i ≤ room_at l.each i;
}
