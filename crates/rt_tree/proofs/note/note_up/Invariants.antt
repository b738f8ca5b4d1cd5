use Rattle.std.proofs.Common.{◌≡◌, ℕ, ◌+◌, ◌-◌, ◌<◌, ◌≤◌, length}
use Rattle.rt_tags.specs.Borders.{first, last}
use Rattle.rt_tree.specs.Changes.{above}
use Rattle.rt_tree.specs.Shape.{level_of}
use Rattle.rt_tree.specs.Summaries.{shown_before, shown_behind, summary_of}
use Rattle.rt_tree.proofs.Noting.{AreRightBelow}
use Rattle.rt_tree.proofs.note.note_up.Given as goal

abbrev pub invariant-loop-level : goal.invariant-loop-level
invariant-loop-level l = record {
  low : l.level ≤ l.top.height;
  at : l.node.index ≡ above l.mem l.level l.fn.restated.place.leaf.index;
  before : l.around.before ≡ last (shown_before l.mem l.level l.fn.restated.place.leaf.index l.fn.restated.place.entry);
  after : l.around.after ≡ first (shown_behind l.mem l.level l.fn.restated.place.leaf.index l.fn.restated.place.entry);
  right : AreRightBelow l.mem l.states l.each (l.level + 1);
  rest : (c : ℕ) → c < length l.mem.heads → l.level < level_of l.mem c → summary_of l.each c ≡ summary_of l.fn.each c;
  many : length l.each ≡ length l.fn.each;
  memory : (c : ℕ) → (summary_of l.each c).counts.capacity ≡ (summary_of l.fn.each c).counts.capacity;
  minus : l.minus.capacity ≡ l.fn.minus.capacity;
  plus : l.plus.capacity ≡ l.fn.plus.capacity;
}

abbrev pub decreases-loop-level : goal.decreases-loop-level
decreases-loop-level l = l.top.height - l.level
