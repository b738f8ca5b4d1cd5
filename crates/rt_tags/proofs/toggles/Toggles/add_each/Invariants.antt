use Rattle.std.proofs.Common.{◌≡◌, ℕ, ◌+◌, ◌≤◌, drop, length}
use Rattle.rt_tags.specs.Toggles.{count_in, count_of, more_tags}
use Rattle.rt_tags.proofs.toggles.Toggles.add_each.Given as goal

abbrev pub invariant-loop-c : goal.invariant-loop-c
invariant-loop-c l =
    ((t : ℕ) → count_of t l.self + count_in t (drop l.c-index l.c-items) ≡ count_of t l.initial.self + count_of t l.other)
    × (length l.self.counts + more_tags (drop l.c-index l.c-items) l.initial.self.counts ≤ length l.initial.self.counts + more_tags l.other.counts l.initial.self.counts)
    × (l.self.capacity ≡ l.initial.self.capacity)
