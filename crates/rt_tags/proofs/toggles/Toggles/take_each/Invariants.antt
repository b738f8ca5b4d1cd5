use Rattle.std.proofs.Common.{◌≡◌, ℕ, ◌+◌, ◌≤◌, drop, length}
use Rattle.rt_tags.specs.Toggles.{count_in, count_of}
use Rattle.rt_tags.proofs.toggles.Toggles.take_each.Given as goal

abbrev pub invariant-loop-c : goal.invariant-loop-c
invariant-loop-c l =
    ((t : ℕ) → count_of t l.self + count_of t l.other ≡ count_of t l.initial.self + count_in t (drop l.c-index l.c-items))
    × (length l.self.counts ≤ length l.initial.self.counts)
    × (l.self.capacity ≡ l.initial.self.capacity)
