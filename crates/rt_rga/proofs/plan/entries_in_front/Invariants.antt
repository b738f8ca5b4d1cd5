use Rattle.std.proofs.Common.{◌≡◌, ◌++◌, drop, map}
use Rattle.std.specs.List.{take_while}
use Rattle.rt_stamps.specs.Stamps.{is_same}
use Rattle.rt_rga.proofs.plan.entries_in_front.Given as goal

abbrev pub invariant-loop-n : goal.invariant-loop-n
invariant-loop-n l =
    l.entries.items ++ map (λ n. n.entry) (take_while (λ n. is_same n.stamp l.stamp) (drop l.n-index l.named)) ≡ map (λ n. n.entry) (take_while (λ n. is_same n.stamp l.stamp) l.named)
