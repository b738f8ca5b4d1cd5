use Rattle.std.proofs.Common.{◌≡◌, ◌++◌, ◌<◌, ◌^◌, ℕ, List, length, unwrap_or}
use Rattle.std.specs.List.{AllByRecursion}
use Rattle.std.specs.BTreeMap.{get}
use Rattle.std.specs.Ordering.{nat_cmp}
use Rattle.rt_files.specs.Ends.{ends_bytes, known_by}
use Rattle.rt_files.proofs.ends.ends_of_bytes.Given as goal

abbrev pub decreases-loop-left : goal.decreases-loop-left
decreases-loop-left l = length l.left

-- what is behind the bytes that are left spells counts, which the map has
abbrev pub invariant-loop-left : goal.invariant-loop-left
invariant-loop-left l = record {
  ends : List (ℕ × ℕ);
  fit : AllByRecursion (λ end. (end.0 < 2 ^ 32) × (end.1 < 2 ^ 64)) ends;
  whole : l.fn.bytes ≡ l.left ++ ends_bytes ends;
  known : (site : ℕ) → unwrap_or (get nat_cmp l.ends site) 0 ≡ known_by ends site;
}
