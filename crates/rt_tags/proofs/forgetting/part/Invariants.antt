use Rattle.std.proofs.Common.{◌≡◌, ◌≤◌, Bool, List, ℕ, drop, filter, length, map, not, take}
use Rattle.rt_tags.specs.Seen.{names_of}
use Rattle.rt_tags.specs.Tags.{HaveNoRepeats, is_listed}
use Rattle.rt_tags.proofs.forgetting.part.Given as goal

abbrev pub invariant-loop-place : goal.invariant-loop-place
invariant-loop-place l = record {
  kept : l.kept ≤ l.place;
  len : length (names_of l.names) ≡ length (names_of l.fn.names);
  differ : HaveNoRepeats (names_of l.names);
  front : (test : List ℕ → Bool) → l.marks ≡ map test (names_of l.fn.names)
      → take l.kept (names_of l.names) ≡ filter (λ x. not (test x)) (take l.place (names_of l.fn.names));
  behind : drop l.place (names_of l.names) ≡ drop l.place (names_of l.fn.names);
  same : (name : List ℕ) → is_listed name (names_of l.names) ≡ is_listed name (names_of l.fn.names);
}
