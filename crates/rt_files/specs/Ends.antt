-- The last counts that are known of sites, as bytes.
use Rattle.std.specs.Prelude.{◌≡◌, ◌*◌, ◌<◌, ◌^◌, ℕ, List, ◌++◌, length, unwrap_or}
use Rattle.std.specs.List.{AllByRecursion}
use Rattle.std.specs.BTreeMap.{is_at}
use Rattle.std.specs.Int.{to_be_bytes, w32, w64}
use Rattle.std.specs.List.{flat_map}
use Rattle.std.specs.List.Sorted.{IsStrictlySortedBy}
use Rattle.std.specs.Map.{keys_of, lookup}
use Rattle.std.specs.Ordering.{nat_cmp}

-- the number of a site and a count, the highest byte first
abbrev pub end_bytes : ℕ × ℕ → List ℕ
end_bytes end = to_be_bytes w32 end.0 ++ to_be_bytes w64 end.1

abbrev pub ends_bytes : List (ℕ × ℕ) → List ℕ
ends_bytes ends = flat_map end_bytes ends

-- Bytes spell counts, each of 64 bits and of the number of a site of 32.
pub record SpellEnds (bytes : List ℕ) (ends : List (ℕ × ℕ)) : Type 0 where
  pub fit : AllByRecursion (λ end. (end.0 < 2 ^ 32) × (end.1 < 2 ^ 64)) ends
  pub spelled : bytes ≡ ends_bytes ends

-- they spell none: those of each would be twelve
abbrev pub SpellNoEnds : List ℕ → Type 0
SpellNoEnds bytes = (n : ℕ) → length bytes ≡ n * 12 → ⊥

-- the count that is known of a site: the first one that is told of it, 0 where none is
abbrev pub known_by : List (ℕ × ℕ) → ℕ → ℕ
known_by ends site = unwrap_or (lookup (is_at (nat_cmp site)) ends) 0

-- the numbers of their sites rise, so none stands twice
abbrev pub AreBySite : List (ℕ × ℕ) → Type 0
AreBySite ends = IsStrictlySortedBy nat_cmp (keys_of ends)
