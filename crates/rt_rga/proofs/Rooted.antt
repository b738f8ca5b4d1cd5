-- Characters that are a tree.
use Rattle.std.specs.Prelude.{◌≡◌, true, ◌⊎◌, List, [], ◌∷◌}
use Rattle.std.specs.List.{AllByRecursion}
use Rattle.rt_stamps.specs.declared.stamp.TheConstants.{ROOT}
use Rattle.rt_stamps.specs.Stamps.{is_before}
use Rattle.rt_rga.specs.Reading.{Character, has_stamp}

abbrev pub IsAscending : List Character → Type 0
IsAscending [] = Unit {0}
IsAscending (c ∷ greater) = AllByRecursion (λ d. is_before c.stamp d.stamp ≡ true) greater × IsAscending greater

-- a child is greater than its left element, which is a character or the root
pub record IsRooted (characters : List Character) (c : Character) : Type 0 where
  pub greater : is_before c.left c.stamp ≡ true
  pub known : (has_stamp characters c.left ≡ true) ⊎ (c.left ≡ ROOT)

-- characters by rising stamp, each of which is reached from the root
pub record IsTree (characters : List Character) : Type 0 where
  pub ascending : IsAscending characters
  pub rooted : AllByRecursion (IsRooted characters) characters
