-- Writes that come into a state at once, by the numbers of their tags.
use Rattle.std.specs.Prelude.{◌≡◌, ◌==◌, ℕ, ◌≤◌, ◌%◌, Bool, List, [], ◌∷◌, true, not, ◌&&◌, map, filter, Option, Some, None, is_some, if◌then◌else◌}
use Rattle.std.specs.List.{AllByRecursion}
use Rattle.rt_tags.specs.declared.nodes.Setting.{Setting}
use Rattle.rt_tags.specs.declared.states.TagEntry.{TagEntry}
use Rattle.rt_tags.specs.SharedStates.{half, is_setting_kept}

-- a tag's setting after a write of it: the greater writer stays
abbrev pub newer_setting : Option Setting → TagEntry → Option Setting
newer_setting setting e = if is_setting_kept setting e.writer then setting else Some (record { writer = e.writer; on = e.on })

-- a tag's setting after writes, one after the other
abbrev pub setting_after : List TagEntry → ℕ → Option Setting → Option Setting
setting_after [] t setting = setting
setting_after (e ∷ writes) t setting = setting_after writes t (if e.tag == t then newer_setting setting e else setting)

-- a write of a part, of half the number
abbrev pub halved : TagEntry → TagEntry
halved e = record { tag = half e.tag; writer = e.writer; on = e.on }

-- a write goes into the part of the odd tags, whose remainder is 1, or of the even ones: its tag isn't the one on top
abbrev pub goes_into : ℕ → ℕ → TagEntry → Bool
goes_into remainder top e = e.tag % 2 == remainder && not (e.tag == top)

abbrev pub part_writes : ℕ → ℕ → List TagEntry → List TagEntry
part_writes remainder top writes = map halved (filter (goes_into remainder top) writes)

-- writes in three: those of the least tag leave its setting, and those of the other odd and even tags go into the parts
pub record IsSplit (writes : List TagEntry) (top : ℕ) (setting : Option Setting) (odds evens : List TagEntry) : Type 0 where
  pub least : AllByRecursion (λ e. top ≤ e.tag) writes
  pub there : is_some setting ≡ true
  pub left : setting ≡ setting_after writes top None
  pub in_odds : odds ≡ part_writes 1 top writes
  pub in_evens : evens ≡ part_writes 0 top writes
