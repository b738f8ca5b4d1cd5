-- Names of marks and tags, seen as their bytes.
use Rattle.std.specs.Prelude.{ℕ, ◌≤◌, ◌&&◌, nat_le, Bool, List, codes, length, Option, Some, None, if◌then◌else◌}
use Rattle.std.specs.Ordering.{nat_cmp}
use Rattle.std.specs.Cmp.Lexicographic.{slice_cmp}
use Rattle.std.specs.declared.cmp.Ordering.{Ordering}
use Rattle.rt_stamps.specs.declared.fault.Fault.{Fault}
use Rattle.rt_stamps.specs.declared.fault.Fault.TheVariants.{BadName}
use Rattle.rt_stamps.specs.declared.limits.TheConstants.{MOST_NAME_BYTES}

-- one byte or more, and not too many
abbrev pub IsName : List ℕ → Type 0
IsName name = (1 ≤ length name) × (length name ≤ MOST_NAME_BYTES)

-- a number of bytes that a name may have
abbrev pub is_name_length : ℕ → Bool
is_name_length bytes = nat_le 1 bytes && nat_le bytes MOST_NAME_BYTES

-- a word may be the name of a mark or a tag
abbrev pub name_check : List ℕ → Option Fault
name_check name = if is_name_length (length name) then None else Some BadName

-- the tag that is each widget's own: the selection
abbrev pub sel : List ℕ
sel = codes "sel"

-- by their bytes, and of two that begin alike the shorter first
abbrev pub name_order : List ℕ → List ℕ → Ordering
name_order = slice_cmp nat_cmp
