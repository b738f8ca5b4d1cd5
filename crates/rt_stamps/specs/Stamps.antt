-- Stamps and their order.
use Rattle.std.specs.Prelude.{◌==◌, ◌&&◌, ◌||◌, nat_lt, Bool, if◌then◌else◌}
use Rattle.rt_stamps.specs.declared.stamp.Stamp.{Stamp}

-- by count, and at one count by site
abbrev pub is_before : Stamp → Stamp → Bool
is_before a b = nat_lt a.count b.count || ((a.count == b.count) && nat_lt a.site b.site)

abbrev pub is_same : Stamp → Stamp → Bool
is_same a b = (a.count == b.count) && (a.site == b.site)

-- a stamp, or the newer one of the character that came back under it
abbrev pub replaced : Stamp → Stamp → Stamp → Stamp
replaced former newer stamp = if is_same stamp former then newer else stamp
