-- What copies of actions are made with.
use Rattle.std.specs.Prelude.{◌+◌, ◌==◌, ◌&&◌, nat_le, Bool}
use Rattle.rt_stamps.specs.declared.stamp.Span.{Span}
use Rattle.rt_stamps.specs.declared.stamp.Stamp.{Stamp}

-- the stamp of the count after a span's last
abbrev pub is_behind_span : Span → Stamp → Bool
is_behind_span span stamp = nat_le span.first span.last && ((stamp.site == span.site) && (stamp.count == span.last + 1))
