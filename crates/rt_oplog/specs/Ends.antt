-- The known ends of sites, as they are kept.
use Rattle.std.specs.Prelude.{ℕ, ◌-◌, ◌^◌, ◌==◌, Bool, not, Option, Some, None, List, [], ◌∷◌, min, if◌then◌else◌}
use Rattle.rt_spans.specs.Shown.{SpanMapValue, value_of}
use Rattle.rt_oplog.specs.declared.ends.Ends.{Ends}
use Rattle.rt_oplog.specs.declared.ends.SiteEnd.{SiteEnd}

-- what a map has at a site's stamp of count 0, or 0
abbrev pub end_found : Option ℕ → ℕ
end_found (Some last) = last
end_found None = 0

abbrev pub end_kept : SpanMapValue ℕ → ℕ → ℕ
end_kept ends site = end_found (value_of ends (record { count = 0; site = site }))

-- the end of a site: of those at hand its first one, else the one that is kept
abbrev pub end_at_hand : List SiteEnd → SpanMapValue ℕ → ℕ → ℕ
end_at_hand [] others site = end_kept others site
end_at_hand (end ∷ recent) others site = if end.site == site then end.last else end_at_hand recent others site

abbrev pub end_in : Ends → ℕ → ℕ
end_in ends site = end_at_hand ends.recent ends.others site

abbrev pub is_of_another : ℕ → SiteEnd → Bool
is_of_another site end = not (end.site == site)

-- so many more sites take no memory, of all that there are
abbrev pub room_for : Ends → ℕ
room_for ends = min ends.others.room (2 ^ 32 - 1)
