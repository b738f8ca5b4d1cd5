-- How each version of the operation file is laid out.
use Rattle.std.specs.Prelude.{ℕ, ◌+◌, ◌*◌, ◌^◌, List, codes}
use Rattle.std.specs.Int.{Width, w16, w32, byte_len}
use Rattle.rt_ops.specs.declared.version.Version.{Version}
use Rattle.rt_ops.specs.declared.version.Version.TheVariants.{One, Two}

-- The digit behind the name with which a file begins. How wide the number of a site is. The most tags that an Insert lists.
pub record Layout : Type 0 where
  pub digit : ℕ
  pub site : Width
  pub most_tags : ℕ

abbrev pub layout : Version → Layout
layout One = record { digit = 49; site = w16; most_tags = 64 }
layout Two = record { digit = 50; site = w32; most_tags = 255 }

-- the first seven bytes of a file, before the version
unfoldable pub file_name : List ℕ
file_name = codes "RGATEXT"

-- each number of a site is below this one
abbrev pub sites : Version → ℕ
sites version = 2 ^ (8 * byte_len (layout version).site)

-- the least length that a record may have: kind, count, site and `prev` stand before each body
abbrev pub fewest : Version → ℕ
fewest version = 17 + byte_len (layout version).site
