-- What a handle owns: a box of what is kept of a site.
use base.Fml.{Fml, ftrue}
use base.Stored.{Coded}
use denote.RawPtr.{Ptr}
use Rattle.std.specs.Prelude.{Option, None, Some}
use Rattle.std.specs.Coded.{coded_option}
use Rattle.std.specs.Box.Ownership.{box_owns}
use Rattle.std.specs.Global.{Global}
use Rattle.std_heap.specs.contracts.GlobalAllocator.TheImpl.{ghosts}
use Rattle.rt_script.specs.contracts.line_site.LineSite.{the_row}
use Rattle.rt_script.specs.LineSite.{LineSiteValue}

abbrev pub kept_owns : Global → Ptr → LineSiteValue → Fml
kept_owns alloc = box_owns (ghosts.dealloc_token alloc) the_row

abbrev pub kept_coded : Coded LineSiteValue
kept_coded = the_row.coded

-- a slot owns such a box, or nothing
abbrev pub slot_owns : Global → Ptr → Option LineSiteValue → Fml
slot_owns alloc at None = ftrue
slot_owns alloc at (Some held) = kept_owns alloc at held

abbrev pub slot_coded : Coded (Option LineSiteValue)
slot_coded = coded_option kept_coded
