-- what the slot holds is what its parts have
use Rattle.std.specs.Prelude.{Option, None, Some}
use Rattle.rt_script.specs.LineSite.{LineSiteValue, new_line_site}
use Rattle.peertext_c.proofs.handle.Handle.take.Given as goal

abbrev held_of : Option LineSiteValue → LineSiteValue
held_of None = new_line_site 1 1
held_of (Some held) = held

abbrev pub ghost-into_parts : goal.ghost-into_parts
ghost-into_parts a = held_of a.self.value
