-- Places in their order, as a log sees them, and how they are kept.
use Rattle.std.specs.Prelude.{◌≡◌, ◌+◌, ◌≤◌, length, vec_len, vec_capacity}
use Rattle.rt_oplog.specs.declared.order.Order.TheInside.{Inside}
use Rattle.rt_oplog.specs.Blocks.{AreHalfFull, places_in_blocks, room_of, runs_of}
use Rattle.rt_oplog.specs.Spares.{AreSpare}
use Rattle.rt_oplog.specs.Places.{Places}

abbrev pub places_of : Inside → Places
places_of o = record { items = places_in_blocks o.blocks.items; room = room_of (vec_len o.spare) (vec_len o.blocks) (runs_of o.blocks.items) o.len }

pub record IsOrdered (o : Inside) : Type 0 where
  pub len : o.len ≡ length (places_in_blocks o.blocks.items)
  pub half : AreHalfFull o.blocks.items
  pub spares : AreSpare o.spare.items
  pub free : vec_len o.blocks + vec_len o.spare ≤ vec_capacity o.blocks
