use Rattle.std.proofs.Common.{arith}
use Rattle.rt_marks.specs.Tables.{slots_of}
use Rattle.rt_marks.proofs.Cutting.{behind_already, none_behind, parted_behind}
use Rattle.rt_marks.proofs.table.Table.put_behind.Goals as goal

pub returns-in-Ok-clause-parted : goal.returns-in-Ok-clause-parted
returns-in-Ok-clause-parted c =
    let table = c.args.self.now in
    parted_behind (slots_of table) (slots_of c.swap_slots.new.self) table.by_name.items table.in_order.items c.args.name.now c.in-Ok.slot c.args.kept c.requires.table c.in-Ok.ensures.there c.requires.within c.if-slot-kept.true c.in-Ok.ensures.name c.swap_slots.ensures.slots

pub returns-in_default-clause-parted : goal.returns-in_default-clause-parted
returns-in_default-clause-parted c =
    let table = c.args.self.now in
    behind_already (slots_of table) table.by_name.items table.in_order.items c.args.name.now c.in-Ok.slot c.args.kept c.requires.table c.in-Ok.ensures.there (omega (arith, c.if-slot-kept.false)) c.in-Ok.ensures.name

pub returns-in_default-2-clause-parted : goal.returns-in_default-2-clause-parted
returns-in_default-2-clause-parted c =
    let table = c.args.self.now in
    none_behind (slots_of table) table.by_name.items table.in_order.items c.args.name.now c.args.kept c.requires.table c.in_default.ensures.none
