use Rattle.rt_marks.specs.Tables.{slots_of}
use Rattle.rt_marks.proofs.Removing.{each_slot, inserted_table}
use Rattle.rt_marks.proofs.table.Table.inserted.Goals as goal

pub insert_places-requires : goal.insert_places-requires
insert_places-requires c = each_slot _ (slots_of c.args.self.now) c.args.self.now.in_order.items c.requires.table.order_once c.requires.fits

pub returns-clause-table : goal.returns-clause-table
returns-clause-table c = (inserted_table (slots_of c.args.self.now) _ c.args.self.now.by_name.items c.args.self.now.in_order.items c.args.place c.args.n c.requires.table c.insert_places.ensures).0

pub returns-clause-marks : goal.returns-clause-marks
returns-clause-marks c = (inserted_table (slots_of c.args.self.now) _ c.args.self.now.by_name.items c.args.self.now.in_order.items c.args.place c.args.n c.requires.table c.insert_places.ensures).1
