use Rattle.std.proofs.Common.{◌≡◌, ◌∙◌, Some, ap, sym, get_or}
use Rattle.rt_marks.specs.Seen.{in_slot}
use Rattle.rt_marks.specs.Tables.{slots_of}
use Rattle.rt_marks.proofs.Searching.{named_at, none_named}
use Rattle.rt_marks.proofs.Tables.{slot_there}
use Rattle.rt_marks.proofs.table.Table.find_slot.Goals as goal

pub returns-in-Ok-clause-there : goal.returns-in-Ok-clause-there
returns-in-Ok-clause-there c =
    let table = c.args.self.now in
    slot_there (slots_of table) table.by_name.items c.in-Ok.rank c.index.result.now c.requires.names_once c.in-Ok.ensures.bound c.index.ensures

pub returns-in-Ok-clause-mark : goal.returns-in-Ok-clause-mark
returns-in-Ok-clause-mark c =
    let table = c.args.self.now in
    let slot = c.index.result.now in
    let at : slot ≡ get_or table.by_name.items c.in-Ok.rank slot = c.index.ensures in
    named_at c.args.name.now (slots_of table) table.by_name.items table.in_order.items c.in-Ok.rank slot c.requires c.in-Ok.ensures.bound (c.in-Ok.ensures.found slot) ∙ ap (λ v. Some (in_slot (slots_of table) v)) (sym at)

pub returns-in-Ok-clause-name : goal.returns-in-Ok-clause-name
returns-in-Ok-clause-name c =
    let table = c.args.self.now in
    let slot = c.index.result.now in
    let at : slot ≡ get_or table.by_name.items c.in-Ok.rank slot = c.index.ensures in
    ap (λ v. (in_slot (slots_of table) v).name) at ∙ c.in-Ok.ensures.found slot

pub returns-in-Err-clause-none : goal.returns-in-Err-clause-none
returns-in-Err-clause-none c = none_named c.args.name.now (slots_of c.args.self.now) c.args.self.now.by_name.items c.args.self.now.in_order.items c.in-Err.gap c.requires c.in-Err.ensures.gap
