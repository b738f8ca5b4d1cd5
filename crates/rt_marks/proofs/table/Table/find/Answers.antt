use Rattle.std.proofs.Common.{◌≡◌, ◌∙◌, ◌<◌, Some, ap, sym, length, get_or}
use Rattle.std.proofs.lemmas.Option.{slice_get-get_or}
use Rattle.rt_marks.specs.Seen.{in_slot, no_mark}
use Rattle.rt_marks.specs.Tables.{slots_of}
use Rattle.rt_marks.proofs.Searching.{named_at, none_named}
use Rattle.rt_marks.proofs.Tables.{slot_there}
use Rattle.rt_marks.proofs.table.Table.find.Goals as goal

pub returns-in-Ok : goal.returns-in-Ok
returns-in-Ok c =
    let table = c.args.self.now in
    let slot = c.index.result.now in
    let at : slot ≡ get_or table.by_name.items c.in-Ok.rank slot = c.index.ensures in
    let there : slot < length (slots_of table) = slot_there (slots_of table) table.by_name.items c.in-Ok.rank slot c.requires.names_once c.in-Ok.ensures.bound at in
    c.mark_in.ensures ∙ slice_get-get_or (slots_of table) slot no_mark there ∙ ap (λ v. Some (in_slot (slots_of table) v)) at
    ∙ sym (named_at c.args.name.now (slots_of table) table.by_name.items table.in_order.items c.in-Ok.rank slot c.requires c.in-Ok.ensures.bound (c.in-Ok.ensures.found slot))

pub returns-in-Err : goal.returns-in-Err
returns-in-Err c = sym (none_named c.args.name.now (slots_of c.args.self.now) c.args.self.now.by_name.items c.args.self.now.in_order.items c.in-Err.field-0 c.requires c.in-Err.ensures.gap)
