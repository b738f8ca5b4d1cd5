use Rattle.std.proofs.Common.{rules}
use Rattle.std.proofs.lemmas.Fn.{filter_same}
use Rattle.rt_marks.specs.Tables.{slots_of}
use Rattle.rt_marks.proofs.Cutting.{cut_indexed, cut_view}
use Rattle.rt_marks.proofs.Tables.{seen_cut}
use Rattle.rt_marks.proofs.table.Table.cut.Goals as goal

pub returns-clause-table : goal.returns-clause-table
returns-clause-table c =
    let table = c.args.self.now in
    cut_indexed (slots_of table) _ table.by_name.items _ table.in_order.items _ c.args.kept c.requires.table c.requires.within
    (seen_cut c.args.kept table.marks.items c.truncate.new.self.items c.truncate.ensures.items)
    (filter_same _ _ _ (λ x b f' k. search rules) _ _ c.retain.ensures.filtered) (filter_same _ _ _ (λ x b f' k. search rules) _ _ c.retain-2.ensures.filtered)

pub returns-clause-marks : goal.returns-clause-marks
returns-clause-marks c =
    let table = c.args.self.now in
    cut_view (slots_of table) _ table.by_name.items table.in_order.items _ c.args.kept c.requires.table
    (seen_cut c.args.kept table.marks.items c.truncate.new.self.items c.truncate.ensures.items)
    (filter_same _ _ _ (λ x b f' k. search rules) _ _ c.retain-2.ensures.filtered)
