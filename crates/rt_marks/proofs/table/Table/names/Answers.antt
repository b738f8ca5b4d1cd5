use Rattle.std.proofs.Common.{◌∙◌, ◌<◌, ap, arith, length, string_bytes}
use Rattle.std.proofs.lemmas.List.{take_all}
use Rattle.rt_marks.specs.Seen.{in_slots, names_of_marks}
use Rattle.rt_marks.specs.Tables.{slots_of}
use Rattle.rt_marks.proofs.Tables.{names_pushed, slot_there}
use Rattle.rt_marks.proofs.table.Table.names.Goals as goal

pub name_in-requires : goal.name_in-requires
name_in-requires c =
    let table = c.args.self.now in
    slot_there (slots_of table) table.by_name.items c.loop-rank.rank c.index.result.now c.requires.names_once (omega (arith, c.loop-rank-test.true, c.len-rank-end.ensures, table.by_name.ok.0)) c.index.ensures

pub loop-rank-preserved : goal.loop-rank-preserved
loop-rank-preserved c =
    let table = c.args.self.now in
    let inside : c.loop-rank.rank < length table.by_name.items = omega (arith, c.loop-rank-test.true, c.len-rank-end.ensures, table.by_name.ok.0) in
    names_pushed (λ s. string_bytes s) _ _ _ (slots_of table) table.by_name.items c.loop-rank.rank c.index.result.now c.in_ok-push.ensures.items c.loop-rank.invariant (c.in_ok-name.ensures.ok ∙ c.name_in.ensures) c.index.ensures inside

pub returns : goal.returns
returns c =
    let table = c.args.self.now in
    c.loop-rank.invariant ∙ ap (λ v. names_of_marks (in_slots (slots_of table) v)) (take_all c.loop-rank.rank table.by_name.items (omega (arith, c.loop-rank-test.false, c.len-rank-end.ensures, table.by_name.ok.0)))
