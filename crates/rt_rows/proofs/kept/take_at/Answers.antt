use Rattle.std.proofs.Common.{◌<◌, arith, length}
use Rattle.rt_rows.specs.Views.{operation_of}
use Rattle.rt_rows.proofs.InRows.{taken_keeps, taken_has, taken_one}
use Rattle.rt_rows.proofs.kept.take_at.Goals as goal

pub returns-in-Some-clause-put : goal.returns-in-Some-clause-put
returns-in-Some-clause-put c =
    let kept = c.args.rows.now.items in
    let row = c.args.row in
    let was = c.index_mut.result.now in
    let now = c.take.new.self in
    let is = c.index_mut.ensures.value in
    let more = c.in-Some.ensures.more in
    let within : row < length kept = omega (arith, c.if-index-len.false, c.len.ensures, c.args.rows.now.ok.0) in
    record {
      there = λ lists. taken_has lists kept row c.in-Some.at was now (operation_of lists c.args.one.now) within is (more lists) (c.in-Some.ensures.place lists);
      one = λ lists. taken_one lists kept row c.in-Some.at was now (operation_of lists c.args.one.now) within is (more lists) (c.in-Some.ensures.place lists);
      kept = λ lists. taken_keeps lists kept row was now (operation_of lists c.args.one.now) within is (more lists);
    }
