use Rattle.std.proofs.Common.{ap, length, List}
use Rattle.rt_ops.specs.Operations.{Name, Operation}
use Rattle.rt_rows.specs.Places.{RowsValue}
use Rattle.rt_rows.specs.Views.{operation_of}
use Rattle.rt_rows.proofs.Lists.{there_in, new_in, kept_in}
use Rattle.rt_rows.proofs.rows.Rows.push_row.Goals as goal

pub invariant_of-self : goal.invariant_of-self
invariant_of-self c = let many = length c.self.inside.lists.lists in c.push_one.ensures.listed many c.self.invariant (c.requires.alone many)

pub returns-clause-there : goal.returns-clause-there
returns-clause-there c one is =
    let lists = c.self.inside.lists.lists in
    let op : List (List Name) → Operation = λ lists. operation_of lists c.args.one.now in
    there_in lists c.self.inside.kept.kept c.push_one.new.self.kept op c.push_one.result one (is lists) c.push_one.ensures.put

pub returns-clause-one : goal.returns-clause-one
returns-clause-one c =
    let op : List (List Name) → Operation = λ lists. operation_of lists c.args.one.now in
    new_in c.self.inside.lists.lists c.self.inside.kept.kept c.push_one.new.self.kept op c.push_one.result c.args.self.now.rows (ap (λ (v : RowsValue). v.rows) c.self.view_is)
    c.push_one.ensures.put

pub returns-clause-kept : goal.returns-clause-kept
returns-clause-kept c =
    let op : List (List Name) → Operation = λ lists. operation_of lists c.args.one.now in
    kept_in c.self.inside.lists.lists c.self.inside.kept.kept c.push_one.new.self.kept op c.push_one.result c.args.self.now.rows (ap (λ (v : RowsValue). v.rows) c.self.view_is)
    c.push_one.ensures.put
