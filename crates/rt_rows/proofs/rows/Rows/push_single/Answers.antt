use Rattle.std.proofs.Common.{ap, refl, length, List}
use Rattle.rt_ops.specs.Operations.{Name, Operation}
use Rattle.rt_rows.specs.Places.{RowsValue}
use Rattle.rt_rows.proofs.Lists.{there_in, new_in, kept_in}
use Rattle.rt_rows.proofs.rows.Rows.push_single.Goals as goal

pub invariant_of-self : goal.invariant_of-self
invariant_of-self c = c.push_alone.ensures.listed (length c.self.inside.lists.lists) c.self.invariant tt

pub returns-clause-there : goal.returns-clause-there
returns-clause-there c =
    let op : List (List Name) → Operation = λ lists. c.args.op in
    there_in c.self.inside.lists.lists c.self.inside.kept.kept c.push_alone.new.self.kept op c.push_alone.result c.args.op refl (c.push_alone.ensures.put op (λ lists. refl))

pub returns-clause-one : goal.returns-clause-one
returns-clause-one c =
    let op : List (List Name) → Operation = λ lists. c.args.op in
    new_in c.self.inside.lists.lists c.self.inside.kept.kept c.push_alone.new.self.kept op c.push_alone.result c.args.self.now.rows (ap (λ (v : RowsValue). v.rows) c.self.view_is)
    (c.push_alone.ensures.put op (λ lists. refl))

pub returns-clause-kept : goal.returns-clause-kept
returns-clause-kept c =
    let op : List (List Name) → Operation = λ lists. c.args.op in
    kept_in c.self.inside.lists.lists c.self.inside.kept.kept c.push_alone.new.self.kept op c.push_alone.result c.args.self.now.rows (ap (λ (v : RowsValue). v.rows) c.self.view_is)
    (c.push_alone.ensures.put op (λ lists. refl))
