use Rattle.std.proofs.Common.{◌∙◌, ap}
use Rattle.rt_ops.specs.Operations.{stamp_of}
use Rattle.rt_rows.specs.Places.{RowsValue, op_at}
use Rattle.rt_rows.proofs.rows.Rows.stamp_at.Goals as goal

pub returns : goal.returns
returns c = c.stamp_at.ensures c.self.inside.lists.lists ∙ ap (λ (v : RowsValue). stamp_of (op_at v.rows c.args.place)) c.self.view_is
