use Rattle.std.proofs.Common.{rules}
use Rattle.rt_ops.proofs.Spans.{spans_reach}
use Rattle.rt_ops.proofs.op.names_later.Goals as goal

pub returns-in-Delete : goal.returns-in-Delete
returns-in-Delete c = rw c.in-Delete.is (rw (spans_reach c.in-Delete.spans.items c.args.stamp) (search rules))

pub returns-in-Tag : goal.returns-in-Tag
returns-in-Tag c = rw c.in-Tag.is (rw (spans_reach c.in-Tag.spans.items c.args.stamp) (search rules))
