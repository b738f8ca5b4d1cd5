use Rattle.std.proofs.Common.{rules, string_bytes, Global}
use Rattle.std.specs.Str.{bytes_eq}
use Rattle.rt_rows.proofs.Lists.{pointwise_map}
use Rattle.rt_rows.proofs.names.is_same_names.Goals as goal

pub returns : goal.returns
returns c = rw (pointwise_map bytes_eq (string_bytes {Z = Global}) c.args.one.now c.args.other.now) (search rules)
