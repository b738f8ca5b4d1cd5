use Rattle.rt_ops.proofs.OneForm.{one_list_of_spans}
use Rattle.rt_ops.proofs.laws.spans.Goals as goal

pub returns : goal.returns
returns c = record { one_list = one_list_of_spans }
