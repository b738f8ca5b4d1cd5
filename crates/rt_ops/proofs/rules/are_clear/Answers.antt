use Rattle.std.proofs.Common.{rules}
use Rattle.std.proofs.lemmas.List.Sorted.{answers_always}
use Rattle.rt_ops.specs.Rules.{is_clear_of}
use Rattle.rt_ops.proofs.Adjacent.{each_next_is}
use Rattle.rt_ops.proofs.rules.are_clear.Goals as goal

pub returns : goal.returns
returns c = each_next_is is_clear_of c.args.spans.now c.is_sorted_by.result (c.is_sorted_by.ensures.cases is_clear_of (answers_always _ _ _ (λ f a r g h. search rules)))
