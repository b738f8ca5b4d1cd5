use Rattle.std.proofs.Common.{rules, string_bytes, String, Global, Bool}
use Rattle.std.proofs.lemmas.List.Sorted.{answers_always}
use Rattle.rt_ops.specs.Rules.{is_lesser_name}
use Rattle.rt_ops.proofs.Adjacent.{each_next_is}
use Rattle.rt_ops.proofs.rules.are_rising.Goals as goal

pub returns : goal.returns
returns c =
    let e : String Global → String Global → Bool = λ one other. is_lesser_name (string_bytes one) (string_bytes other) in
    each_next_is e c.args.tags.now c.is_sorted_by.result (c.is_sorted_by.ensures.cases e (answers_always _ _ _ (λ f a r g h. search rules)))
