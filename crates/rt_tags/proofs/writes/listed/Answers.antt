use Rattle.std.proofs.Common.{◌∙◌, ap, arith}
use Rattle.std.proofs.lemmas.Grind.{common_steps}
use Rattle.std.proofs.lemmas.List.{take_all}
use Rattle.std.proofs.lemmas.Result.{err_from_is_err_and}
use Rattle.rt_tags.specs.Kept.{all_on}
use Rattle.rt_tags.proofs.writes.listed.Goals as goal

pub returns-in_err-push : goal.returns-in_err-push
returns-in_err-push c =
    let (y, is, gives) = err_from_is_err_and c.from_residual-in_err-push.result c.from_residual-in_err-push.ensures.1 in
    rw is tt

pub loop-tag-preserved : goal.loop-tag-preserved
loop-tag-preserved c = grind (arith, common_steps)

pub returns : goal.returns
returns c = c.loop-tag.invariant ∙ ap (all_on c.args.writer) (take_all c.loop-tag.tag-index c.args.tags.now c.loop-tag-test.false)
