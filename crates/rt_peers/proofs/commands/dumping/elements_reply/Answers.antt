use Rattle.std.proofs.lemmas.Result.{err_from_is_err_and}
use Rattle.rt_peers.specs.ViewStep.{element_words}
use Rattle.rt_peers.proofs.Steps.{one_more_of}
use Rattle.rt_peers.proofs.commands.dumping.elements_reply.Goals as goal

pub returns-in_err-push_element : goal.returns-in_err-push_element
returns-in_err-push_element c =
    let (y, is, gives) = err_from_is_err_and c.from_residual.result c.from_residual.ensures.1 in
    rw (is, gives) (record { ok = tt; err = c.in_err-push_element.ensures.err })

pub loop-element-preserved : goal.loop-element-preserved
loop-element-preserved c =
    one_more_of element_words _ _ c.args.elements.now _ _ c.in_ok-push_element.ensures.ok c.loop-element-test.true c.element-item.is c.loop-element.invariant
