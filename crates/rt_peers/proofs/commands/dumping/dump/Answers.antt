use Rattle.std.proofs.Common.{flat_map, refl}
use Rattle.std.proofs.lemmas.Result.{err_from_is_err_and}
use Rattle.rt_tagcmd.specs.Dumping.{dumped}
use Rattle.rt_peers.specs.ViewStep.{element_words}
use Rattle.rt_peers.proofs.Steps.{refused_as, replied_as}
use Rattle.rt_peers.proofs.commands.dumping.dump.Goals as goal

pub returns-in_err-elements : goal.returns-in_err-elements
returns-in_err-elements c =
    let p = err_from_is_err_and c.from_residual.result c.from_residual.ensures.1 in
    rw p.1 (refl, refused_as (flat_map element_words) c.args.view.now _ _ p.0 c.in_err-elements.field-0.0 (λ i. dumped c.args.view.now c.args.kinds (c.text.ensures i) (c.text_of.ensures i)) c.in_err-elements.ensures.err p.2)

pub returns : goal.returns
returns c = replied_as (flat_map element_words) c.args.view.now _ _ c.in_ok-elements.elements.items c.elements_reply.result (λ i. dumped c.args.view.now c.args.kinds (c.text.ensures i) (c.text_of.ensures i)) c.in_ok-elements.ensures.ok (rw (← c.deref.ensures.value) c.elements_reply.ensures.ok) c.elements_reply.ensures.err
