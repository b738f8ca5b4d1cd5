use Rattle.rt_requests.specs.declared.request.MarkRequest.TheVariants.{Gravity, Names, Next, Previous}
use Rattle.rt_peers.specs.ViewStep.{mark_step}
use Rattle.rt_peers.proofs.Steps.{as_shown}
use Rattle.rt_peers.proofs.commands.marking.mark.Goals as goal

pub returns-in-Set-clause-answers : goal.returns-in-Set-clause-answers
returns-in-Set-clause-answers c = rw c.in-Set.is c.set_mark.ensures

pub returns-in-Unset-clause-answers : goal.returns-in-Unset-clause-answers
returns-in-Unset-clause-answers c = rw c.in-Unset.is c.unset_marks.ensures.answers

pub returns-in-Gravity-clause-answers : goal.returns-in-Gravity-clause-answers
returns-in-Gravity-clause-answers c =
    rw c.in-Gravity.is (as_shown c.shown.result c.args.view.now c.shown.ensures (λ view. mark_step view (Gravity c.in-Gravity.name)) c.gravity.result c.gravity.ensures)

pub returns-in-SetGravity-clause-answers : goal.returns-in-SetGravity-clause-answers
returns-in-SetGravity-clause-answers c = rw c.in-SetGravity.is c.set_gravity.ensures.answers

pub returns-in-Names-clause-answers : goal.returns-in-Names-clause-answers
returns-in-Names-clause-answers c =
    rw c.in-Names.is (as_shown c.shown-in-Names.result c.args.view.now c.shown-in-Names.ensures (λ view. mark_step view Names) c.all_marks.result c.all_marks.ensures)

pub returns-in-Next-clause-answers : goal.returns-in-Next-clause-answers
returns-in-Next-clause-answers c =
    rw c.in-Next.is (as_shown c.shown-in-Next.result c.args.view.now c.shown-in-Next.ensures (λ view. mark_step view (Next c.in-Next.word)) c.next_mark.result c.next_mark.ensures)

pub returns-in-Previous-clause-answers : goal.returns-in-Previous-clause-answers
returns-in-Previous-clause-answers c =
    rw c.in-Previous.is
    (as_shown c.shown-in-Previous.result c.args.view.now c.shown-in-Previous.ensures (λ view. mark_step view (Previous c.in-Previous.word)) c.previous_mark.result c.previous_mark.ensures)
