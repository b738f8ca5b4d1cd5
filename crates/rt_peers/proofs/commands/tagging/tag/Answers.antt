use Rattle.rt_requests.specs.declared.request.TagRequest.TheVariants.{Names, NamesAt, NextRange, PreviousRange, Ranges}
use Rattle.rt_peers.specs.ViewStep.{tag_step}
use Rattle.rt_peers.proofs.Steps.{as_shown}
use Rattle.rt_peers.proofs.commands.tagging.tag.Goals as goal

pub returns-in-Add-clause-answers : goal.returns-in-Add-clause-answers
returns-in-Add-clause-answers c = rw c.in-Add.is c.add_tag.ensures

pub returns-in-Remove-clause-answers : goal.returns-in-Remove-clause-answers
returns-in-Remove-clause-answers c = rw c.in-Remove.is c.remove_tag.ensures

pub returns-in-NextRange-clause-answers : goal.returns-in-NextRange-clause-answers
returns-in-NextRange-clause-answers c =
    rw c.in-NextRange.is (as_shown c.shown-in-NextRange.result c.args.view.now c.shown-in-NextRange.ensures (λ view. tag_step view (NextRange c.in-NextRange.name c.in-NextRange.from c.in-NextRange.to)) c.next_range.result c.next_range.ensures)

pub returns-in-PreviousRange-clause-answers : goal.returns-in-PreviousRange-clause-answers
returns-in-PreviousRange-clause-answers c =
    rw c.in-PreviousRange.is (as_shown c.shown-in-PreviousRange.result c.args.view.now c.shown-in-PreviousRange.ensures (λ view. tag_step view (PreviousRange c.in-PreviousRange.name c.in-PreviousRange.to c.in-PreviousRange.from)) c.previous_range.result c.previous_range.ensures)

pub returns-in-Delete-clause-answers : goal.returns-in-Delete-clause-answers
returns-in-Delete-clause-answers c = rw c.in-Delete.is c.delete_tags.ensures

pub returns-in-Raise-clause-answers : goal.returns-in-Raise-clause-answers
returns-in-Raise-clause-answers c = rw c.in-Raise.is c.raise.ensures.answers

pub returns-in-Lower-clause-answers : goal.returns-in-Lower-clause-answers
returns-in-Lower-clause-answers c = rw c.in-Lower.is c.lower.ensures.answers

pub returns-in-Names-clause-answers : goal.returns-in-Names-clause-answers
returns-in-Names-clause-answers c =
    rw c.in-Names.is (as_shown c.shown.result c.args.view.now c.shown.ensures (λ view. tag_step view (Names)) c.all_tags.result c.all_tags.ensures)

pub returns-in-NamesAt-clause-answers : goal.returns-in-NamesAt-clause-answers
returns-in-NamesAt-clause-answers c =
    rw c.in-NamesAt.is (as_shown c.shown-in-NamesAt.result c.args.view.now c.shown-in-NamesAt.ensures (λ view. tag_step view (NamesAt c.in-NamesAt.index)) c.tags_at.result c.tags_at.ensures)

pub returns-in-Ranges-clause-answers : goal.returns-in-Ranges-clause-answers
returns-in-Ranges-clause-answers c =
    rw c.in-Ranges.is (as_shown c.shown-in-Ranges.result c.args.view.now c.shown-in-Ranges.ensures (λ view. tag_step view (Ranges c.in-Ranges.name)) c.ranges-in-Ranges.result c.ranges-in-Ranges.ensures)
