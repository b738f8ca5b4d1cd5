use Rattle.std.proofs.Common.{map, flat_map, inr, refl}
use Rattle.std.specs.Fmt.{signed_decimal}
use Rattle.rt_stamps.specs.Places.{text_of_position}
use Rattle.rt_requests.specs.Parts.{all_of}
use Rattle.rt_tagcmd.specs.Dumping.{dumped}
use Rattle.rt_tagcmd.specs.SearchCommand.{searched}
use Rattle.rt_text.specs.Commands.{compared, counted, position_of_index}
use Rattle.rt_peers.specs.ViewStep.{element_words, get_step, one_word, text_of_bool, told_step}
use Rattle.rt_peers.proofs.Steps.{told_shown}
use Rattle.rt_peers.proofs.text.EditedText.request.Goals as goal

pub returns-in-Insert-clause-answers : goal.returns-in-Insert-clause-answers
returns-in-Insert-clause-answers c = rw c.in-Insert.is c.insert.ensures

pub returns-in-Delete-clause-answers : goal.returns-in-Delete-clause-answers
returns-in-Delete-clause-answers c = rw c.in-Delete.is c.delete.ensures

pub returns-in-Replace-clause-answers : goal.returns-in-Replace-clause-answers
returns-in-Replace-clause-answers c = rw c.in-Replace.is c.replace.ensures

pub returns-in-Index-clause-answers : goal.returns-in-Index-clause-answers
returns-in-Index-clause-answers c =
    rw c.in-Index.is
    (told_shown c.args.self.now c.self-in-Index.inside.view c.shown-in-Index.result c.self-in-Index.inside.recorder c.self-in-Index.view_is c.shown-in-Index.ensures
    (λ view. told_step (λ position. one_word (text_of_position position)) view (position_of_index view c.in-Index.index)) c.index.result c.index.ensures)

pub returns-in-Compare-clause-answers : goal.returns-in-Compare-clause-answers
returns-in-Compare-clause-answers c =
    rw c.in-Compare.is
    (told_shown c.args.self.now c.self-in-Compare.inside.view c.shown-in-Compare.result c.self-in-Compare.inside.recorder c.self-in-Compare.view_is c.shown-in-Compare.ensures
    (λ view. told_step (λ holds. one_word (text_of_bool holds)) view (compared view c.in-Compare.first c.in-Compare.comparison c.in-Compare.second)) c.compare.result c.compare.ensures)

pub returns-in-Count-clause-answers : goal.returns-in-Count-clause-answers
returns-in-Count-clause-answers c =
    rw c.in-Count.is
    (told_shown c.args.self.now c.self-in-Count.inside.view c.shown-in-Count.result c.self-in-Count.inside.recorder c.self-in-Count.view_is c.shown-in-Count.ensures
    (λ view. told_step (map signed_decimal) view (counted view c.in-Count.measures c.in-Count.from c.in-Count.to)) c.count.result c.count.ensures)

pub returns-in-Search-clause-answers : goal.returns-in-Search-clause-answers
returns-in-Search-clause-answers c =
    rw c.in-Search.is
    (told_shown c.args.self.now c.self-in-Search.inside.view c.shown-in-Search.result c.self-in-Search.inside.recorder c.self-in-Search.view_is c.shown-in-Search.ensures
    (λ view. told_step (map text_of_position) view (searched view c.in-Search.request)) c.search.result c.search.ensures)

pub returns-in-Dump-clause-answers : goal.returns-in-Dump-clause-answers
returns-in-Dump-clause-answers c =
    rw c.in-Dump.is
    (told_shown c.args.self.now c.self-in-Dump.inside.view c.shown-in-Dump.result c.self-in-Dump.inside.recorder c.self-in-Dump.view_is c.shown-in-Dump.ensures
    (λ view. told_step (flat_map element_words) view (dumped view c.in-Dump.kinds c.in-Dump.from c.in-Dump.to)) c.dump.result c.dump.ensures)

pub returns-in-Get-clause-answers : goal.returns-in-Get-clause-answers
returns-in-Get-clause-answers c =
    rw c.in-Get.is
    (told_shown c.args.self.now c.self.inside.view c.shown.result c.self.inside.recorder c.self.view_is c.shown.ensures
    (λ view. get_step view (all_of c.in-Get.indices)) c.get.result c.get.ensures)

pub returns-in-Mark-clause-answers : goal.returns-in-Mark-clause-answers
returns-in-Mark-clause-answers c = rw c.in-Mark.is c.mark.ensures.answers

pub returns-in-Tag-clause-answers : goal.returns-in-Tag-clause-answers
returns-in-Tag-clause-answers c = rw c.in-Tag.is c.tag.ensures.answers

pub returns-in-Edit-clause-answers : goal.returns-in-Edit-clause-answers
returns-in-Edit-clause-answers c = rw c.in-Edit.is c.edit.ensures.answers

pub returns-in-Configure-clause-answers : goal.returns-in-Configure-clause-answers
returns-in-Configure-clause-answers c = rw c.in-Configure.is c.set.ensures.answers

pub returns-in-Cget-clause-answers : goal.returns-in-Cget-clause-answers
returns-in-Cget-clause-answers c = rw c.in-Cget.is c.tell.ensures

pub returns-in-Peer-clause-answers : goal.returns-in-Peer-clause-answers
returns-in-Peer-clause-answers c = rw c.in-Peer.is (refl, inr refl)
