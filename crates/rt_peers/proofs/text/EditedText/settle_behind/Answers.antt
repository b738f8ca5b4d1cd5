use Rattle.std.proofs.Common.{map, subst, sym}
use Rattle.rt_changes.specs.Telling.{changes_in}
use Rattle.rt_peers.specs.SiteStep.{text_log}
use Rattle.rt_peers.specs.Telling.{AreToldInTurn}
use Rattle.rt_peers.proofs.Telling.{told_behind}
use Rattle.rt_peers.proofs.text.EditedText.settle_behind.Goals as goal

pub returns-clause-tries : goal.returns-clause-tries
returns-clause-tries c = (c.settle_told.result, c.settle_told.ensures.tried)

pub returns-clause-told : goal.returns-clause-told
returns-clause-told c = λ older first.
    subst (AreToldInTurn older (text_log c.settle_told.new.text)) (sym c.changes.ensures)
    (told_behind older c.args.self.now c.settle_told.new.text (map changes_in c.args.changes.items) c.settle_told.new.told
    c.log.ensures.history c.log-2.ensures.history c.settle_told.ensures.more first)
