use Rattle.std.proofs.Common.{map}
use Rattle.rt_changes.specs.Telling.{changes_in}
use Rattle.rt_peers.proofs.Telling.{changes_in_text, changes_replay, only_told, told_between}
use Rattle.rt_peers.proofs.text.EditedText.receive_telling.Goals as goal

pub returns-clause-told : goal.returns-clause-told
returns-clause-told c =
    let new = c.receive_told-received.new.text in
    let turn = only_told c.args.self.now new c.nothing-told.result c.receive_told-received.new.told (map changes_in c.changes.result.items)
    c.nothing-told.ensures c.changes.ensures c.log.ensures.history c.log-2.ensures.history c.receive_told-received.ensures.more in
    told_between c.args.self.now new c.changes.result.items c.log.ensures.history turn

pub returns-clause-replayed : goal.returns-clause-replayed
returns-clause-replayed c =
    let new = c.receive_told-received.new.text in
    let turn = only_told c.args.self.now new c.nothing-told.result c.receive_told-received.new.told (map changes_in c.changes.result.items)
    c.nothing-told.ensures c.changes.ensures c.log.ensures.history c.log-2.ensures.history c.receive_told-received.ensures.more in
    changes_replay c.args.self.now new c.changes.result.items c.log.ensures.history turn c.log.ensures.cells c.log-2.ensures.cells

pub returns-clause-within : goal.returns-clause-within
returns-clause-within c =
    let new = c.receive_told-received.new.text in
    let turn = only_told c.args.self.now new c.nothing-told.result c.receive_told-received.new.told (map changes_in c.changes.result.items)
    c.nothing-told.ensures c.changes.ensures c.log.ensures.history c.log-2.ensures.history c.receive_told-received.ensures.more in
    changes_in_text c.args.self.now new c.changes.result.items c.log.ensures.history turn c.log.ensures.cells
