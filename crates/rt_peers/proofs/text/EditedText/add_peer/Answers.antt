use Rattle.rt_peers.proofs.OptionLaws.{made_by_led, refused_by_led, there_still, unchanged_by_led}
use Rattle.rt_peers.proofs.text.EditedText.add_peer.Goals as goal

pub lead-requires-2 : goal.lead-requires-2
lead-requires-2 c =
    let made = c.add_peer_of_first-added.new.self in
    there_still c.args.number c.args.self.now c.lead.new.self made c.args.settings.now c.add_peer_of_first-added.result c.lead.ensures c.add_peer_of_first-added.ensures.ok
    c.add_peer_of_first-added.ensures.unchanged c.requires

pub returns-clause-ok : goal.returns-clause-ok
returns-clause-ok c =
    let made = c.add_peer_of_first-added.new.self in
    made_by_led c.args.number c.args.self.now c.lead.new.self made c.lead-2.new.self c.args.settings.now c.add_peer_of_first-added.result c.lead.ensures c.lead-2.ensures
    c.add_peer_of_first-added.ensures.ok

pub returns-clause-err : goal.returns-clause-err
returns-clause-err c = refused_by_led c.args.number c.args.self.now c.lead.new.self c.args.settings.now c.add_peer_of_first-added.result c.lead.ensures c.add_peer_of_first-added.ensures.err

pub returns-clause-unchanged : goal.returns-clause-unchanged
returns-clause-unchanged c =
    let made = c.add_peer_of_first-added.new.self in
    unchanged_by_led c.args.number c.args.self.now c.lead.new.self made c.lead-2.new.self c.add_peer_of_first-added.result c.lead.ensures c.lead-2.ensures
    c.add_peer_of_first-added.ensures.unchanged
