use Rattle.std.proofs.Common.{refl}
use Rattle.rt_holding.specs.Receiving.{State as Holder}
use Rattle.rt_peers.specs.declared.text.telling.TellingText.{TellingText}
use Rattle.rt_peers.proofs.Telling.{has_told, still_named, text_receives}
use Rattle.rt_peers.proofs.text.telling.receive_lent.Goals as goal

pub returns-clause-receives : goal.returns-clause-receives
returns-clause-receives c =
    let old : Holder TellingText = record { site = c.args.telling.now; held = c.args.held.now.held } in
    let new : Holder TellingText = record { site = c.receive.new.site; held = c.receive.new.held.held } in
    text_receives c.args.bytes.now old c.receive.result new c.receive.ensures.receives

pub returns-clause-more : goal.returns-clause-more
returns-clause-more c =
    let old : Holder TellingText = record { site = c.args.telling.now; held = c.args.held.now.held } in
    let new : Holder TellingText = record { site = c.receive.new.site; held = c.receive.new.held.held } in
    has_told c.args.bytes.now old c.receive.result new c.receive.ensures.receives

pub returns-clause-lent : goal.returns-clause-lent
returns-clause-lent c =
    let old : Holder TellingText = record { site = c.args.telling.now; held = c.args.held.now.held } in
    let new : Holder TellingText = record { site = c.receive.new.site; held = c.receive.new.held.held } in
    still_named c.args.bytes.now old c.receive.result new c.receive.ensures.receives (λ t. t.text.ghost_name) (λ op t. refl)

pub returns-clause-lent_told : goal.returns-clause-lent_told
returns-clause-lent_told c =
    let old : Holder TellingText = record { site = c.args.telling.now; held = c.args.held.now.held } in
    let new : Holder TellingText = record { site = c.receive.new.site; held = c.receive.new.held.held } in
    still_named c.args.bytes.now old c.receive.result new c.receive.ensures.receives (λ t. t.told.ghost_name) (λ op t. refl)
