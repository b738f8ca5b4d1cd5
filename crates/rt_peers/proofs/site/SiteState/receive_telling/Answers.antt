use Rattle.std.proofs.Common.{◌∙◌, ap, suc, sym}
use Rattle.rt_recording.specs.EditedValue.{EditedValue}
use Rattle.rt_holding.specs.Receiving.{State as Holder}
use Rattle.rt_peers.proofs.Staying.{received_stays}
use Rattle.rt_peers.proofs.site.SiteState.receive_telling.Goals as goal

pub invariant_of-self : goal.invariant_of-self
invariant_of-self c =
    let old : Holder EditedValue = record { site = c.self.inside.text; held = c.self.inside.held.held } in
    let new : Holder EditedValue = record { site = c.receive_telling.new.self; held = c.receive_telling.new.held.held } in
    let stay = received_stays c.args.bytes.now old c.receive_telling.result.received new c.receive_telling.ensures.receives in
    record { paths = record { each = c.self.invariant.paths.each ∙ sym (ap suc stay); differ = c.self.invariant.paths.differ }; tried = c.receive_telling.ensures.tried }
