use Rattle.std.proofs.Common.{◌≡◌, Some, refl, subst}
use Rattle.rt_script.specs.LineSite.{LineSiteValue, ReceivesTelling, bytes_of, is_line_ready}
use Rattle.rt_script.proofs.Counted.{counted}
use Rattle.rt_script.proofs.line_site.LineSite.receive.Goals as goal

pub returns : goal.returns
returns c =
    let file = c.receive_telling-changes in
    let changes = file.result.changes.items in
    let new : LineSiteValue = record { site = file.new.self; said = bytes_of c.self.inside.said; ready = is_line_ready c.self.inside.said; changes = Some changes } in
    subst (λ (old : LineSiteValue). ReceivesTelling c.args.bytes.now old file.result.received new) c.self.view_is (record {
      receives = file.ensures.receives;
      counted = (changes, refl, counted c.args.bytes.now c.self.inside.site file.new.self file.result.received changes file.ensures.receives file.ensures.told);
      tells = record {
        told = record { told = file.ensures.told; replays = file.ensures.replayed; within = file.ensures.within };
        known = λ e. refl;
      };
      said = (refl, refl);
    })
