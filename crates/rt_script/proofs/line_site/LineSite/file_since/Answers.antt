use Rattle.std.proofs.Common.{◌≡◌, ℕ, List, reverse, subst}
use Rattle.std.specs.Prelude.{IfOk}
use Rattle.rt_ops.specs.File.{spelling}
use Rattle.rt_files.specs.Ends.{SpellEnds}
use Rattle.rt_peers.specs.Lacking.{known_in, past_known}
use Rattle.rt_peers.specs.SiteStep.{log_of}
use Rattle.rt_script.specs.LineSite.{LineSiteValue, file_since}
use Rattle.rt_script.proofs.KnownCounts.{by_ends}
use Rattle.rt_script.proofs.line_site.LineSite.file_since.Goals as goal

pub returns-clause-ok : goal.returns-clause-ok
returns-clause-ok c =
    let read = c.in_ok-ends.ensures.ok in
    let log = log_of c.self.inside.site in
    subst (λ (k : LineSiteValue). IfOk c.export_since.result (λ file. (ends : List (ℕ × ℕ)) × SpellEnds c.args.bytes.now ends × (file.items ≡ file_since ends k))) c.self.view_is
    (by_ends c.export_since.result (λ file. file.items) (λ known. spelling (reverse (past_known known log))) c.args.bytes.now (known_in c.in_ok-ends.ends) read.0 read.1 read.2 c.export_since.ensures.ok)
