-- A site began as its log was received, or was refused by the log's fault.
use Rattle.std.proofs.Common.{◌≡◌, inl, ℕ, List, Option, Some, None, Result, Ok, Err}
use Rattle.std.specs.Prelude.{MatchResult}
use Rattle.std.specs.Borrow.{Bor}
use Rattle.rt_stamps.specs.declared.fault.Fault.{Fault}
use Rattle.rt_stamps.specs.declared.limits.TheConstants.{MOST_CELLS}
use Rattle.rt_holding.specs.declared.receiving.Received.{Received}
use Rattle.rt_script.specs.SiteValue.{SiteValue, new_site}
use Rattle.rt_script.specs.SiteStep.{SiteReceives}
use Rattle.rt_script.specs.SiteRun.{Begins}
use Rattle.rt_script.proofs.site_run.begun.Goals as goal

begun_by :
    (site : ℕ) (log : Option (Bor (List ℕ))) (found : Bor (List ℕ)) (received : Received) (old new : SiteValue) (result : Result SiteValue (Fault × ℕ))
    → log ≡ Some found → old ≡ new_site site MOST_CELLS → SiteReceives found.now old received new
    → MatchResult result (λ same. (same ≡ new) × (received.fault ≡ None)) (λ fault. received.fault ≡ Some fault) → Begins site log result
begun_by site log found received old new (Ok same) is fresh got told = rw is (received, rw told.0 (rw fresh at got), told.1)
begun_by site log found received old new (Err fault) is fresh got told = rw is (inl (received, new, rw fresh at got, told))

pub returns-in-Some : goal.returns-in-Some
returns-in-Some c =
    begun_by c.args.site.number c.args.log c.in-Some.log c.receive-received.result c.in-Ok.state c.receive-received.new.self c.unless_refused.result
    c.in-Some.is c.in-Ok.ensures.ok c.receive-received.ensures c.unless_refused.ensures
