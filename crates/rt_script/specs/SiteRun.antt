-- The run of a script by a site: how the site begins, and what there is of it at the end.
use Rattle.std.specs.Prelude.{◌≡◌, ◌≢◌, ◌⊎◌, ◌+◌, ◌≤◌, ℕ, Bool, [], true, false, List, length, Option, Some, None, Result, MatchResult, IfOk, IfErr, Vec, reverse, ⊤}
use Rattle.std.specs.Borrow.{Bor}
use Rattle.std.specs.declared.alloc.Global.{Global}
use Rattle.rt_stamps.specs.declared.fault.Fault.{Fault}
use Rattle.rt_stamps.specs.declared.fault.Fault.TheVariants.{NoMemory, ReadFault}
use Rattle.rt_stamps.specs.declared.limits.TheConstants.{MOST_BYTES, MOST_CELLS}
use Rattle.rt_stamps.specs.Streams.{FILE_BOUNDS, Stream}
use Rattle.rt_ops.specs.File.{spelling}
use Rattle.rt_script.specs.Run.{Ends, Point, point}
use Rattle.rt_peers.specs.SiteValue.{SiteValue, new_site}
use Rattle.rt_script.specs.Site.{NamedFile, Session, SiteGives}
use Rattle.rt_peers.specs.SiteStep.{SiteReceives}
use Rattle.rt_holding.specs.declared.receiving.Received.{Received}
use Rattle.rt_script.specs.declared.site_run.ScriptRun.{ScriptRun}

-- A site begins as a new one, which has room for all cells there may be; or with all that it receives of a log.
abbrev pub BeginsFrom : ℕ → Option (Bor (List ℕ)) → SiteValue → Type 0
BeginsFrom site None state = state ≡ new_site site MOST_CELLS
BeginsFrom site (Some log) state =
    (received : Received) × SiteReceives log.now (new_site site MOST_CELLS) received state × (received.fault ≡ None)

-- a new site refuses a log by this fault
abbrev pub RefusesLog : ℕ → Option (Bor (List ℕ)) → Fault × ℕ → Type 0
RefusesLog site None found = ⊥
RefusesLog site (Some log) found =
    (received : Received) × (state : SiteValue) × SiteReceives log.now (new_site site MOST_CELLS) received state × (received.fault ≡ Some found)

-- A site begins, or its log is refused, or there is no memory for a site.
abbrev pub Begins : ℕ → Option (Bor (List ℕ)) → Result SiteValue (Fault × ℕ) → Type 0
Begins site log result = MatchResult result
    (BeginsFrom site log)
    (λ found. RefusesLog site log found ⊎ (found ≡ (NoMemory, 0)))

-- the file of a site's log, or want of memory
abbrev pub Exports : SiteValue → Result (Vec ℕ Global) Fault → Type 0
Exports state result = IfOk result (λ bytes. bytes.items ≡ spelling (reverse state.text.view.doc.log)) × IfErr result (λ fault. fault ≡ NoMemory)

-- the log at the end of a run is told where it is wanted, however the run ended
abbrev pub TellsLog : Bool → SiteValue → Option (Result (Vec ℕ Global) Fault) → Type 0
TellsLog false state log = log ≡ None
TellsLog true state log = (told : Result (Vec ℕ Global) Fault) × (log ≡ Some told) × Exports state told

-- A script was run by a site, which is told as the run left it, with its log where that is wanted.
abbrev pub RunsScript : List NamedFile → SiteValue → Bool → Stream → Stream → Stream → Stream → ScriptRun → Type 0
RunsScript files site wants_log script left before after outcome =
    Ends SiteGives FILE_BOUNDS (point (record { site = site; files = files }) before) (point (record { site = outcome.site; files = files }) after) script left
    outcome.fault
    × TellsLog wants_log outcome.site outcome.log

-- Within the bounds of a file no run ends for want of reads: it ends with ReadFault where a read failed, or a byte came past the bound.
abbrev pub ReadsSuffice : Type 0
ReadsSuffice =
    (old new : Point Session) (script left : Stream) (fault : Option Fault) (ends : Ends SiteGives FILE_BOUNDS old new script left fault)
    → fault ≡ Some ReadFault → (left.failures ≡ script.failures + 1) ⊎ (ends.over ≢ [])

-- a log has no more bytes than a file may have
abbrev pub WithinBytes : Option (Bor (List ℕ)) → Type 0
WithinBytes None = ⊤
WithinBytes (Some bytes) = length bytes.now ≤ MOST_BYTES
