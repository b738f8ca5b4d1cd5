-- Whole runs: what becomes of the operations of a site that runs a script, from its beginning on.
use Rattle.std.specs.Prelude.{◌≡◌, ◌⊎◌, ℕ, ◌<◌, Bool, List, Option, None, Some, Ok}
use Rattle.std.specs.Borrow.{Bor}
use Rattle.rt_stamps.specs.declared.limits.TheConstants.{MOST_CELLS}
use Rattle.rt_stamps.specs.Streams.{Stream}
use Rattle.rt_stamps.specs.Words.{Word}
use Rattle.rt_ops.specs.Operations.{Operation}
use Rattle.rt_oplog.specs.Logs.{HasOp}
use Rattle.rt_peers.specs.Lives.{IsOfFile, Lives, LivesOn}
use Rattle.rt_peers.specs.SiteValue.{SiteValue}
use Rattle.rt_script.specs.declared.site_run.ScriptRun.{ScriptRun}
use Rattle.rt_script.specs.Site.{NamedFile, file_named}
use Rattle.rt_script.specs.SiteRun.{Begins, RunsScript}

-- A site of a number begins, perhaps with a log, and runs a script; it is left so.
pub record IsScriptRun (number : ℕ) (end : SiteValue) : Type 0 where
  pub log : Option (Bor (List ℕ))
  pub start : SiteValue
  pub begins : Begins number log (Ok start)
  pub files : List NamedFile
  pub wants_log : Bool
  pub script : Stream
  pub left : Stream
  pub before : Stream
  pub after : Stream
  pub outcome : ScriptRun
  pub runs : RunsScript files start wants_log script left before after outcome
  pub is_end : outcome.site ≡ end

-- an operation is of the log that a site begins with
abbrev pub IsOfFirstLog : Option (Bor (List ℕ)) → Operation → Type 0
IsOfFirstLog None op = ⊥
IsOfFirstLog (Some log) op = IsOfFile log.now op

-- it is of a file that a line of a script may name
abbrev pub IsOfNamed : List NamedFile → Operation → Type 0
IsOfNamed files op = (name : Word) × (bytes : List ℕ) × (file_named name files ≡ Some bytes) × IsOfFile bytes op

-- However the run ends, some operations came to the site: of its own number, of the log that it began with, and of files that its
-- lines may name.
abbrev pub RunsLive : Type 0
RunsLive =
    (number : ℕ) (end : SiteValue) → 0 < number → (run : IsScriptRun number end)
    → (came : List Operation) × Lives number MOST_CELLS end came
    × ((op : Operation) → HasOp came op → (op.site ≡ number) ⊎ (IsOfFirstLog run.log op ⊎ IsOfNamed run.files op))

-- A site that goes on to run a script lives on, however the run ends: to it came operations of its own number, and of files that the
-- lines may name.
abbrev pub ScriptsLiveOn : Type 0
ScriptsLiveOn =
    (files : List NamedFile) (site : SiteValue) (wants_log : Bool) (script left before after : Stream) (outcome : ScriptRun)
    → RunsScript files site wants_log script left before after outcome → LivesOn (IsOfNamed files) site outcome.site
