-- The program over a reader and a writer that are new: nothing was read of the one, nothing was written to the other.
use Rattle.std.specs.Prelude.{◌≡◌, ◌⊎◌, ℕ, Bool, List, Option, Some, None, is_some, map, Result, Ok, Err, MatchResult, Vec, string_bytes}
use Rattle.std.specs.Borrow.{Bor}
use Rattle.std.specs.declared.alloc.Global.{Global}
use Rattle.std.specs.declared.io.ErrorKind.{ErrorKind}
use Rattle.rt_stamps.specs.declared.fault.Fault.{Fault}
use Rattle.rt_stamps.specs.Streams.{Stream}
use Rattle.rt_stamps.specs.Words.{Word}
use Rattle.rt_program.specs.declared.ending.Failure.{Failure}
use Rattle.rt_program.specs.Endings.{first_failure, run_failure, write_failure}
use Rattle.rt_program.specs.Readers.{ReadsFresh, fresh}
use Rattle.rt_script.specs.Site.{GivenFile, NamedFile}
use Rattle.rt_script.specs.SiteRun.{Begins, RunsScript}
use Rattle.rt_script.specs.SiteValue.{SiteValue}
use Rattle.rt_script.specs.declared.site_run.ScriptRun.{ScriptRun}

-- the names of files, in order
abbrev pub names_of_files : List GivenFile → List Word
names_of_files files = map (λ file. string_bytes file.0) files

-- A site begins with all bytes of a file. Or it doesn't, as these were not read, or as it refuses them.
abbrev pub BeginsFresh : ℕ → Option (List ℕ) → Stream → Result SiteValue (Fault × ℕ) → Type 0
BeginsFresh site file left result =
    (read : Result (Vec ℕ Global) Fault) × ReadsFresh file left read × MatchResult read
    (λ bytes. (log : Bor (List ℕ)) × (log.now ≡ bytes.items) × Begins site (Some log) result)
    (λ fault. result ≡ Err (fault, 0))

-- a script is run by a site, and the lines of its answers stand behind what was written before
abbrev pub RunsFresh : List NamedFile → SiteValue → Bool → Option (List ℕ) → Stream → Option (List ℕ) → Stream → ScriptRun → Type 0
RunsFresh files site wants_log script left before after outcome = RunsScript files site wants_log (fresh script) left (fresh before) after outcome

-- Where the log is told and wanted its file was written, or it wasn't. Where telling it found no memory, that is the failure.
abbrev pub WritesLog : Option (Bor (List ℕ)) → Option (Result (Vec ℕ Global) Fault) → Option Failure → Type 0
WritesLog out None written = written ≡ None
WritesLog out (Some (Err fault)) written = written ≡ run_failure (Some fault)
WritesLog None (Some (Ok bytes)) written = written ≡ None
WritesLog (Some path) (Some (Ok bytes)) written = (written ≡ None) ⊎ ((kind : ErrorKind) × (written ≡ Some (write_failure kind path)))

-- The program fails as the run did; or else as the log's file was written.
abbrev pub ProgramRuns : List NamedFile → SiteValue → Option (Bor (List ℕ)) → Option (List ℕ) → Stream → Option (List ℕ) → Stream → Option Failure → Type 0
ProgramRuns files site out script left before after failure =
    (outcome : ScriptRun) × (written : Option Failure) × RunsFresh files site (is_some out) script left before after outcome
    × WritesLog out outcome.log written × (failure ≡ first_failure outcome.fault written)
