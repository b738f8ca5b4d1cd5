-- A whole run has one output: what it writes, and the site that it leaves, are decided by what it is given, where no memory was wanting.
use mathlib.Core.Logic.{inl, inr}
use Rattle.std.specs.Prelude.{◌≡◌, ℕ, true, false, List, [], ◌∷◌, Option, None, Some, option_map, MatchOption, codes}
use Rattle.std.specs.Borrow.{Bor}
use Rattle.std.specs.Str.{bytes_eq}
use Rattle.rt_stamps.specs.declared.fault.Fault.TheVariants.{NoFile}
use Rattle.rt_stamps.specs.Words.{Word}
use Rattle.rt_holding.specs.declared.receiving.Received.{Received}
use Rattle.rt_peers.specs.Memory.{GivesFoundMemory, ReceivingFoundMemory}
use Rattle.rt_peers.specs.SiteStep.{SiteReceives}
use Rattle.rt_peers.specs.SiteValue.{SiteValue, new_site}
use Rattle.rt_script.specs.declared.answer.Answer.{Answer}
use Rattle.rt_script.specs.declared.answer.Answer.TheVariants as answers
use Rattle.rt_script.specs.Lived.{IsScriptRun}
use Rattle.rt_script.specs.Lines.{answered_lines, lines_of}
use Rattle.rt_script.specs.Run.{LineGives, RunsLines}
use Rattle.rt_script.specs.Site.{LineIsRefused, NamedFile, ReceiveGives, Session, SiteGives, WordsGive, file_named}
use Rattle.rt_script.specs.SiteRun.{BeginsFrom}
use Rattle.rt_stamps.specs.declared.limits.TheConstants.{MOST_CELLS}

-- WHERE NO MEMORY WAS WANTING

-- for a file that was named, if it is there
abbrev pub NamedFileFoundMemory : (found : Option (List ℕ)) (old : SiteValue) (answer : Answer) (new : SiteValue)
    → MatchOption found (LineIsRefused NoFile old answer new)
    (λ bytes. (received : Received) × (answer ≡ answers.Received received) × SiteReceives bytes old received new)
    → Type 0
NamedFileFoundMemory None old answer new h = Unit {0}
NamedFileFoundMemory (Some bytes) old answer new h = ReceivingFoundMemory bytes old h.0 new h.2

-- `receive NAME`
abbrev pub ReceiveFoundMemory : (files : List NamedFile) (words : List Word) (old : SiteValue) (answer : Answer) (new : SiteValue)
    → ReceiveGives files words old answer new → Type 0
ReceiveFoundMemory files (name ∷ []) old answer new h = NamedFileFoundMemory (file_named name files) old answer new h
ReceiveFoundMemory files [] old answer new h = Unit {0}
ReceiveFoundMemory files (name ∷ more ∷ words) old answer new h = Unit {0}

-- the words of a line
abbrev pub WordsFoundMemory : (files : List NamedFile) (words : List Word) (old : SiteValue) (answer : Answer) (new : SiteValue)
    → WordsGive files words old answer new → Type 0
WordsFoundMemory files [] old answer new h = Unit {0}
WordsFoundMemory files (first ∷ words) old answer new h =
    ((is : bytes_eq first (codes "receive") ≡ true) → ReceiveFoundMemory files words old answer new (h.0 is))
    × ((no : bytes_eq first (codes "receive") ≡ false) (nor : bytes_eq first (codes "destroy") ≡ false)
    → GivesFoundMemory first words old ((h.1 no).1 nor).0 new ((h.1 no).1 nor).2)

-- a line
abbrev pub LineFoundMemory : (old : Session) (line : List ℕ) (answer : Answer) (new : Session) → LineGives SiteGives old line answer new → Type 0
LineFoundMemory old line answer new (inl h) = WordsFoundMemory old.files h.1.0 old.site answer new.site h.1.2.1
LineFoundMemory old line answer new (inr (inl h)) = Unit {0}
LineFoundMemory old line answer new (inr (inr h)) = ⊥

-- lines, one after the other
abbrev pub LinesFoundMemory : (old : Session) (lines : List (List ℕ)) (given : List Answer) (new : Session) → RunsLines SiteGives old lines given new → Type 0
LinesFoundMemory old [] [] new h = Unit {0}
LinesFoundMemory old [] (answer ∷ given) new h = Unit {0}
LinesFoundMemory old (line ∷ lines) [] new h = Unit {0}
LinesFoundMemory old (line ∷ lines) (answer ∷ given) new h =
    LineFoundMemory old line answer h.0 h.1 × LinesFoundMemory h.0 lines given new h.2

-- the log that a site begins with
abbrev pub BeginFoundMemory : (number : ℕ) (log : Option (Bor (List ℕ))) (start : SiteValue) → BeginsFrom number log start → Type 0
BeginFoundMemory number None start h = Unit {0}
BeginFoundMemory number (Some log) start h = ReceivingFoundMemory log.now (new_site number MOST_CELLS) h.0 start h.1

-- ONE OUTPUT

-- Lines that are run one after the other have at most one answer each, and leave at most one site.
abbrev pub LinesGoOneWay : Type 0
LinesGoOneWay =
    (lines : List (List ℕ)) (one two : List Answer) (old new left : Session)
    (h : RunsLines SiteGives old lines one new) (k : RunsLines SiteGives old lines two left)
    → LinesFoundMemory old lines one new h → LinesFoundMemory old lines two left k → (one ≡ two) × (new ≡ left)

-- what a run is given: a log to begin with, if there is one, the files that its lines may name, and the bytes of its script
pub record Given : Type 0 where
  pub log : Option (List ℕ)
  pub files : List NamedFile
  pub script : List ℕ

-- A run was given so much, and ended with no fault; no memory was wanting for it, and it wrote these bytes.
pub record IsWholeRun {number : ℕ} {end : SiteValue} (run : IsScriptRun number end) (given : Given) (written : List ℕ) : Type 0 where
  pub log : option_map (λ bytes. bytes.now) run.log ≡ given.log
  pub files : run.files ≡ given.files
  pub script : run.script.bytes ≡ Some given.script
  pub before : run.before.bytes ≡ Some []
  pub after : run.after.bytes ≡ Some written
  pub whole : run.outcome.fault ≡ None
  pub begins : BeginFoundMemory number run.log run.start run.begins
  pub finds : LinesFoundMemory (record { site = run.start; files = run.files }) (answered_lines (lines_of run.runs.0.read)) (run.runs.0.whole whole).2.answers
      (record { site = run.outcome.site; files = run.files }) (run.runs.0.whole whole).2.runs

-- Such runs write the same text, and leave the same site.
abbrev pub RunsHaveOneOutput : Type 0
RunsHaveOneOutput =
    (number : ℕ) (given : Given) (end other : SiteValue) (run : IsScriptRun number end) (again : IsScriptRun number other) (written rewritten : List ℕ)
    → IsWholeRun run given written → IsWholeRun again given rewritten → (written ≡ rewritten) × (end ≡ other)
