-- Calls of a site for which no memory was wanting: none was refused for it, and each try of a held operation found some. What is asked,
-- in a state, then has one answer, and leaves one state.
use Rattle.std.specs.Prelude.{◌≡◌, ◌≢◌, ℕ, Bool, true, false, List, Option, Result, Err, MatchBool}
use Rattle.rt_stamps.specs.declared.fault.Fault.{Fault}
use Rattle.rt_stamps.specs.declared.fault.Fault.TheVariants.{NoMemory}
use Rattle.rt_stamps.specs.Words.{Word}
use Rattle.rt_ops.specs.Operations.{Operation}
use Rattle.rt_ops.specs.Reading.{Reads}
use Rattle.rt_recording.specs.Edits.{text_with_new}
use Rattle.rt_holding.specs.declared.receiving.Received.{Received}
use Rattle.rt_holding.specs.Memory.{FileFoundMemory, FoundMemory}
use Rattle.rt_peers.specs.SiteStep.{AnswersInTurn, Gives, KeepsOperations, MakesAndTries, SiteReceives, has_made, outcome_at, text_limit, text_log}
use Rattle.rt_peers.specs.SiteValue.{SiteValue}
use Rattle.rt_peers.specs.ViewStep.{Outcome}

-- A REQUEST

-- the tries behind operations of its own, if some were made
abbrev pub TriesFoundMemory : (made : Bool) (old mid new : SiteValue)
    → MatchBool made (MakesAndTries old mid new) (KeepsOperations old mid × (new ≡ mid)) → Type 0
TriesFoundMemory true old mid new h = FoundMemory h.tries.tried.settles
TriesFoundMemory false old mid new h = Unit {0}

abbrev pub RequestFoundMemory : (outcome : Outcome SiteValue) (old : SiteValue) (result : Result (List Word) Fault) (new : SiteValue)
    → AnswersInTurn outcome old result new → Type 0
RequestFoundMemory outcome old result new h = (result ≢ Err NoMemory) × TriesFoundMemory (has_made old h.0) old h.0 new h.2

-- PATH COMMAND WORDS
abbrev pub GivesFoundMemory : (path : Word) (words : List Word) (old : SiteValue) (result : Result (List Word) Fault) (new : SiteValue)
    → Gives path words old result new → Type 0
GivesFoundMemory path words old result new h = RequestFoundMemory (outcome_at path old h.asked) old result new h.answers

-- A FILE

abbrev pub ReceivingFoundMemory : (bytes : List ℕ) (old : SiteValue) (received : Received) (new : SiteValue) → SiteReceives bytes old received new → Type 0
ReceivingFoundMemory bytes old received new h =
    FileFoundMemory text_log text_limit text_with_new bytes (record { site = old.text; held = old.held }) received
    (record { site = new.text; held = new.held }) h.text

-- ONE WAY

abbrev pub RequestsGoOneWay : Type 0
RequestsGoOneWay =
    (outcome : Outcome SiteValue) (old : SiteValue) (one two : Result (List Word) Fault) (new left : SiteValue)
    (h : AnswersInTurn outcome old one new) (k : AnswersInTurn outcome old two left)
    → RequestFoundMemory outcome old one new h → RequestFoundMemory outcome old two left k → (one ≡ two) × (new ≡ left)

abbrev pub CommandsGoOneWay : Type 0
CommandsGoOneWay =
    (path : Word) (words : List Word) (old : SiteValue) (one two : Result (List Word) Fault) (new left : SiteValue)
    (h : Gives path words old one new) (k : Gives path words old two left)
    → GivesFoundMemory path words old one new h → GivesFoundMemory path words old two left k → (one ≡ two) × (new ≡ left)

abbrev pub ReceivingGoesOneWay : Type 0
ReceivingGoesOneWay =
    (bytes : List ℕ) (old : SiteValue) (received other : Received) (new left : SiteValue)
    (h : SiteReceives bytes old received new) (k : SiteReceives bytes old other left)
    → ReceivingFoundMemory bytes old received new h → ReceivingFoundMemory bytes old other left k → (received ≡ other) × (new ≡ left)

-- SUCH FILES ARE THERE

-- each file that is read can be received by a site, with memory found
abbrev pub ReceivingFindsMemory : Type 0
ReceivingFindsMemory =
    (bytes : List ℕ) (ops : List Operation) (offsets : List ℕ) (ending : Option (Fault × ℕ)) (old : SiteValue) → Reads bytes ops offsets ending
    → (received : Received) × (new : SiteValue) × (h : SiteReceives bytes old received new) × ReceivingFoundMemory bytes old received new h
