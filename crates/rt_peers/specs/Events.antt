-- Calls of a site, one after the other, and what they are answered. Where no memory was wanting, the first state and the calls decide all
-- answers and the state in the end.
use Rattle.std.specs.Prelude.{◌≡◌, ℕ, List, [], ◌∷◌, Result}
use Rattle.std.specs.List.{Contains}
use Rattle.rt_stamps.specs.declared.fault.Fault.{Fault}
use Rattle.rt_stamps.specs.Words.{Word}
use Rattle.rt_requests.specs.declared.request.Request.{Request}
use Rattle.rt_ops.specs.Operations.{Operation}
use Rattle.rt_holding.specs.declared.receiving.Received.{Received}
use Rattle.rt_peers.specs.Lives.{IsOfFile, LivesOn}
use Rattle.rt_peers.specs.Memory.{GivesFoundMemory, ReceivingFoundMemory, RequestFoundMemory}
use Rattle.rt_peers.specs.PeerStep.{Destroys}
use Rattle.rt_peers.specs.SiteStep.{AnswersInTurn, Gives, SiteReceives, step_at}
use Rattle.rt_peers.specs.SiteValue.{SiteValue}

-- CALLS

-- A call that may change a site, with what it is given. `SiteState` has a call of each name; `receive_telling` is a Receive,
-- `answer_telling` an Answer, `command_telling` a Command. What is asked of a number (`ask`, `ask_telling`, `undo`, `redo`) is an Answer of
-- the path with that number (`laws::numbers`); where it is refused for its number, or as one of peers, the site is as it was.
pub data Event : Type 0 where
  -- command words of the widget of a path
  Command : (path : Word) (words : List Word) → Event
  -- a request to it
  Answer : (path : Word) (request : Request) → Event
  -- it goes
  Destroy : (path : Word) → Event
  -- the bytes of a file
  Receive : (bytes : List ℕ) → Event

-- what a call tells: a reply or a fault; or what became of a file
pub data EventAnswer : Type 0 where
  Replied : (result : Result (List Word) Fault) → EventAnswer
  OfFile : (received : Received) → EventAnswer

-- What an event tells in a state, and the state after it: by the clause `answers` of the call's contract, or by its only ones. Of a
-- file `OfFile` tells, and of all else `Replied`.
abbrev pub EventGives : Event → SiteValue → EventAnswer → SiteValue → Type 0
EventGives (Command path words) old (Replied result) new = Gives path words old result new
EventGives (Answer path request) old (Replied result) new = AnswersInTurn (step_at path old request) old result new
EventGives (Destroy path) old (Replied result) new = Destroys path old result new
EventGives (Receive bytes) old (OfFile received) new = SiteReceives bytes old received new
EventGives event old told new = ⊥

-- this is told of some events, one after the other
abbrev pub EventsGive : List Event → SiteValue → List EventAnswer → SiteValue → Type 0
EventsGive [] old [] new = new ≡ old
EventsGive (event ∷ events) old (told ∷ more) new = (mid : SiteValue) × EventGives event old told mid × EventsGive events mid more new
EventsGive [] old (told ∷ more) new = ⊥
EventsGive (event ∷ events) old [] new = ⊥

-- WHERE NO MEMORY WAS WANTING

-- an event found memory; `destroy` takes none
abbrev pub EventFoundMemory : (event : Event) (old : SiteValue) (told : EventAnswer) (new : SiteValue) → EventGives event old told new → Type 0
EventFoundMemory (Command path words) old (Replied result) new h = GivesFoundMemory path words old result new h
EventFoundMemory (Answer path request) old (Replied result) new h = RequestFoundMemory (step_at path old request) old result new h
EventFoundMemory (Destroy path) old (Replied result) new h = Unit {0}
EventFoundMemory (Receive bytes) old (OfFile received) new h = ReceivingFoundMemory bytes old received new h
EventFoundMemory event old told new h = Unit {0}

-- each of some events found memory
abbrev pub EventsFoundMemory : (events : List Event) (old : SiteValue) (told : List EventAnswer) (new : SiteValue) → EventsGive events old told new → Type 0
EventsFoundMemory (event ∷ events) old (told ∷ more) new h = EventFoundMemory event old told h.0 h.1 × EventsFoundMemory events h.0 more new h.2
EventsFoundMemory events old told new h = Unit {0}

-- ONE WAY

-- What the same events do twice from one state on, where they found memory, is told alike and leaves one state.
abbrev pub EventsGoOneWay : Type 0
EventsGoOneWay =
    (events : List Event) (one two : List EventAnswer) (old new left : SiteValue)
    (h : EventsGive events old one new) (k : EventsGive events old two left)
    → EventsFoundMemory events old one new h → EventsFoundMemory events old two left k → (one ≡ two) × (new ≡ left)

-- WHAT CAME

-- an operation of a file that one of some events receives
abbrev pub IsOfReceived : List Event → Operation → Type 0
IsOfReceived events op = (bytes : List ℕ) × Contains events (Receive bytes) × IsOfFile bytes op

-- Whatever is asked of a site that lives, it lives on: what came to it with the events are operations of its own number, and of files that
-- they receive.
abbrev pub EventsLive : Type 0
EventsLive = (events : List Event) (told : List EventAnswer) (old new : SiteValue) → EventsGive events old told new → LivesOn (IsOfReceived events) old new
