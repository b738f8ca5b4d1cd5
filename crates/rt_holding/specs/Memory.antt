-- Where no memory was wanting, there is at most one way that things go.
use Rattle.std.specs.Prelude.{◌≡◌, ◌≢◌, ℕ, List, [], ◌∷◌, Ok, Option}
use mathlib.Core.Logic.{inl, inr}
use Rattle.rt_stamps.specs.declared.fault.Fault.{Fault}
use Rattle.rt_stamps.specs.declared.fault.Fault.TheVariants.{NoMemory}
use Rattle.rt_ops.specs.Operations.{Operation}
use Rattle.rt_ops.specs.Reading.{Reads}
use Rattle.rt_oplog.specs.Logs.{with_operation}
use Rattle.rt_rga.specs.Answers.{New, answer_within}
use Rattle.rt_holding.specs.declared.held.Offered.{Offered}
use Rattle.rt_holding.specs.declared.held.Offered.TheVariants as offered
use Rattle.rt_holding.specs.declared.receiving.Received.{Received}
use Rattle.rt_holding.specs.Holding.{Holding, Settles, rest, takes, drops, lacks, settled, taken_then}
use Rattle.rt_holding.specs.Receiving.{Behind, AtEnd, Offers, Receives, State, Unread, Wanting, reply_at}
use Rattle.rt_holding.specs.Replies.{Refused}
use Rattle.rt_holding.specs.Taken.{IsOffered, replied}

-- each try of a held operation found memory
abbrev pub FoundMemory : {limit : ℕ} {wanting more : List Operation} {s t : Holding} → Settles limit wanting s t more → Type 0
FoundMemory (rest none) = Unit {0}
FoundMemory (takes next new later) = FoundMemory later
FoundMemory (drops next gone later) = FoundMemory later
FoundMemory (lacks next new later) = ⊥

-- then what becomes of held operations is what `settled` says
abbrev pub SettlesAlone : Type 0
SettlesAlone =
    (limit : ℕ) (s t : Holding) (more : List Operation) (h : Settles limit [] s t more) → FoundMemory h
    → (t ≡ settled limit s) × (more ≡ taken_then limit s)

-- and from each state there are such tries, which lead to what `settled` says
abbrev pub SettledFindsMemory : Type 0
SettledFindsMemory = (limit : ℕ) (s : Holding) → (h : Settles limit [] s (settled limit s) (taken_then limit s)) × FoundMemory h

-- no memory was wanting for what came behind the operations of a file
abbrev pub WasRead : Behind → Type 0
WasRead (AtEnd ending) = Unit {0}
WasRead (Wanting offset) = ⊥
WasRead Unread = Unit {0}

module _ {Site : Type 0} (log : Site → List Operation) (limit : Site → ℕ) (after : Operation → Site → Site) where
  -- each try behind an operation that was taken found memory; behind another none is made
  abbrev pub OfferFoundMemory : (most : ℕ) (op : Operation) (answer : Offered)
      (old : Site) (held : List Operation) (new : Site) (left : List Operation)
      → IsOffered log after most op answer old held new left → Type 0
  OfferFoundMemory most op (offered.New more) old held new left h = FoundMemory h.settles
  OfferFoundMemory most op offered.Repeat old held new left h = Unit {0}
  OfferFoundMemory most op offered.Held old held new left h = Unit {0}

  -- no operation of a file was refused for want of memory, each try behind one found some, and so did the reading of what is behind them
  abbrev pub OffersFoundMemory : (ops : List Operation) (offsets : List ℕ) (behind : Behind)
      (old : State Site) (received : Received) (new : State Site)
      → Offers log limit after ops offsets behind old received new → Type 0
  OffersFoundMemory [] offsets behind old received new h = WasRead behind
  OffersFoundMemory (op ∷ ops) [] behind old received new h = ⊥
  OffersFoundMemory (op ∷ ops) (offset ∷ offsets) behind old received new (inl refused) = refused.fault ≢ NoMemory
  OffersFoundMemory (op ∷ ops) (offset ∷ offsets) behind old received new (inr more) =
      OfferFoundMemory (limit old.site) op more.offered old.site old.held more.next.site more.next.held more.is_offered
      × OffersFoundMemory ops offsets behind more.next more.rest new more.others

  -- so for a file
  abbrev pub FileFoundMemory : (bytes : List ℕ) (old : State Site) (received : Received) (new : State Site)
      → Receives log limit after bytes old received new → Type 0
  FileFoundMemory bytes old received new h = OffersFoundMemory h.ops h.offsets h.behind old received new h.offers

  -- then a file has at most one answer, and leaves at most one state
  abbrev pub FilesGoOneWay : Type 0
  FilesGoOneWay =
      (bytes : List ℕ) (old : State Site) (received other : Received) (new left : State Site)
      (one : Receives log limit after bytes old received new) (two : Receives log limit after bytes old other left)
      → FileFoundMemory bytes old received new one → FileFoundMemory bytes old other left two
      → (received ≡ other) × (new ≡ left)

  -- THERE IS SUCH A WAY

  -- What is new comes to the log of the site that takes it, and the limit stays: a `Taking` promises so of each operation that its `take` took.
  abbrev pub TakesNew : Type 0
  TakesNew =
      (op : Operation) (site : Site) → answer_within (limit site) op (log site) ≡ New
      → (log (after op site) ≡ with_operation op (log site)) × (limit (after op site) ≡ limit site)

  -- Then, in each state, for an operation whose reply is no refusal there is an answer with that reply, and a state to which the offer
  -- leads, each try behind it having found memory.
  abbrev pub OffersFindMemory : Type 0
  OffersFindMemory =
      TakesNew → (op : Operation) (old : State Site) → ((fault : Fault) → reply_at log limit after op old ≢ Refused fault)
      → (answer : Offered) × (new : State Site) × (reply_at log limit after op old ≡ replied (Ok answer))
      × (h : IsOffered log after (limit old.site) op answer old.site old.held new.site new.held)
      × OfferFoundMemory (limit old.site) op answer old.site old.held new.site new.held h

  -- Likewise, for a file that is read as operations, there is what is told of it, and a state to which it leads.
  abbrev pub FilesFindMemory : Type 0
  FilesFindMemory =
      TakesNew → (bytes : List ℕ) (ops : List Operation) (offsets : List ℕ) (ending : Option (Fault × ℕ)) (old : State Site)
      → Reads bytes ops offsets ending
      → (received : Received) × (new : State Site) × (h : Receives log limit after bytes old received new)
      × FileFoundMemory bytes old received new h
