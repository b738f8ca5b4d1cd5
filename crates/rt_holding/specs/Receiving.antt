-- What a file of operations does to a site that receives it, and to what is held for it.
use Rattle.std.specs.Prelude.{◌≡◌, ◌⊎◌, ℕ, ◌+◌, List, [], ◌∷◌, length, Option, Some, Ok}
use Rattle.rt_stamps.specs.declared.fault.Fault.{Fault}
use Rattle.rt_stamps.specs.declared.fault.Fault.TheVariants.{NoMemory}
use Rattle.rt_ops.specs.declared.version.Version.{Version}
use Rattle.rt_ops.specs.File.{file_of}
use Rattle.rt_ops.specs.Operations.{Operation}
use Rattle.rt_ops.specs.Reading.{IsBegunIn, Reads, StandsWhole, offsets_from}
use Rattle.rt_holding.specs.declared.held.Offered.{Offered}
use Rattle.rt_holding.specs.declared.held.Offered.TheVariants as offered
use Rattle.rt_holding.specs.declared.receiving.Received.{Received}
use Rattle.rt_holding.specs.Holding.{reply_to}
use Rattle.rt_holding.specs.Replies.{Reply}
use Rattle.rt_holding.specs.Taken.{IsOffered, IsRefused, site_holding, replied}

-- HOW FAR A FILE IS READ

-- What came behind the operations that were read: the end of the file, or the first fault of its reading; or a record for which memory
-- was wanting, with its offset. Or it stays unread, as one of the operations was refused.
pub data Behind : Type 0 where
  AtEnd : (ending : Option (Fault × ℕ)) → Behind
  Wanting : (offset : ℕ) → Behind
  Unread : Behind

-- the bytes of a file are read as these operations, each with the offset of its record, and then comes what is behind them
abbrev pub ReadsUpTo : List ℕ → List Operation → List ℕ → Behind → Type 0
ReadsUpTo bytes ops offsets (AtEnd ending) = Reads bytes ops offsets ending
ReadsUpTo bytes ops offsets (Wanting offset) =
    (version : Version) × (begun : IsBegunIn version bytes ops) × StandsWhole version begun.0 × (offsets ≡ offsets_from version 8 ops)
    × (offset ≡ length (file_of version ops))
ReadsUpTo bytes ops offsets Unread = (version : Version) × IsBegunIn version bytes ops × (offsets ≡ offsets_from version 8 ops)

-- What is told where none of the operations was refused. It doesn't come to that where what is behind them stays unread.
abbrev pub IsToldOf : Behind → Option (Fault × ℕ) → Type 0
IsToldOf (AtEnd ending) told = told ≡ ending
IsToldOf (Wanting offset) told = told ≡ Some (NoMemory, offset)
IsToldOf Unread told = ⊥

-- HOW ITS OPERATIONS ARE OFFERED

-- no operation was accepted, and these are held
abbrev pub none_accepted : Option (Fault × ℕ) → List Operation → Received
none_accepted ending held = record { new = 0; repeats = 0; held = length held; fault = ending }

-- One more was offered before others: it was new, and so many were taken after it; or it was there already, or it is held.
abbrev pub one_more : Offered → Received → Received
one_more (offered.New more) received = record received { new = 1 + more + received.new }
one_more offered.Repeat received = record received { repeats = 1 + received.repeats }
one_more offered.Held received = received

-- how many it counts
abbrev pub counts_as : Offered → ℕ
counts_as (offered.New more) = 1 + more
counts_as offered.Repeat = 1
counts_as offered.Held = 0

-- a site, and the operations that are held for it
pub record State (Site : Type 0) : Type 0 where
  pub site : Site
  pub held : List Operation

module _ {Site : Type 0} (log : Site → List Operation) (limit : Site → ℕ) (after : Operation → Site → Site) where
  abbrev pub reply_at : Operation → State Site → Reply
  reply_at op s = reply_to (limit s.site) op (site_holding log s.site s.held)

  -- None of the operations was refused: what came behind them is told.
  pub record AllAreOffered (behind : Behind) (old : State Site) (received : Received) (new : State Site) : Type 0 where
    pub told : Option (Fault × ℕ)
    pub ends : IsToldOf behind told
    pub counted : received ≡ none_accepted told old.held
    pub same : new ≡ old

  -- An operation is refused: its fault is told with the offset of its record. Nothing changes, and none behind it is offered.
  pub record EndsRefused (op : Operation) (offset : ℕ) (old : State Site) (received : Received) (new : State Site) : Type 0 where
    pub fault : Fault
    pub refused : IsRefused (reply_at op old) fault
    pub counted : received ≡ none_accepted (Some (fault, offset)) old.held
    pub same : new ≡ old

  -- An operation isn't refused, and the others are offered behind it.
  pub record OffersOneMore (Others : State Site → Received → Type 0) (op : Operation) (old : State Site) (received : Received) : Type 0 where
    pub offered : Offered
    -- the state after it
    pub next : State Site
    -- what is received with the others
    pub rest : Received
    pub reply : reply_at op old ≡ replied (Ok offered)
    pub is_offered : IsOffered log after (limit old.site) op offered old.site old.held next.site next.held
    pub counted : received ≡ one_more offered rest
    pub others : Others next rest

  -- Operations are offered one after the other, each with the offset of its record, up to the first that is refused. Want of memory
  -- may refuse one that is new, or that is to be held. Those before it stay accepted or held.
  abbrev pub Offers : List Operation → List ℕ → Behind → State Site → Received → State Site → Type 0
  Offers [] offsets behind old received new = AllAreOffered behind old received new
  Offers (op ∷ ops) [] behind old received new = ⊥
  Offers (op ∷ ops) (offset ∷ offsets) behind old received new =
      EndsRefused op offset old received new ⊎ OffersOneMore (λ next rest. Offers ops offsets behind next rest new) op old received

  -- A file is read, and each operation offered before what is behind it is looked at.
  pub record Receives (bytes : List ℕ) (old : State Site) (received : Received) (new : State Site) : Type 0 where
    -- those that are read, each with the offset of its record
    pub ops : List Operation
    pub offsets : List ℕ
    pub behind : Behind
    pub read : ReadsUpTo bytes ops offsets behind
    pub offers : Offers ops offsets behind old received new
