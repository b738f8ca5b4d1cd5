-- What a site that holds early operations replies to an operation that is offered.
use Rattle.rt_stamps.specs.declared.fault.Fault.{Fault}

-- it is taken, or had already, or held until what it was made upon is there, or refused
pub data Reply : Type 0 where
  New : Reply
  Repeat : Reply
  Held : Reply
  Refused : (fault : Fault) → Reply
