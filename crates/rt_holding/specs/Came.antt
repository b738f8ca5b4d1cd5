-- Which operations came to a site with a file that it received, told by how its offers went: each was refused, or it wasn't.
use mathlib.Core.Logic.{inl, inr}
use Rattle.std.specs.Prelude.{ℕ, Bool, true, false, List, [], ◌∷◌, if◌then◌else◌}
use Rattle.rt_stamps.specs.declared.fault.Fault.{Fault}
use Rattle.rt_stamps.specs.declared.fault.Fault.TheVariants.{NoMemory, TextFull, WaitingFull}
use Rattle.rt_ops.specs.Operations.{Operation}
use Rattle.rt_holding.specs.declared.receiving.Received.{Received}
use Rattle.rt_holding.specs.Receiving.{Behind, Offers, Receives, State}

-- memory was wanting, or cells, or a place among the held ones: an operation that was refused so is as one that didn't come
abbrev pub is_want : Fault → Bool
is_want NoMemory = true
is_want TextFull = true
is_want WaitingFull = true
is_want _ = false

module _ {Site : Type 0} (log : Site → List Operation) (limit : Site → ℕ) (after : Operation → Site → Site) where
  -- those that were offered, up to the first that was refused; that one too, unless something was wanting for it
  abbrev pub offered_in : (ops : List Operation) (offsets : List ℕ) (behind : Behind) (old : State Site) (received : Received) (new : State Site)
      → Offers log limit after ops offsets behind old received new → List Operation
  offered_in [] offsets behind old received new h = []
  offered_in (op ∷ ops) [] behind old received new h = []
  offered_in (op ∷ ops) (offset ∷ offsets) behind old received new (inl refused) = if is_want refused.fault then [] else op ∷ []
  offered_in (op ∷ ops) (offset ∷ offsets) behind old received new (inr more) =
      op ∷ offered_in ops offsets behind more.next more.rest new more.others

  -- so with a file; an operation whose record found no memory when it was read was never offered
  abbrev pub came_with : (bytes : List ℕ) (old : State Site) (received : Received) (new : State Site)
      → Receives log limit after bytes old received new → List Operation
  came_with bytes old received new h = offered_in h.ops h.offsets h.behind old received new h.offers
