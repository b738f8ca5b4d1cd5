use Rattle.std.proofs.Common.{◌∙◌, ap, length, sym}
use Rattle.rt_holding.specs.Grown.{HeldValue}
use Rattle.rt_holding.proofs.Places.{length_in}
use Rattle.rt_holding.proofs.held.Held.len.Goals as goal

pub returns-clause-len : goal.returns-clause-len
returns-clause-len c =
    c.len.ensures.len ∙ sym (length_in c.self.inside.arrivals c.self.inside.ops.entries c.self.invariant.held.places) ∙ ap (λ (v : HeldValue). length v.held) c.self.view_is
