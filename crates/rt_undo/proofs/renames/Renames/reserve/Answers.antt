use Rattle.std.proofs.Common.{◌∙◌, ap}
use Rattle.rt_undo.specs.Renames.{now_of}
use Rattle.rt_undo.proofs.Following.{now_same, rising_same}
use Rattle.rt_undo.proofs.renames.Renames.reserve.Goals as goal

pub invariant_of-self : goal.invariant_of-self
invariant_of-self c = rising_same c.self.inside.map c.reserve.new.self c.reserve.ensures.values c.self.invariant

pub returns-clause-now : goal.returns-clause-now
returns-clause-now c = λ s. now_same c.self.inside.map c.reserve.new.self c.reserve.ensures.values s ∙ ap (λ m. now_of m s) c.self.view_is
