use Rattle.std.proofs.Common.{subst}
use Rattle.std.specs.List.{AllByRecursion}
use Rattle.rt_text.specs.Widgets.{ViewValue, limits_of}
use Rattle.rt_lines.specs.Ordered.{LimitsAreInOrder}
use Rattle.rt_text.proofs.view.View.widget.Goals as goal

pub returns-clause-limits : goal.returns-clause-limits
returns-clause-limits g c = subst (λ (v : ViewValue). AllByRecursion (LimitsAreInOrder v.doc.cells) (limits_of v)) c.self.view_is c.self.invariant.limits
