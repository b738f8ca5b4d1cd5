use Rattle.std.proofs.Common.{subst}
use Rattle.std.specs.List.{AllByRecursion}
use Rattle.rt_recording.specs.EditedValue.{EditedValue}
use Rattle.rt_text.specs.Widgets.{limits_of}
use Rattle.rt_lines.specs.Ordered.{LimitsAreInOrder}
use Rattle.rt_peers.proofs.text.EditedText.log.Goals as goal

pub returns-clause-limits : goal.returns-clause-limits
returns-clause-limits c = subst (λ (t : EditedValue). AllByRecursion (LimitsAreInOrder t.view.doc.cells) (limits_of t.view)) c.self.view_is c.widget.ensures.limits
