use Rattle.std.proofs.Common.{◌∙◌, ap, arith, length}
use Rattle.rt_store.specs.Cells.{text_of}
use Rattle.rt_text.specs.Widgets.{ViewValue, stretch_by}
use Rattle.rt_lines.specs.Stretches.{stretch_of}
use Rattle.rt_text.proofs.view_ref.ViewRef.stretch.Goals as goal

pub returns-clause-value : goal.returns-clause-value
returns-clause-value g c = c.stretch.ensures.value ∙ ap (stretch_of c.self.inside.doc.now.cells) c.limits.ensures ∙ ap stretch_by c.self.view_is

pub returns-clause-within : goal.returns-clause-within
returns-clause-within g c = omega (arith, c.stretch.ensures.within, ap (λ (v : ViewValue). length (text_of v.doc.cells)) c.self.view_is)
