use Rattle.std.proofs.Common.{◌≡◌, ◌≤◌, Ok, subst}
use Rattle.std.specs.Prelude.{IfOk}
use Rattle.rt_index.specs.Index.{index_of}
use Rattle.rt_text.specs.Widgets.{ViewValue, length_shown, widget_of}
use Rattle.rt_text.proofs.view.View.place.Goals as goal

pub returns-clause-ok : goal.returns-clause-ok
returns-clause-ok g c =
    subst (λ (v : ViewValue). IfOk c.place.result (λ place. index_of (widget_of v) c.args.index.now ≡ Ok place)) c.shown.ensures c.place.ensures.ok

pub returns-clause-within : goal.returns-clause-within
returns-clause-within g c = subst (λ (v : ViewValue). IfOk c.place.result (λ place. place ≤ length_shown v)) c.shown.ensures c.place.ensures.within
