use Rattle.std.proofs.Common.{◌≡◌, Ok, subst}
use Rattle.std.specs.Prelude.{IfOk}
use Rattle.rt_index.specs.Index.{index_of}
use Rattle.rt_text.specs.Widgets.{ViewValue, widget_of}
use Rattle.rt_text.proofs.view.View.place_within.Goals as goal

pub returns-clause-ok : goal.returns-clause-ok
returns-clause-ok g c =
    subst (λ (v : ViewValue). IfOk c.place_within.result (λ found. index_of (widget_of v) c.args.index.now ≡ Ok found.0)) c.shown.ensures c.place_within.ensures.ok
