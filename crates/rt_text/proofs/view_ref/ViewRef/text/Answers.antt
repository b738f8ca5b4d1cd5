use Rattle.std.proofs.Common.{◌≡◌, ◌∙◌, map, sym, ap}
use Rattle.std.specs.Prelude.{encode_utf8_all}
use Rattle.std.proofs.lemmas.Result.{IfOk-weaker}
use Rattle.rt_store.specs.Cells.{text_of}
use Rattle.rt_text.specs.Owned.{widget_value}
use Rattle.rt_text.specs.Ranges.{text_between}
use Rattle.rt_text.specs.Widgets.{text_shown}
use Rattle.rt_text.proofs.SeenLaws.{store_seen}
use Rattle.rt_lines.specs.Stretches.{part}
use Rattle.rt_text.proofs.view_ref.ViewRef.text.Goals as goal

pub returns-clause-ok : goal.returns-clause-ok
returns-clause-ok g c =
    let view = c.args.self.now in
    let store = g.S.TextStore.list c.between.result.0.now in
    let text : part c.between.result.1 (text_of store) ≡ text_shown view =
    store_seen view c.self.inside.doc.now (widget_value c.self.inside.widget.now) (map widget_value c.self.inside.others.now) c.limits.result c.between.result.1 (text_of store) c.self.view_is c.limits.ensures c.between.ensures.stretch c.between.ensures.text in
    IfOk-weaker c.shown_between.result _ _
    (λ found h. h ∙ ap (λ t. encode_utf8_all (text_between t c.args.from c.args.to)) text) c.shown_between.ensures.ok
