use Rattle.std.proofs.Common.{◌∙◌, ◌-◌, ◌^◌, ap, arith}
use Rattle.std.specs.Prelude.{encode_utf8_all}
use Rattle.std.proofs.lemmas.Result.{IfOk-weaker}
use Rattle.rt_store.specs.Cells.{text_of}
use Rattle.rt_text.proofs.TextLaws.{between_in_part}
use Rattle.rt_text.proofs.range.shown_between.Goals as goal

pub returns-clause-ok : goal.returns-clause-ok
returns-clause-ok g c =
    let t = text_of (g.S.TextStore.list c.args.store.now) in
    IfOk-weaker c.text_between.result _ _
    (λ found h. h ∙ ap encode_utf8_all (between_in_part t c.args.stretch c.args.from c.args.to c.saturating_add-begin.result c.saturating_add.result c.min-end.result (2 ^ 64 - 1) (omega arith)
    c.saturating_add-begin.ensures c.saturating_add.ensures c.min-end.ensures))
    c.text_between.ensures.ok
