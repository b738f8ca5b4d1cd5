use Rattle.std.proofs.Common.{◌∙◌, ap, arith, length, sym}
use Rattle.rt_store.specs.Cells.{visible_of}
use Rattle.rt_store.specs.Shown.{TaggedCell}
use Rattle.rt_text.specs.Widgets.{stretch_by}
use Rattle.rt_lines.specs.Stretches.{part}
use Rattle.rt_lines.proofs.Parts.{part_map}
use Rattle.rt_tagcmd.proofs.searching.shown.Goals as goal

pub of-requires-clause-within : goal.of-requires-clause-within
of-requires-clause-within g c = omega (arith, c.stretch.ensures.within, ap length c.store.ensures.text)

pub returns : goal.returns
returns g c =
    let view = c.args.view.now in
    c.of.ensures ∙ (λ i. part (c.stretch.ensures.value i) (c.store.ensures.text i))
    ∙ sym (part_map (λ (cell : TaggedCell). cell.ch) (stretch_by view) (visible_of view.doc.cells))
