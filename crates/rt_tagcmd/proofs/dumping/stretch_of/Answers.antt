use Rattle.std.proofs.Common.{◌-◌, ◌≤◌, ap, arith, drop, length}
use Rattle.std.proofs.lemmas.List.{length-drop, length-map, length-take}
use Rattle.rt_plans.proofs.PlaceLaws.{text_within}
use Rattle.rt_store.specs.Cells.{text_of, visible_of}
use Rattle.rt_store.specs.Shown.{TaggedCell}
use Rattle.rt_text.specs.Widgets.{length_shown, cells_shown, stretch_by}
use Rattle.rt_tagcmd.proofs.dumping.stretch_of.Goals as goal

pub overflow_add-behind : goal.overflow_add-behind
overflow_add-behind g c =
    let view = c.args.view.now in
    let stretch = stretch_by view in
    let all = visible_of view.doc.cells in
    let ch = λ (cell : TaggedCell). cell.ch in
    let shown : length_shown view ≤ length (text_of view.doc.cells) =
    omega (arith, length-map (cells_shown view) ch, length-take (stretch.end - stretch.begin) (drop stretch.begin all), length-drop stretch.begin all, length-map all ch) in
    omega (arith, c.requires, shown, c.store.ensures.few, text_within (g.S.TextStore.list c.store.result.now), ap length c.store.ensures.text)
