use Rattle.std.proofs.Common.{◌≡◌, ◌∙◌, ◌++◌, List, [], ◌∷◌, ap, map}
use Rattle.rt_rga.specs.Cells.{cells_of}
use Rattle.rt_changes.specs.declared.change.ToldChange.{ToldChange}
use Rattle.rt_changes.specs.Replays.{VisibleChange, changes_of}
use Rattle.std.proofs.lemmas.List.{map-append}
use Rattle.rt_changes.specs.Telling.{changes_in}
use Rattle.rt_changes.proofs.Telling.{placed_changes}
use Rattle.rt_peers.specs.SiteStep.{text_log}
use Rattle.rt_peers.proofs.text.telling.Told.take.Goals as goal

pub returns-in-Ok-take_new-clause-told : goal.returns-in-Ok-take_new-clause-told
returns-in-Ok-take_new-clause-told c =
    let op = c.args.op in
    let before = c.self.inside.changes.items in
    let text = c.args.text.now in
    let told = c.at.result in
    let new : List VisibleChange = changes_of op (cells_of (text_log text)) in
    let items : c.push_reserved.new.self.items ≡ before ++ told ∷ [] =
    c.push_reserved.ensures.items ∙ ap (λ (l : List ToldChange). l ++ told ∷ []) c.reserve.ensures.items in
    let one : changes_in told ≡ new =
    c.at.ensures ∙ placed_changes op text.view.doc.cells c.in-Ok.to_tell c.in-Ok-take_new.change c.in-Ok.ensures.ok c.in-Ok-take_new.ensures.change
    ∙ ap (changes_of op) c.log.ensures.cells in
    ap (map changes_in) items ∙ map-append changes_in before (told ∷ []) ∙ (λ i. c.self.view_is i ++ one i ∷ [])
