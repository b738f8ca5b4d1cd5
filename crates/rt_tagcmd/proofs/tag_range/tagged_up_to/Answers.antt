use Rattle.std.proofs.Common.{◌∙◌}
use Rattle.rt_text.specs.Widgets.{shows_tag, cells_shown}
use Rattle.std.proofs.lemmas.List.{length-map}
use Rattle.rt_tagcmd.proofs.FirstRange.{passing_end}
use Rattle.rt_tagcmd.proofs.tag_range.tagged_up_to.Goals as goal

pub returns : goal.returns
returns g c =
    let cells = cells_shown c.args.view.now in
    passing_end (shows_tag c.args.view.now.own c.args.name.now) cells c.args.place c.next_untagged.result c.visible-end.result c.unwrap_or.result c.requires c.next_untagged.ensures (c.visible-end.ensures ∙ length-map cells (λ cell. cell.ch)) c.unwrap_or.ensures
