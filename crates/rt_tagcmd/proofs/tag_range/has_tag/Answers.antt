use Rattle.rt_text.specs.Widgets.{shows_tag, cells_shown}
use Rattle.rt_tagcmd.proofs.FirstRange.{tells}
use Rattle.rt_tagcmd.proofs.tag_range.has_tag.Goals as goal

pub returns : goal.returns
returns g c = tells (shows_tag c.args.view.now.own c.args.name.now) (cells_shown c.args.view.now) c.args.place c.next_tagged.result c.eq.result c.next_tagged.ensures c.eq.ensures
