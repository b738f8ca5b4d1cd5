use Rattle.rt_text.specs.Widgets.{shows_tag, cells_shown}
use Rattle.rt_tagcmd.proofs.FirstRange.{clear_past}
use Rattle.rt_tagcmd.proofs.tag_range.clear_from.Goals as goal

pub returns-then-has_tag : goal.returns-then-has_tag
returns-then-has_tag g c = clear_past (shows_tag c.args.view.now.own c.args.name.now) (cells_shown c.args.view.now) c.args.place c.tagged_up_to.result c.if-place-gt0.true (c.has_tag.ensures.0 c.if-has_tag.true) c.tagged_up_to.ensures
