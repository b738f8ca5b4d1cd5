use Rattle.rt_text.specs.Widgets.{shows_tag, cells_shown}
use Rattle.rt_tagcmd.proofs.LastRange.{tells_all, tells_up_to}
use Rattle.rt_tagcmd.proofs.tag_range.all_tagged.Goals as goal

pub returns-in-Some : goal.returns-in-Some
returns-in-Some g c = tells_up_to (shows_tag c.args.view.now.own c.args.name.now) (cells_shown c.args.view.now) c.args.from c.args.last c.in-Some.at c.in-Some.ensures c.requires

pub returns-in-None : goal.returns-in-None
returns-in-None g c = tells_all (shows_tag c.args.view.now.own c.args.name.now) (cells_shown c.args.view.now) c.args.from c.args.last c.in-None.ensures c.requires
