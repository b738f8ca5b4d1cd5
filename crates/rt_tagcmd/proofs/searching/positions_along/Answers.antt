use Rattle.std.proofs.Common.{◌≡◌, ◌∙◌, reverse}
use Rattle.rt_stamps.specs.Places.{position_at}
use Rattle.rt_text.specs.Widgets.{text_shown}
use Rattle.rt_tagcmd.proofs.Lists.{turned_twice}
use Rattle.rt_tagcmd.proofs.searching.positions_along.Goals as goal

pub returns-clause-ok : goal.returns-clause-ok
returns-clause-ok g c =
    let places = c.args.places.items in
    let f = position_at (text_shown c.args.view.now) in
    let turned : c.deref-in-Backwards.result.now ≡ reverse places = c.deref-in-Backwards.ensures.value ∙ c.reverse.ensures.items in
    rw (c.reverse-in-Backwards.ensures.items, c.in_ok-found-in-Backwards.ensures.ok, c.shown-text.ensures, turned) (turned_twice f places)
