use Rattle.std.proofs.Common.{◌∙◌, ap, not}
use Rattle.rt_store.specs.Tagged.{next_place}
use Rattle.rt_text.specs.Widgets.{ViewValue, shows_tag, cells_shown}
use Rattle.rt_text.proofs.view_ref.ViewRef.next_untagged.Goals as goal

pub returns : goal.returns
returns g c =
    c.next_untagged.ensures ∙ ap (λ (v : ViewValue). next_place (λ cell. not (shows_tag v.own c.args.name.now cell)) (cells_shown v) c.args.place) c.self.view_is
