use Rattle.std.proofs.Common.{◌≡◌, ◌∙◌, ap, option_map}
use Rattle.rt_marks.specs.Marks.{Mark, comes_before, find_last, with_mark}
use Rattle.rt_marks.specs.Seen.{spotted}
use Rattle.rt_text.specs.Widgets.{marks_shown, widget_shown}
use Rattle.rt_tagcmd.proofs.nearest.last_before.Goals as goal

pub returns : goal.returns
returns g c =
    let view = c.args.view.now in
    let shown = marks_shown view in
    let own = widget_shown view in
    let found : option_map spotted c.nearer_before-found.result ≡ find_last (λ m. comes_before m (spotted c.args.here.now)) (with_mark own.current shown) =
    c.nearer_before-found.ensures shown c.order.ensures.site.1 c.last_shown.ensures
    ∙ ap (λ (x : Mark). find_last (λ m. comes_before m (spotted c.args.here.now)) (with_mark x shown)) c.own_spot.ensures in
    c.nearer_before.ensures (with_mark own.current shown) c.order.ensures.site.0 found
    ∙ ap (λ (x : Mark). find_last (λ m. comes_before m (spotted c.args.here.now)) (with_mark x (with_mark own.current shown))) c.own_spot-2.ensures
