use Rattle.std.proofs.Common.{◌≡◌, ◌<◌, ◌∙◌, Some, arith, ap, sym, length}
use Rattle.rt_search.specs.Searches.{first_match}
use Rattle.rt_search.proofs.Within.{first_within}
use Rattle.rt_text.specs.Widgets.{text_shown}
use Rattle.rt_tagcmd.proofs.searching.one_found.Goals as goal

pub position-requires : goal.position-requires
position-requires g c =
    let text = text_shown c.args.view.now in
    let found : first_match c.args.search c.args.pattern.now text c.args.start c.args.stop ≡ Some c.in-Some.place =
    ap (λ t. first_match c.args.search c.args.pattern.now t c.args.start c.args.stop) (sym c.shown.ensures) ∙ sym c.in_ok-place.ensures.ok ∙ c.in-Some.is in
    let below : c.in-Some.place < length text = first_within c.args.search c.args.pattern.now text c.args.start c.args.stop c.in-Some.place c.requires.start c.requires.stop found in
    omega arith
