use Rattle.std.proofs.Common.{◌≡◌, ◌<◌, ◌∙◌, All, ap, sym, subst, length, List, ℕ}
use Rattle.rt_search.specs.Searches.{all_matches}
use Rattle.rt_search.proofs.Within.{all_within}
use Rattle.rt_text.specs.Widgets.{text_shown}
use Rattle.rt_tagcmd.proofs.searching.each_found.Goals as goal

pub positions_along-requires : goal.positions_along-requires
positions_along-requires g c =
    let text = text_shown c.args.view.now in
    let taken : List ℕ → List ℕ = λ t. all_matches c.args.overlaps c.args.search c.args.pattern.now t c.args.start c.args.stop in
    let found : c.in_ok-places.places.items ≡ taken text = c.in_ok-places.ensures.ok ∙ ap taken c.shown-text.ensures in
    subst (All (λ place. place < length text)) (sym found)
    (all_within c.args.overlaps c.args.search c.args.pattern.now text c.args.start c.args.stop c.requires.start c.requires.stop)
