use Rattle.std.proofs.Common.{◌≡◌, ◌<◌, ◌≤◌, ◌^◌, ℕ, None, Ok, Option, Some, subst, sym}
use Rattle.std.specs.Prelude.{option_map}
use Rattle.rt_index.specs.Index.{index_of}
use Rattle.rt_lines.proofs.Whole.{shown_ends}
use Rattle.rt_rga.proofs.Final.{ends_final}
use Rattle.rt_store.specs.Cells.{EndsFinal}
use Rattle.rt_text.proofs.NamedPlaces.{named_within}
use Rattle.rt_text.specs.PlaceWords.{place_word}
use Rattle.rt_text.specs.Widgets.{ViewValue, length_shown, view_as, widget_of}
use Rattle.rt_peers.specs.SiteValue.{SiteValue, number_of_path}
use Rattle.rt_peers.proofs.laws.places.Goals as goal

-- of the widget of a number
named_by : (state : SiteValue) (place number : ℕ) → EndsFinal state.text.view.doc.cells → place < 2 ^ 64 → place ≤ length_shown (view_as number state.text.view)
    → index_of (widget_of (view_as number state.text.view)) (place_word place) ≡ Ok place
named_by state place number ends small within =
    let view = view_as number state.text.view in
    named_within (widget_of view) place (shown_ends view.doc.cells view.own.limits ends) small within

by : (state : SiteValue) (place : ℕ) (view : ViewValue) (found : Option ℕ) → EndsFinal state.text.view.doc.cells → place < 2 ^ 64
    → option_map (λ number. view_as number state.text.view) found ≡ Some view → place ≤ length_shown view → index_of (widget_of view) (place_word place) ≡ Ok place
by state place view None ends small is within = absurd (cc is)
by state place view (Some number) ends small is within =
    let same : view_as number state.text.view ≡ view = cc is in
    subst (λ (v : ViewValue). index_of (widget_of v) (place_word place) ≡ Ok place) same
    (named_by state place number ends small (subst (λ (v : ViewValue). place ≤ length_shown v) (sym same) within))

pub returns : goal.returns
returns c path view place is small within =
    let site = c.args.site.now in
    let ends = subst EndsFinal (sym c.log.ensures.cells) (ends_final site.text.view.doc.log c.log.ensures.history) in
    by site place view (number_of_path path site.paths) ends small is within
