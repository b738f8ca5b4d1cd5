-- What `search` answers (Tk text manual, "search"): of the places where the pattern stands, the first, or all of them.
use Rattle.std.specs.Prelude.{ℕ, List, [], ◌∷◌, ◌++◌, map, Option, Some, None, option_map, option_to_list, Result}
use Rattle.std.specs.Str.{chars}
use Rattle.rt_requests.specs.declared.request.SearchRequest.{SearchRequest}
use Rattle.rt_requests.specs.declared.request.Wanted.{Wanted}
use Rattle.rt_requests.specs.declared.request.Wanted.TheVariants.{One, Each}
use Rattle.rt_search.specs.declared.search.Search.{Search}
use Rattle.rt_search.specs.Searches.{all_matches, first_match}
use Rattle.rt_stamps.specs.declared.fault.Fault.{Fault}
use Rattle.rt_stamps.specs.declared.fault.Fault.TheVariants.{EmptyPattern}
use Rattle.rt_stamps.specs.declared.position.Position.{Position}
use Rattle.rt_stamps.specs.Outcomes.{first_of, unless}
use Rattle.rt_stamps.specs.Places.{position_at}
use Rattle.rt_stamps.specs.Words.{Word}
use Rattle.rt_text.specs.Index.{index_check, place_at_index}
use Rattle.rt_text.specs.Widgets.{ViewValue, text_shown, widget_of}

-- nothing can't be searched for
abbrev pub pattern_check : Word → Option Fault
pattern_check [] = Some EmptyPattern
pattern_check (c ∷ pattern) = None

-- the indices of a search, and its pattern
abbrev pub search_check : ViewValue → SearchRequest → Option Fault
search_check view request = first_of (map (index_check (widget_of view)) (request.start ∷ option_to_list request.stop) ++ pattern_check request.pattern ∷ [])

-- the places that are wanted of those where a pattern stands in a text, from a start on, and up to a stop where there is one
abbrev pub places_wanted : Wanted → Search → List ℕ → List ℕ → ℕ → Option ℕ → List ℕ
places_wanted One search pattern text start stop = option_to_list (first_match search pattern text start stop)
places_wanted (Each overlaps) search pattern text start stop = all_matches overlaps search pattern text start stop

abbrev pub places_found : ViewValue → SearchRequest → List ℕ
places_found view request =
    let w = widget_of view in
    places_wanted request.wanted request.search (chars request.pattern) (text_shown view)
    (place_at_index w request.start) (option_map (place_at_index w) request.stop)

-- the lines and characters where the pattern stands
abbrev pub searched : ViewValue → SearchRequest → Result (List Position) Fault
searched view request = unless (search_check view request) (map (position_at (text_shown view)) (places_found view request))
