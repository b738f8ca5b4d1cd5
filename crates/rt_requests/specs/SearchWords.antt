-- The words of `search ?SWITCH ...? PATTERN INDEX ?STOPINDEX?`, and what they ask for (Tk text manual, "search").
use Rattle.std.specs.Prelude.{◌&&◌, ◌||◌, not, Bool, List, [], ◌∷◌, take, drop, fold, Option, Some, None, Result, Err, codes, if◌then◌else◌}
use Rattle.std.specs.List.{list_all, list_any, prefix_len}
use Rattle.std.specs.Str.{bytes_eq}
use Rattle.rt_search.specs.declared.search.Case.{Case}
use Rattle.rt_search.specs.declared.search.Case.TheVariants.{Exact, Ignored}
use Rattle.rt_search.specs.declared.search.Direction.{Direction}
use Rattle.rt_search.specs.declared.search.Direction.TheVariants.{Forwards, Backwards}
use Rattle.rt_search.specs.declared.search.Strictness.{Strictness}
use Rattle.rt_search.specs.declared.search.Strictness.TheVariants.{First, Strict}
use Rattle.rt_search.specs.declared.search.Overlaps.{Overlaps}
use Rattle.rt_search.specs.declared.search.Overlaps.TheVariants.{PassedOver, Taken}
use Rattle.rt_search.specs.declared.search.Search.{Search}
use Rattle.rt_stamps.specs.declared.fault.Fault.{Fault}
use Rattle.rt_stamps.specs.declared.fault.Fault.TheVariants.{BadCommand, BadOption}
use Rattle.rt_stamps.specs.Outcomes.{unless}
use Rattle.rt_stamps.specs.Words.{Word}
use Rattle.rt_requests.specs.declared.request.SearchRequest.{SearchRequest}
use Rattle.rt_requests.specs.declared.request.Wanted.{Wanted}
use Rattle.rt_requests.specs.declared.request.Wanted.TheVariants.{One, Each}
use Rattle.rt_requests.specs.Switches.{has_switch, is_switch}

-- SWITCHES AND ARGUMENTS

-- a word that begins with a minus is a switch, but for `--`, which ends the switches
abbrev pub is_search_switch : Word → Bool
is_search_switch word = is_switch word && not (bytes_eq word (codes "--"))

-- without a `--` in front
abbrev pub without_dashes : List Word → List Word
without_dashes [] = []
without_dashes (word ∷ words) = if bytes_eq word (codes "--") then words else word ∷ words

-- WHAT SWITCHES ASK FOR

-- the way that a switch names, and else the way that it was
abbrev pub redirected : Direction → Word → Direction
redirected direction switch =
    if bytes_eq switch (codes "-forwards") then Forwards
    else if bytes_eq switch (codes "-backwards") then Backwards
    else direction

-- a search goes forwards, unless it is told; of several switches the last one counts
abbrev pub direction_of : List Word → Direction
direction_of switches = fold redirected Forwards switches

abbrev pub case_of : List Word → Case
case_of switches = if has_switch switches (codes "-nocase") then Ignored else Exact

abbrev pub strictness_of : List Word → Strictness
strictness_of switches = if has_switch switches (codes "-strictlimits") then Strict else First

abbrev pub overlaps_of : List Word → Overlaps
overlaps_of switches = if has_switch switches (codes "-overlap") then Taken else PassedOver

abbrev pub search_of : List Word → Search
search_of switches = record { direction = direction_of switches; case = case_of switches; strictness = strictness_of switches }

-- one match, or each of them
abbrev pub wanted_of : List Word → Wanted
wanted_of switches = if has_switch switches (codes "-all") then Each (overlaps_of switches) else One

-- CHECKS

-- a search has such a switch
abbrev pub is_known_switch : Word → Bool
is_known_switch switch =
    list_any (λ name. bytes_eq switch name) (codes "-forwards" ∷ codes "-backwards" ∷ codes "-exact" ∷ codes "-nocase"
    ∷ codes "-all" ∷ codes "-overlap" ∷ codes "-strictlimits" ∷ [])

-- `-overlap` is given with `-all` alone
abbrev pub overlap_fits : List Word → Bool
overlap_fits switches = has_switch switches (codes "-all") || not (has_switch switches (codes "-overlap"))

-- each switch is known, and each fits
abbrev pub switch_check : List Word → Option Fault
switch_check switches = if list_all is_known_switch switches && overlap_fits switches then None else Some BadOption

-- REQUESTS

-- what is asked of a search, or why it is refused
abbrev pub AskedOfSearch : Type 0
AskedOfSearch = Result SearchRequest Fault

-- a search by switches that may be given
abbrev pub asked_by_switches : List Word → Word → Word → Option Word → AskedOfSearch
asked_by_switches switches pattern start stop =
    unless (switch_check switches) (record { search = search_of switches; wanted = wanted_of switches; pattern = pattern; start = start; stop = stop })

-- there are two arguments or three: PATTERN INDEX ?STOPINDEX?
abbrev pub asked_by_arguments : List Word → List Word → AskedOfSearch
asked_by_arguments switches (pattern ∷ start ∷ []) = asked_by_switches switches pattern start None
asked_by_arguments switches (pattern ∷ start ∷ stop ∷ []) = asked_by_switches switches pattern start (Some stop)
asked_by_arguments switches [] = Err BadCommand
asked_by_arguments switches (pattern ∷ []) = Err BadCommand
asked_by_arguments switches (pattern ∷ start ∷ stop ∷ more ∷ words) = Err BadCommand

-- the words behind `search`: all words in front that are switches, perhaps a `--`, and arguments
abbrev pub asked_of_search : List Word → AskedOfSearch
asked_of_search words = let switches = prefix_len is_search_switch words in asked_by_arguments (take switches words) (without_dashes (drop switches words))
