-- The switches for what is counted and what is dumped (Tk text manual, "count" and "dump").
use Rattle.std.specs.Prelude.{List, [], ◌∷◌, ◌==◌, ◌||◌, Bool, false, true, Option, Some, None, option_map, option_and_then, if◌then◌else◌, codes}
use Rattle.std.specs.List.{list_all, list_any}
use Rattle.std.specs.Str.{bytes_eq}
use Rattle.rt_stamps.specs.Words.{Word}
use Rattle.rt_requests.specs.declared.kinds.Kinds.{Kinds}
use Rattle.rt_index.specs.declared.measure.Measure.{Measure}
use Rattle.rt_index.specs.Measures.{measure_of}

-- a word that begins with a minus is a switch
abbrev pub is_switch : Word → Bool
is_switch [] = false
is_switch (c ∷ word) = c == 45

-- a switch is given
abbrev pub has_switch : List Word → Word → Bool
has_switch switches name = list_any (λ switch. bytes_eq switch name) switches

-- what switches ask for in turn; none where one of them is unknown
abbrev pub measures_of : List Word → Option (List Measure)
measures_of [] = Some []
measures_of (switch ∷ switches) = option_and_then (λ measure. option_map (λ others. measure ∷ others) (measures_of switches)) (measure_of switch)

-- a switch of `dump`
abbrev pub is_dump_switch : Word → Bool
is_dump_switch switch = list_any (λ name. bytes_eq switch name) (codes "-all" ∷ codes "-mark" ∷ codes "-tag" ∷ codes "-text" ∷ [])

-- elements of a kind are shown for its switch and for `-all`; where there is no switch, those of all kinds are
abbrev pub shows : List Word → Word → Bool
shows [] kind = true
shows (switch ∷ switches) kind = has_switch (switch ∷ switches) (codes "-all") || has_switch (switch ∷ switches) kind

-- the kinds that switches ask for; none where one of them is unknown
abbrev pub kinds_of : List Word → Option Kinds
kinds_of switches =
    if list_all is_dump_switch switches
    then Some (record { tags = shows switches (codes "-tag"); marks = shows switches (codes "-mark"); text = shows switches (codes "-text") })
    else None

-- there is a kind of elements that is shown
abbrev pub shows_some : Kinds → Bool
shows_some kinds = kinds.tags || kinds.marks || kinds.text
