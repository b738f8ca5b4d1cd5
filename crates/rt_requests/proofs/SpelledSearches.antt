-- Words that ask for a search.
use Rattle.std.proofs.Common.{◌≡◌, Ok, None, Some, Option, List, [], ◌∷◌, ◌++◌, true, refl, arith, codes, length}
use Rattle.std.specs.List.{list_all, prefix_len}
use Rattle.std.proofs.Math.Seq.{take-append_seam, drop-append_seam}
use Rattle.rt_search.specs.declared.search.Case.{Case}
use Rattle.rt_search.specs.declared.search.Case.TheVariants.{Exact, Ignored}
use Rattle.rt_search.specs.declared.search.Direction.{Direction}
use Rattle.rt_search.specs.declared.search.Direction.TheVariants.{Forwards, Backwards}
use Rattle.rt_search.specs.declared.search.Strictness.{Strictness}
use Rattle.rt_search.specs.declared.search.Strictness.TheVariants.{First, Strict}
use Rattle.rt_search.specs.declared.search.Overlaps.TheVariants.{PassedOver, Taken}
use Rattle.rt_search.specs.declared.search.Search.{Search}
use Rattle.rt_stamps.specs.Words.{Word}
use Rattle.rt_words.proofs.BareWords.{both_true}
use Rattle.rt_requests.specs.declared.request.SearchRequest.{SearchRequest}
use Rattle.rt_requests.specs.declared.request.Wanted.{Wanted}
use Rattle.rt_requests.specs.declared.request.Wanted.TheVariants.{One, Each}
use Rattle.rt_requests.specs.SearchWords.{asked_of_search, is_search_switch, search_of, switch_check, wanted_of}

-- a word that may be left out
abbrev pub maybe_word : Option Word → List Word
maybe_word None = []
maybe_word (Some word) = word ∷ []

abbrev direction_word : Direction → Word
direction_word Forwards = codes "-forwards"
direction_word Backwards = codes "-backwards"

abbrev case_words : Case → List Word
case_words Exact = []
case_words Ignored = codes "-nocase" ∷ []

abbrev strictness_words : Strictness → List Word
strictness_words First = []
strictness_words Strict = codes "-strictlimits" ∷ []

abbrev wanted_words : Wanted → List Word
wanted_words One = []
wanted_words (Each PassedOver) = codes "-all" ∷ []
wanted_words (Each Taken) = codes "-all" ∷ codes "-overlap" ∷ []

abbrev search_switches : Direction → Case → Strictness → Wanted → List Word
search_switches direction case strictness wanted = direction_word direction ∷ (case_words case ++ strictness_words strictness ++ wanted_words wanted)

abbrev search_by : Direction → Case → Strictness → Search
search_by direction case strictness = record { direction = direction; case = case; strictness = strictness }

-- switches that a search has, and what they ask for
record AreFor (how : Search) (wanted : Wanted) (switches : List Word) : Type 0 where
  pub switches_all : list_all is_search_switch switches ≡ true
  pub checked : switch_check switches ≡ None
  pub searches : search_of switches ≡ how
  pub wants : wanted_of switches ≡ wanted

abbrev are_for : Direction → Case → Strictness → Wanted → Type 0
are_for direction case strictness wanted = AreFor (search_by direction case strictness) wanted (search_switches direction case strictness wanted)

search_switches_asked : (direction : Direction) (case : Case) (strictness : Strictness) (wanted : Wanted) → are_for direction case strictness wanted
search_switches_asked Forwards Exact First One = record { switches_all = refl; checked = refl; searches = refl; wants = refl }
search_switches_asked Forwards Exact First (Each PassedOver) = record { switches_all = refl; checked = refl; searches = refl; wants = refl }
search_switches_asked Forwards Exact First (Each Taken) = record { switches_all = refl; checked = refl; searches = refl; wants = refl }
search_switches_asked Forwards Exact Strict One = record { switches_all = refl; checked = refl; searches = refl; wants = refl }
search_switches_asked Forwards Exact Strict (Each PassedOver) = record { switches_all = refl; checked = refl; searches = refl; wants = refl }
search_switches_asked Forwards Exact Strict (Each Taken) = record { switches_all = refl; checked = refl; searches = refl; wants = refl }
search_switches_asked Forwards Ignored First One = record { switches_all = refl; checked = refl; searches = refl; wants = refl }
search_switches_asked Forwards Ignored First (Each PassedOver) = record { switches_all = refl; checked = refl; searches = refl; wants = refl }
search_switches_asked Forwards Ignored First (Each Taken) = record { switches_all = refl; checked = refl; searches = refl; wants = refl }
search_switches_asked Forwards Ignored Strict One = record { switches_all = refl; checked = refl; searches = refl; wants = refl }
search_switches_asked Forwards Ignored Strict (Each PassedOver) = record { switches_all = refl; checked = refl; searches = refl; wants = refl }
search_switches_asked Forwards Ignored Strict (Each Taken) = record { switches_all = refl; checked = refl; searches = refl; wants = refl }
search_switches_asked Backwards Exact First One = record { switches_all = refl; checked = refl; searches = refl; wants = refl }
search_switches_asked Backwards Exact First (Each PassedOver) = record { switches_all = refl; checked = refl; searches = refl; wants = refl }
search_switches_asked Backwards Exact First (Each Taken) = record { switches_all = refl; checked = refl; searches = refl; wants = refl }
search_switches_asked Backwards Exact Strict One = record { switches_all = refl; checked = refl; searches = refl; wants = refl }
search_switches_asked Backwards Exact Strict (Each PassedOver) = record { switches_all = refl; checked = refl; searches = refl; wants = refl }
search_switches_asked Backwards Exact Strict (Each Taken) = record { switches_all = refl; checked = refl; searches = refl; wants = refl }
search_switches_asked Backwards Ignored First One = record { switches_all = refl; checked = refl; searches = refl; wants = refl }
search_switches_asked Backwards Ignored First (Each PassedOver) = record { switches_all = refl; checked = refl; searches = refl; wants = refl }
search_switches_asked Backwards Ignored First (Each Taken) = record { switches_all = refl; checked = refl; searches = refl; wants = refl }
search_switches_asked Backwards Ignored Strict One = record { switches_all = refl; checked = refl; searches = refl; wants = refl }
search_switches_asked Backwards Ignored Strict (Each PassedOver) = record { switches_all = refl; checked = refl; searches = refl; wants = refl }
search_switches_asked Backwards Ignored Strict (Each Taken) = record { switches_all = refl; checked = refl; searches = refl; wants = refl }

search_switches_first : (switches rest : List Word) → list_all is_search_switch switches ≡ true
    → prefix_len is_search_switch (switches ++ codes "--" ∷ rest) ≡ length switches
search_switches_first [] rest s = refl
search_switches_first (switch ∷ switches) rest s =
    let both = both_true (is_search_switch switch) (list_all is_search_switch switches) s in rw (both.0, search_switches_first switches rest both.1) (omega arith)

search_asked : (how : Search) (wanted : Wanted) (switches : List Word) (pattern start : Word) (stop : Option Word) → AreFor how wanted switches
    → asked_of_search (switches ++ codes "--" ∷ pattern ∷ start ∷ maybe_word stop)
    ≡ Ok (record { search = how; wanted = wanted; pattern = pattern; start = start; stop = stop })
search_asked how wanted switches pattern start None a =
    rw (search_switches_first switches (pattern ∷ start ∷ []) a.switches_all, take-append_seam switches (codes "--" ∷ pattern ∷ start ∷ []), drop-append_seam switches (codes "--" ∷ pattern ∷ start ∷ []), a.checked, a.searches, a.wants) refl
search_asked how wanted switches pattern start (Some stop) a =
    rw (search_switches_first switches (pattern ∷ start ∷ stop ∷ []) a.switches_all, take-append_seam switches (codes "--" ∷ pattern ∷ start ∷ stop ∷ []), drop-append_seam switches (codes "--" ∷ pattern ∷ start ∷ stop ∷ []), a.checked, a.searches, a.wants) refl

abbrev pub search_words : SearchRequest → List Word
search_words r =
    search_switches r.search.direction r.search.case r.search.strictness r.wanted ++ codes "--" ∷ r.pattern ∷ r.start ∷ maybe_word r.stop

pub any_search_asked : (r : SearchRequest) → asked_of_search (search_words r) ≡ Ok r
any_search_asked r =
    search_asked r.search r.wanted (search_switches r.search.direction r.search.case r.search.strictness r.wanted) r.pattern r.start r.stop
    (search_switches_asked r.search.direction r.search.case r.search.strictness r.wanted)
