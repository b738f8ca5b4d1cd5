-- Words that ask for a request.
use Rattle.std.proofs.Common.{◌≡◌, ◌∙◌, inl, Ok, Some, None, Option, List, [], ◌∷◌, ◌++◌, Bool, true, false, true≢false, refl, sym, ap, arith, codes, length, map, take, drop}
use Rattle.std.specs.List.{list_all, prefix_len}
use Rattle.std.specs.Prelude.{IsTrue}
use Rattle.std.proofs.Math.Seq.{take-append_seam, drop-append_seam}
use Rattle.rt_marks.specs.declared.gravity.Gravity.TheVariants.{Left, Right}
use Rattle.rt_marks.specs.Marks.{gravity_word}
use Rattle.rt_stamps.specs.Words.{Word}
use Rattle.rt_words.proofs.WrittenWords.{listed, spaced_words}
use Rattle.rt_words.proofs.BareWords.{both_true}
use Rattle.rt_index.specs.declared.comparison.Comparison.{Comparison}
use Rattle.rt_index.specs.declared.comparison.Comparison.TheVariants.{Less, LessOrEqual, Equal, GreaterOrEqual, Greater, NotEqual}
use Rattle.rt_requests.specs.declared.kinds.Kinds.{Kinds}
use Rattle.rt_index.specs.declared.measure.Measure.{Measure}
use Rattle.rt_index.specs.declared.measure.Measure.TheVariants.{Chars, Indices, Lines}
use Rattle.rt_requests.specs.declared.request.MarkRequest.{MarkRequest}
use Rattle.rt_requests.specs.declared.request.MarkRequest.TheVariants as marks
use Rattle.rt_requests.specs.declared.request.Request.{Request}
use Rattle.rt_requests.specs.declared.request.Request.TheVariants.{Insert, Delete, Replace, Get, Index, Compare, Count, Search, Dump, Mark, Tag, Edit, Configure, Cget, Peer}
use Rattle.rt_requests.specs.declared.request.TagRequest.{TagRequest}
use Rattle.rt_requests.specs.declared.request.TagRequest.TheVariants as tags
use Rattle.rt_requests.specs.Parts.{TaggedTextValue, all_of}
use Rattle.rt_requests.specs.Asking.{AreTexts, Asked, Asks, CanBeAsked, as_request, asked_count, asked_distances, asked_dump, asked_elements}
use Rattle.rt_index.specs.Comparisons.{operator_of}
use Rattle.rt_index.specs.Measures.{switch_of}
use Rattle.rt_requests.specs.Switches.{is_switch, kinds_of, measures_of, shows_some}
use Rattle.rt_requests.proofs.ReadSettings.{named_word}
use Rattle.rt_requests.proofs.SpelledEdits.{edit_asked, edit_words}
use Rattle.rt_requests.proofs.SpelledSearches.{any_search_asked, maybe_word, search_words}
use Rattle.rt_requests.proofs.SpelledSettings.{option_asked, peer_asked, peer_words, settings_asked, settings_words}

-- TEXTS

-- texts with their lists, and the text without one
abbrev texts_words : List TaggedTextValue → Word → List Word
texts_words [] rest = rest ∷ []
texts_words (piece ∷ pieces) rest = piece.text ∷ spaced_words piece.tags ∷ texts_words pieces rest

are_texts : (pieces : List TaggedTextValue) (rest : Word) → AreTexts (texts_words pieces rest) pieces rest
are_texts [] rest = (refl, refl)
are_texts (piece ∷ pieces) rest = (refl, listed piece.tags, are_texts pieces rest)

insert_asked : (index : Word) (pieces : List TaggedTextValue) (rest : Word)
    → Asks (codes "insert" ∷ index ∷ texts_words pieces rest) (Ok (Insert index (record { pieces = pieces; rest = rest })))
insert_asked index [] rest = inl (record { pieces = []; rest = rest }, are_texts [] rest, refl)
insert_asked index (piece ∷ pieces) rest = inl (record { pieces = piece ∷ pieces; rest = rest }, are_texts (piece ∷ pieces) rest, refl)

replace_asked : (from to : Word) (pieces : List TaggedTextValue) (rest : Word)
    → Asks (codes "replace" ∷ from ∷ to ∷ texts_words pieces rest) (Ok (Replace from to (record { pieces = pieces; rest = rest })))
replace_asked from to [] rest = inl (record { pieces = []; rest = rest }, are_texts [] rest, refl)
replace_asked from to (piece ∷ pieces) rest = inl (record { pieces = piece ∷ pieces; rest = rest }, are_texts (piece ∷ pieces) rest, refl)

-- COMPARISONS AND COUNTS

compare_asked : (first second : Word) (comparison : Comparison)
    → Asks (codes "compare" ∷ first ∷ operator_of comparison ∷ second ∷ []) (Ok (Compare first comparison second))
compare_asked first second Less = refl
compare_asked first second LessOrEqual = refl
compare_asked first second Equal = refl
compare_asked first second GreaterOrEqual = refl
compare_asked first second Greater = refl
compare_asked first second NotEqual = refl

measures_asked : (measures : List Measure) → measures_of (map switch_of measures) ≡ Some measures
measures_asked [] = refl
measures_asked (Chars ∷ measures) = rw (measures_asked measures) refl
measures_asked (Indices ∷ measures) = rw (measures_asked measures) refl
measures_asked (Lines ∷ measures) = rw (measures_asked measures) refl

-- switches, and a word that is none behind them
switches_first : (switches rest : List Word) → list_all is_switch switches ≡ true → prefix_len is_switch rest ≡ 0 → prefix_len is_switch (switches ++ rest) ≡ length switches
switches_first [] rest s h = h
switches_first (switch ∷ switches) rest s h =
    let both = both_true (is_switch switch) (list_all is_switch switches) s in rw (both.0, switches_first switches rest both.1 h) (omega arith)

no_switch_first : (from : Word) (rest : List Word) → is_switch from ≡ false → prefix_len is_switch (from ∷ rest) ≡ 0
no_switch_first from rest h = rw h refl

-- switches and indices, as `count` and `dump` take them apart
taken_apart : (f : List Word → List Word → Asked) (switches : List Word) (from : Word) (rest : List Word) → list_all is_switch switches ≡ true → is_switch from ≡ false
    → f (take (prefix_len is_switch (switches ++ from ∷ rest)) (switches ++ from ∷ rest)) (drop (prefix_len is_switch (switches ++ from ∷ rest)) (switches ++ from ∷ rest))
    ≡ f switches (from ∷ rest)
taken_apart f switches from rest s h =
    rw (switches_first switches (from ∷ rest) s (no_switch_first from rest h), take-append_seam switches (from ∷ rest), drop-append_seam switches (from ∷ rest)) refl

measures_switches : (measures : List Measure) → list_all is_switch (map switch_of measures) ≡ true
measures_switches [] = refl
measures_switches (Chars ∷ measures) = measures_switches measures
measures_switches (Indices ∷ measures) = measures_switches measures
measures_switches (Lines ∷ measures) = measures_switches measures

count_asked : (measures : List Measure) (from to : Word) → is_switch from ≡ false
    → asked_count (map switch_of measures ++ from ∷ to ∷ []) ≡ Ok (Count measures from to)
count_asked measures from to h =
    taken_apart asked_distances (map switch_of measures) from (to ∷ []) (measures_switches measures) h ∙ rw (measures_asked measures) refl

-- DUMPS

-- a switch that may be left out
abbrev switch_if : Bool → Word → List Word
switch_if true switch = switch ∷ []
switch_if false switch = []

abbrev kinds_words : Bool → Bool → Bool → List Word
kinds_words tags marks text = switch_if tags (codes "-tag") ++ switch_if marks (codes "-mark") ++ switch_if text (codes "-text")

abbrev kinds_by : Bool → Bool → Bool → Kinds
kinds_by tags marks text = record { tags = tags; marks = marks; text = text }

kinds_asked : (tags marks text : Bool) → IsTrue (shows_some (kinds_by tags marks text))
    → (list_all is_switch (kinds_words tags marks text) ≡ true) × (kinds_of (kinds_words tags marks text) ≡ Some (kinds_by tags marks text))
kinds_asked true true true h = (refl, refl)
kinds_asked true true false h = (refl, refl)
kinds_asked true false true h = (refl, refl)
kinds_asked true false false h = (refl, refl)
kinds_asked false true true h = (refl, refl)
kinds_asked false true false h = (refl, refl)
kinds_asked false false true h = (refl, refl)
kinds_asked false false false h = absurd (true≢false (sym h))

elements_asked : (switches : List Word) (kinds : Kinds) (from : Word) (to : Option Word) → kinds_of switches ≡ Some kinds
    → asked_elements switches (from ∷ maybe_word to) ≡ Ok (Dump kinds from to)
elements_asked switches kinds from None k = rw k refl
elements_asked switches kinds from (Some to) k = rw k refl

dump_asked : (kinds : Kinds) (from : Word) (to : Option Word) → IsTrue (shows_some kinds) → is_switch from ≡ false
    → asked_dump (kinds_words kinds.tags kinds.marks kinds.text ++ from ∷ maybe_word to) ≡ Ok (Dump kinds from to)
dump_asked kinds from to s h =
    let switches = kinds_words kinds.tags kinds.marks kinds.text in
    let asked = kinds_asked kinds.tags kinds.marks kinds.text s in
    taken_apart asked_elements switches from (maybe_word to) asked.0 h ∙ elements_asked switches kinds from to asked.1

-- MARKS

abbrev mark_words : MarkRequest → List Word
mark_words (marks.Set name index) = codes "set" ∷ name ∷ index ∷ []
mark_words (marks.Unset names) = codes "unset" ∷ all_of names
mark_words (marks.Gravity name) = codes "gravity" ∷ name ∷ []
mark_words (marks.SetGravity name gravity) = codes "gravity" ∷ name ∷ gravity_word gravity ∷ []
mark_words marks.Names = codes "names" ∷ []
mark_words (marks.Next word) = codes "next" ∷ word ∷ []
mark_words (marks.Previous word) = codes "previous" ∷ word ∷ []

mark_asked : (request : MarkRequest) → Asks (codes "mark" ∷ mark_words request) (Ok (Mark request))
mark_asked (marks.Set name index) = refl
mark_asked (marks.Unset names) = refl
mark_asked (marks.Gravity name) = refl
mark_asked (marks.SetGravity name Left) = refl
mark_asked (marks.SetGravity name Right) = refl
mark_asked marks.Names = refl
mark_asked (marks.Next word) = refl
mark_asked (marks.Previous word) = refl

-- TAGS

abbrev tag_words : TagRequest → List Word
tag_words (tags.Add name indices) = codes "add" ∷ name ∷ all_of indices
tag_words (tags.Remove name indices) = codes "remove" ∷ name ∷ all_of indices
tag_words (tags.Delete names) = codes "delete" ∷ all_of names
tag_words (tags.Raise name above) = codes "raise" ∷ name ∷ maybe_word above
tag_words (tags.Lower name below) = codes "lower" ∷ name ∷ maybe_word below
tag_words tags.Names = codes "names" ∷ []
tag_words (tags.NamesAt index) = codes "names" ∷ index ∷ []
tag_words (tags.Ranges name) = codes "ranges" ∷ name ∷ []
tag_words (tags.NextRange name from to) = codes "nextrange" ∷ name ∷ from ∷ maybe_word to
tag_words (tags.PreviousRange name to from) = codes "prevrange" ∷ name ∷ to ∷ maybe_word from

tag_asked : (request : TagRequest) → Asks (codes "tag" ∷ tag_words request) (Ok (Tag request))
tag_asked (tags.Add name indices) = refl
tag_asked (tags.Remove name indices) = refl
tag_asked (tags.Delete names) = refl
tag_asked (tags.Raise name None) = refl
tag_asked (tags.Raise name (Some above)) = refl
tag_asked (tags.Lower name None) = refl
tag_asked (tags.Lower name (Some below)) = refl
tag_asked tags.Names = refl
tag_asked (tags.NamesAt index) = refl
tag_asked (tags.Ranges name) = refl
tag_asked (tags.NextRange name from None) = refl
tag_asked (tags.NextRange name from (Some to)) = refl
tag_asked (tags.PreviousRange name to None) = refl
tag_asked (tags.PreviousRange name to (Some from)) = refl

-- ALL REQUESTS

pub spelled : (request : Request) → CanBeAsked request → (words : List Word) × Asks words (Ok request)
spelled (Insert index texts) h = (codes "insert" ∷ index ∷ texts_words texts.pieces texts.rest, insert_asked index texts.pieces texts.rest)
spelled (Delete indices) h = (codes "delete" ∷ all_of indices, refl)
spelled (Replace from to texts) h = (codes "replace" ∷ from ∷ to ∷ texts_words texts.pieces texts.rest, replace_asked from to texts.pieces texts.rest)
spelled (Get indices) h = (codes "get" ∷ all_of indices, refl)
spelled (Index index) h = (codes "index" ∷ index ∷ [], refl)
spelled (Compare first comparison second) h = (codes "compare" ∷ first ∷ operator_of comparison ∷ second ∷ [], compare_asked first second comparison)
spelled (Count measures from to) h = (codes "count" ∷ (map switch_of measures ++ from ∷ to ∷ []), sym (count_asked measures from to h))
spelled (Search request) h = (codes "search" ∷ search_words request, sym (ap (as_request Search) (any_search_asked request)))
spelled (Dump kinds from to) h =
    (codes "dump" ∷ (kinds_words kinds.tags kinds.marks kinds.text ++ from ∷ maybe_word to), sym (dump_asked kinds from to h.0 h.1))
spelled (Mark request) h = (codes "mark" ∷ mark_words request, mark_asked request)
spelled (Tag request) h = (codes "tag" ∷ tag_words request, tag_asked request)
spelled (Edit request) h = (codes "edit" ∷ edit_words request, sym (edit_asked request))
spelled (Configure settings) h = (codes "configure" ∷ settings_words settings, sym (ap (as_request Configure) (settings_asked settings h.1 h.0)))
spelled (Cget option) h = (codes "cget" ∷ named_word option ∷ [], sym (ap (as_request Cget) (option_asked option)))
spelled (Peer request) h = (codes "peer" ∷ peer_words request, sym (ap (as_request Peer) (peer_asked request h)))
