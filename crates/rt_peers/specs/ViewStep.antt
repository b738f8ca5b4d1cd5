-- What a request does to what a widget shows, where it edits no text: the words of the reply and what the widget shows after it, or
-- why it is refused.
use Rattle.std.specs.Prelude.{List, [], ◌∷◌, map, Bool, Option, Some, None, Result, Ok, Err, codes, if◌then◌else◌}
use Rattle.rt_stamps.specs.declared.fault.Fault.{Fault}
use Rattle.rt_stamps.specs.Places.{text_of_position}
use Rattle.rt_stamps.specs.Words.{Word}
use Rattle.rt_marks.specs.Marks.{gravity_word}
use Rattle.rt_requests.specs.declared.request.MarkRequest.{MarkRequest}
use Rattle.rt_requests.specs.declared.request.MarkRequest.TheVariants as marks
use Rattle.rt_requests.specs.declared.request.TagRequest.{TagRequest}
use Rattle.rt_requests.specs.declared.request.TagRequest.TheVariants as tags
use Rattle.rt_requests.specs.Parts.{TaggedTextValue, all_of}
use Rattle.rt_tagcmd.specs.Elements.{Element, key_word}
use Rattle.rt_plans.specs.Insertions.{Piece}
use Rattle.rt_tagcmd.specs.MarkCommands.{mark_set, mark_unset, mark_gravity, mark_gravity_set, mark_names, mark_next, mark_previous}
use Rattle.rt_tagcmd.specs.TagCommands.{tag_added, tag_removed, tags_deleted, tag_raised, tag_lowered, tag_names, tag_names_at, tag_ranges, tag_nextrange, tag_prevrange}
use Rattle.rt_text.specs.Commands.{got_one, got, got_list}
use Rattle.rt_text.specs.Widgets.{ViewValue}

-- the words of a reply and what is there after it, or a fault
abbrev pub Outcome : Type 0 → Type 0
Outcome S = Result (List Word × S) Fault

-- a value that is answered, by what it is as a reply and as what is there after it
abbrev pub as_outcome : {T S : Type 0} → (T → List Word × S) → Result T Fault → Outcome S
as_outcome f (Ok value) = Ok (f value)
as_outcome f (Err fault) = Err fault

-- what edits or changes something else, and has no words in its reply
abbrev pub changed_step : {S : Type 0} → Result S Fault → Outcome S
changed_step {S} = as_outcome {T = S} {S = S} (λ new. ([], new))

-- what changes nothing, and replies with a value, by the words of that
abbrev pub told_step : {T S : Type 0} → (T → List Word) → S → Result T Fault → Outcome S
told_step {T} {S} words old = as_outcome {T = T} {S = S} (λ value. (words value, old))

-- REPLIES

-- one word
abbrev pub one_word : Word → List Word
one_word word = word ∷ []

-- truth as it is written
abbrev pub text_of_bool : Bool → Word
text_of_bool holds = if holds then codes "1" else codes "0"

-- a name, where there is one
abbrev pub word_or_none : Option Word → List Word
word_or_none None = []
word_or_none (Some name) = name ∷ []

-- an element of a dump: what it is, its name or its characters, and where it stands
abbrev pub element_words : Element → List Word
element_words element = key_word element.key ∷ element.value ∷ text_of_position element.position ∷ []

-- REQUESTS

-- a text with its tags, as an insertion takes it
abbrev pub as_piece : TaggedTextValue → Piece
as_piece piece = record { text = piece.text; tags = piece.tags }

-- of one index or two the reply is one word, the text; of more, a word for each text that isn't empty
abbrev pub get_step : ViewValue → List Word → Outcome ViewValue
get_step view (index ∷ []) = told_step one_word view (got_one view index)
get_step view (from ∷ to ∷ []) = told_step one_word view (got view from to)
-- never asked: there is at least one index
get_step view [] = told_step (λ texts. texts) view (got_list view [])
get_step view (from ∷ to ∷ more ∷ indices) = told_step (λ texts. texts) view (got_list view (from ∷ to ∷ more ∷ indices))

-- what is asked of marks
abbrev pub mark_step : ViewValue → MarkRequest → Outcome ViewValue
mark_step view (marks.Set name index) = changed_step (mark_set view name index)
mark_step view (marks.Unset names) = changed_step (mark_unset view (all_of names))
mark_step view (marks.Gravity name) = told_step (λ gravity. one_word (gravity_word gravity)) view (mark_gravity view name)
mark_step view (marks.SetGravity name gravity) = changed_step (mark_gravity_set view name gravity)
mark_step view marks.Names = Ok (mark_names view, view)
mark_step view (marks.Next word) = told_step word_or_none view (mark_next view word)
mark_step view (marks.Previous word) = told_step word_or_none view (mark_previous view word)

-- what is asked of tags: names of tags go lowest priority first, positions are LINE.CHARACTER
abbrev pub tag_step : ViewValue → TagRequest → Outcome ViewValue
tag_step view (tags.Add name indices) = changed_step (tag_added view name (all_of indices))
tag_step view (tags.Remove name indices) = changed_step (tag_removed view name (all_of indices))
tag_step view (tags.Delete names) = changed_step (tags_deleted view (all_of names))
tag_step view (tags.Raise name above) = changed_step (tag_raised view name above)
tag_step view (tags.Lower name below) = changed_step (tag_lowered view name below)
tag_step view tags.Names = Ok (tag_names view, view)
tag_step view (tags.NamesAt index) = told_step (λ names. names) view (tag_names_at view index)
tag_step view (tags.Ranges name) = told_step (map text_of_position) view (tag_ranges view name)
tag_step view (tags.NextRange name from to) = told_step (map text_of_position) view (tag_nextrange view name from to)
tag_step view (tags.PreviousRange name to from) = told_step (map text_of_position) view (tag_prevrange view name to from)
