-- The elements of a dump (Tk text manual, "dump"): the pieces of its text, and how lists of elements are merged by place.
use Rattle.std.specs.Prelude.{ℕ, ◌+◌, ◌-◌, ◌==◌, ◌||◌, Bool, List, [], ◌∷◌, filter, flat_map, codes, slice_index_or, encode_utf8_all, if◌then◌else◌}
use Rattle.std.specs.List.{list_any, range_with_len}
use Rattle.rt_tagcmd.specs.declared.element.Key.{Key}
use Rattle.rt_tagcmd.specs.declared.element.Key.TheVariants.{TagOff, TagOn, Mark, Text}
use Rattle.rt_stamps.specs.declared.position.Position.{Position}
use Rattle.rt_stamps.specs.Places.{is_newline, position_at}
use Rattle.rt_stamps.specs.Words.{Word}
use Rattle.rt_text.specs.Ranges.{text_between}

-- an element of a dump: what it is, the name of the tag or the mark or the characters, and the place where it stands
pub record Placed : Type 0 where
  pub key : Key
  pub value : Word
  pub place : ℕ

-- an element as it is answered: its place as a line and a character
pub record Element : Type 0 where
  pub key : Key
  pub value : Word
  pub position : Position

abbrev pub element_at : Key → Word → ℕ → Placed
element_at key value place = record { key = key; value = value; place = place }

abbrev pub answered : List ℕ → Placed → Element
answered text element = record { key = element.key; value = element.value; position = position_at text element.place }

-- the word that answers what an element is
abbrev pub key_word : Key → Word
key_word TagOff = codes "tagoff"
key_word TagOn = codes "tagon"
key_word Mark = codes "mark"
key_word Text = codes "text"

-- an element stands at a place
abbrev pub is_at_place : ℕ → Placed → Bool
is_at_place place element = element.place == place

-- TEXT

-- A text value ends just after a newline, before the next element of another kind that is asked for, or at the stretch's end,
-- whichever comes first.
abbrev pub ends_text : List ℕ → List Placed → ℕ → ℕ → Bool
ends_text text others to place = is_newline (slice_index_or text (place - 1) 0) || list_any (is_at_place place) others || place == to

-- the text values that end at some places: each begins where the one before it ends
abbrev pub values_up_to : List ℕ → ℕ → List ℕ → List Placed
values_up_to text from [] = []
values_up_to text from (to ∷ ends) = element_at Text (encode_utf8_all (text_between text from to)) from ∷ values_up_to text to ends

-- the text values of the stretch from one place up to before another, between other elements
abbrev pub text_values : List ℕ → List Placed → ℕ → ℕ → List Placed
text_values text others from to = values_up_to text from (filter (ends_text text others to) (range_with_len (from + 1) (to - from)))

-- LISTS

-- a list, if it is asked for
abbrev pub if_asked : Bool → List Placed → List Placed
if_asked asked elements = if asked then elements else []

-- the places from one up to before another, and the text's end too where the other is the text's end
abbrev pub places_between : ℕ → ℕ → ℕ → List ℕ
places_between end from to = range_with_len from ((if to == end then to + 1 else to) - from)

-- lists of elements, one behind the other, merged by place: at each place what stands there, in the lists' order
abbrev pub by_place : List ℕ → List Placed → List Placed
by_place places elements = flat_map (λ place. filter (is_at_place place) elements) places
