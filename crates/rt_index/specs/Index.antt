-- The place that an index expression names on a widget (Tk text manual, "Indices").
use Rattle.std.specs.Prelude.{◌≡◌, ◌≢◌, ℕ, zero, suc, ◌-◌, Bool, true, List, [], ◌∷◌, length, take, drop, Option, Some, None, Result, Ok, Err, codes, option_map, option_and_then, eqb, if◌then◌else◌}
use Rattle.std.specs.List.{ends_with}
use Rattle.std.specs.Option.{option_or}
use Rattle.rt_stamps.specs.declared.fault.Fault.{Fault}
use Rattle.rt_stamps.specs.declared.fault.Fault.TheVariants.{BadIndex, NoneTagged}
use Rattle.rt_index.specs.declared.parts.Fixed.{Fixed}
use Rattle.rt_index.specs.declared.parts.Fixed.TheVariants.{Character, LineEndOf, End}
use Rattle.rt_index.specs.declared.parts.Modifier.{Modifier}
use Rattle.rt_index.specs.declared.parts.Tag.{Tag}
use Rattle.rt_index.specs.declared.parts.Side.{Side}
use Rattle.rt_index.specs.declared.parts.Side.TheVariants.{First, Last}
use Rattle.rt_index.specs.Reading.{is_separator, token_length, fixed_of, modifiers_of}
use Rattle.rt_index.specs.Values.{character_place, line_end_place, all_moved}
use Rattle.rt_index.specs.Widget.{IndexedWidget, TagEnds, IsProper}

-- the place of a position, or of `end`
abbrev pub fixed_place : List ℕ → Fixed → ℕ
fixed_place text (Character line character) = character_place text line character
fixed_place text (LineEndOf line) = line_end_place text line
fixed_place text End = length text

-- the token of a word is tried as a position, then as `end`, then as a mark
abbrev pub token_place : IndexedWidget → List ℕ → Option ℕ
token_place w token = option_or (option_map (fixed_place w.text) (fixed_of token)) (w.marks token)

abbrev pub side_text : Side → List ℕ
side_text First = codes ".first"
side_text Last = codes ".last"

abbrev pub side_of : Side → TagEnds → ℕ
side_of First ends = ends.first
side_of Last ends = ends.last

-- where a listed tag begins or ends; NoneTagged where no character has it
abbrev pub tag_place : Side → Option TagEnds → Result ℕ Fault
tag_place side None = Err NoneTagged
tag_place side (Some ends) = Ok (side_of side ends)

-- a text that is `NAME.first` or `NAME.last`
abbrev pub tag_of : List ℕ → Option Tag
tag_of text =
    if ends_with eqb text (side_text First) then Some (record { name_len = length text - length (side_text First); side = First })
    else if ends_with eqb text (side_text Last) then Some (record { name_len = length text - length (side_text Last); side = Last })
    else None

-- the end of a listed tag that a text is
abbrev pub tag_end : IndexedWidget → List ℕ → Option (Result ℕ Fault)
tag_end w text = option_and_then (λ tag. option_map (tag_place tag.side) (w.tags (take tag.name_len text))) (tag_of text)

-- whether a base may end before a text: at the word's end, a space, `+` or `-`
abbrev pub may_end : List ℕ → Bool
may_end [] = true
may_end (c ∷ text) = is_separator c

-- the end of a listed tag that is spelled by the longest front of the word, of at most n bytes, and how many bytes that has
abbrev pub longest_tag : IndexedWidget → List ℕ → ℕ → Option (Result ℕ Fault × ℕ)
longest_tag w word zero = None
longest_tag w word (suc n) =
    option_or
    (if may_end (drop (suc n) word) then option_map (λ place. (place, suc n)) (tag_end w (take (suc n) word)) else None)
    (longest_tag w word n)

-- a base's place moved by the modifiers that follow it, where what follows it is modifiers
abbrev pub moved_from : List ℕ → Result ℕ Fault → Option (List Modifier) → Result ℕ Fault
moved_from text base None = Err BadIndex
moved_from text (Err fault) (Some ms) = Err fault
moved_from text (Ok place) (Some ms) = Ok (all_moved text place ms)

-- with a tag as its base
abbrev pub tag_index : IndexedWidget → List ℕ → Option (Result ℕ Fault × ℕ) → Result ℕ Fault
tag_index w word None = Err BadIndex
tag_index w word (Some found) = moved_from w.text found.0 (modifiers_of (drop found.1 word))

-- the place of a word whose token has a place, or none
abbrev pub word_index : IndexedWidget → List ℕ → Option ℕ → Result ℕ Fault
word_index w word (Some place) = moved_from w.text (Ok place) (modifiers_of (drop (token_length word) word))
word_index w word None = tag_index w word (longest_tag w word (length word))

-- the place of a word: by its token, and else by the longest front that is the end of a listed tag
abbrev pub index_of : IndexedWidget → List ℕ → Result ℕ Fault
index_of w word = word_index w word (token_place w (take (token_length word) word))

-- BadIndex whatever marks and tags there are
abbrev pub IsNeverIndex : List ℕ → Type 0
IsNeverIndex word = (w : IndexedWidget) → IsProper w → index_of w word ≡ Err BadIndex

-- some widget has a place for it, or only lacks a character with its tag
abbrev pub MayBeIndex : List ℕ → Type 0
MayBeIndex word = (w : IndexedWidget) × IsProper w × (index_of w word ≢ Err BadIndex)
