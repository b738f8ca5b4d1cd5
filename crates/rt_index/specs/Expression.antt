-- What the parts of a parsed expression say, which is what its word says.
use Rattle.std.specs.Prelude.{◌≡◌, ℕ, zero, suc, ◌+◌, min, ◌==◌, ◌&&◌, ◌||◌, not, codes, bytes_eq, Bool, List, length, take, drop, Option, Some, None, Result, Ok, Err, IsCharBoundary, if◌then◌else◌}
use Rattle.std.specs.Option.{option_or}
use Rattle.std.specs.List.{prefix_len}
use Rattle.std.specs.Char.{is_ascii_digit}
use Rattle.std.specs.Str.Parse.{digits_value}
use Rattle.rt_stamps.specs.declared.fault.Fault.{Fault}
use Rattle.rt_stamps.specs.declared.fault.Fault.TheVariants.{BadIndex}
use Rattle.rt_stamps.specs.Names.{is_name_length}
use Rattle.rt_index.specs.declared.parts.Modifier.{Modifier}
use Rattle.rt_index.specs.declared.parts.Modifier.TheVariants.{Forward, Back, To}
use Rattle.rt_index.specs.declared.parts.Fixed.{Fixed}
use Rattle.rt_index.specs.declared.parts.Fixed.TheVariants.{Character, LineEndOf, End}
use Rattle.rt_index.specs.declared.parts.Side.{Side}
use Rattle.rt_index.specs.declared.parts.Tag.{Tag}
use Rattle.rt_index.specs.declared.parts.Base.{Base}
use Rattle.rt_index.specs.declared.parts.Base.TheVariants.{AtPlace, Named}
use Rattle.rt_index.specs.declared.parts.TheConstants.{MOST}
use Rattle.rt_index.specs.Index.{fixed_place, side_text, may_end, tag_of, tag_place, moved_from, index_of}
use Rattle.rt_index.specs.Widget.{IndexedWidget, TagEnds, IsProper}

-- a number as it is kept
abbrev pub kept : ℕ → ℕ
kept k = min k MOST

-- the number at the front of a text, as it is kept, and what follows its digits; none where there are no digits
abbrev pub kept_number_at : List ℕ → Option (ℕ × List ℕ)
kept_number_at text =
    let n = prefix_len is_ascii_digit text in
    if n == 0 then None else Some (kept (digits_value 10 (take n text)), drop n text)

abbrev pub kept_modifier : Modifier → Modifier
kept_modifier (Forward k step) = Forward (kept k) step
kept_modifier (Back k step) = Back (kept k) step
kept_modifier (To keyword) = To keyword

-- a modifier with the text after it, its number kept so
abbrev pub kept_found : Modifier × List ℕ → Modifier × List ℕ
kept_found found = (kept_modifier found.0, found.1)

abbrev pub kept_fixed : Fixed → Fixed
kept_fixed (Character line character) = Character (kept line) (kept character)
kept_fixed (LineEndOf line) = LineEndOf (kept line)
kept_fixed End = End

-- how many bytes `NAME.first` or `NAME.last` has
abbrev pub tag_after : Tag → ℕ
tag_after tag = tag.name_len + length (side_text tag.side)

-- the longest front of a word, of at most n bytes, that is `NAME.first` or `NAME.last` and may be a base
abbrev pub longest_named : List ℕ → ℕ → Option Tag
longest_named word zero = None
longest_named word (suc n) = option_or (if may_end (drop (suc n) word) then tag_of (take (suc n) word) else None) (longest_named word n)

-- where the modifiers of a base begin that is no position and not `end`
abbrev pub named_after : ℕ → Option Tag → ℕ
named_after token None = token
named_after token (Some tag) = tag_after tag

-- where a tag begins or ends, if it is listed
abbrev pub listed_place : Side → Option (Option TagEnds) → Result ℕ Fault
listed_place side None = Err BadIndex
listed_place side (Some ends) = tag_place side ends

-- a mark's place if the modifiers follow it; what else there is where there is no such mark
abbrev pub marked_place : Bool → Option ℕ → Result ℕ Fault → Result ℕ Fault
marked_place fits None otherwise = otherwise
marked_place fits (Some place) otherwise = if fits then Ok place else Err BadIndex

-- what a base says
abbrev pub base_index : IndexedWidget → List ℕ → Base → Result ℕ Fault
base_index w word (AtPlace fixed) = Ok (fixed_place w.text fixed)
base_index w word (Named token fits None) = marked_place fits (w.marks (take token word)) (Err BadIndex)
base_index w word (Named token fits (Some tag)) = marked_place fits (w.marks (take token word)) (listed_place tag.side (w.tags (take tag.name_len word)))

-- a mark that each widget has
abbrev pub is_always_mark : List ℕ → Bool
is_always_mark name = bytes_eq name (codes "insert") || bytes_eq name (codes "current")

-- whether some widget has a place for a base: a mark that modifiers follow, or a listed tag where the token is no mark
abbrev pub is_possible : List ℕ → Bool → Option Tag → Bool
is_possible token fits None = fits && is_name_length (length token)
is_possible token fits (Some tag) = (fits && is_name_length (length token)) || (is_name_length tag.name_len && not (is_always_mark token))

-- names are whole characters of the word
abbrev pub NamesAreWhole : List ℕ → Base → Type 0
NamesAreWhole word (AtPlace fixed) = Unit {0}
NamesAreWhole word (Named token fits None) = IsCharBoundary word token
NamesAreWhole word (Named token fits (Some tag)) = IsCharBoundary word token × IsCharBoundary word tag.name_len

-- parts that say what the word says
pub record IsParsed (word : List ℕ) (base : Base) (modifiers : List Modifier) : Type 0 where
  pub names : NamesAreWhole word base
  pub same : (w : IndexedWidget) → IsProper w → index_of w word ≡ moved_from w.text (base_index w word base) (Some modifiers)
