-- The reading of inserted characters. Each was inserted after an element, its left element: they are a tree below the
-- root, which is read depth first (Replicated Growable Array).
use Rattle.std.specs.Prelude.{ℕ, zero, suc, Bool, List, [], ◌∷◌, ◌++◌, length, reverse, if◌then◌else◌}
use Rattle.std.specs.List.{list_any, filter, flat_map}
use Rattle.rt_stamps.specs.declared.stamp.Stamp.{Stamp}
use Rattle.rt_stamps.specs.declared.stamp.TheConstants.{ROOT}
use Rattle.rt_stamps.specs.Stamps.{is_before, is_same}

-- a character, with the element that it was inserted after
pub record Character : Type 0 where
  pub stamp : Stamp
  pub left : Stamp
  pub ch : ℕ

-- one of the characters has the stamp
abbrev pub has_stamp : List Character → Stamp → Bool
has_stamp characters stamp = list_any (λ c. is_same c.stamp stamp) characters

-- THE READING. Characters are listed by rising stamp.

-- the children of an element: the characters inserted after it, the greatest first
abbrev pub children : List Character → Stamp → List Character
children characters parent = reverse (filter (λ c. is_same c.left parent) characters)

-- Siblings, each followed by its children and theirs, in a tree that is no deeper than `depth`.
abbrev pub forest : ℕ → List Character → List Character → List Character
forest zero characters siblings = []
forest (suc depth) characters siblings = flat_map (λ c. c ∷ forest depth characters (children characters c.stamp)) siblings

-- depth first from the root, which is left out; a tree is no deeper than it has characters
abbrev pub reading : List Character → List Character
reading characters = forest (length characters) characters (children characters ROOT)

-- The reading as a relation: that of siblings is each, followed by the reading of its children.
pub data ReadsSiblings (characters : List Character) : List Character → List Character → Type 0 where
  none : ReadsSiblings characters [] []
  next : {c : Character} {inner siblings rest : List Character} → ReadsSiblings characters (children characters c.stamp) inner
      → ReadsSiblings characters siblings rest → ReadsSiblings characters (c ∷ siblings) (c ∷ inner ++ rest)

abbrev pub IsReading : List Character → List Character → Type 0
IsReading characters list = ReadsSiblings characters (children characters ROOT) list

-- The reading in one pass by rising stamp, as a child is greater than its left element: what stands below an element.
abbrev pub descendants : List Character → Stamp → List Character
descendants [] parent = []
descendants (c ∷ greater) parent =
    if is_same c.left parent then descendants greater parent ++ c ∷ descendants greater c.stamp else descendants greater parent

abbrev pub reading_by_stamp : List Character → List Character
reading_by_stamp characters = descendants characters ROOT

-- MORE CHARACTERS

-- the characters with one more, by rising stamp
abbrev pub with_character : Character → List Character → List Character
with_character new [] = new ∷ []
with_character new (c ∷ greater) = if is_before c.stamp new.stamp then c ∷ with_character new greater else new ∷ c ∷ greater

-- the characters with several more
abbrev pub with_characters : List Character → List Character → List Character
with_characters [] characters = characters
with_characters (c ∷ new) characters = with_characters new (with_character c characters)
