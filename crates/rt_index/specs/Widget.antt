-- What an index expression needs to know of a widget: its characters, its marks and the ends of its tags.
use Rattle.std.specs.Prelude.{◌≡◌, ℕ, ◌≤◌, List, length, Option, Some, IsSome, codes, option_and_then, option_map}
use Rattle.rt_stamps.specs.declared.limits.TheConstants.{MOST_CELLS}
pub use Rattle.rt_stamps.specs.Names.{IsName}
use Rattle.rt_stamps.specs.Places.{EndsWithNewline}

-- where the characters of a tag begin and end
pub record TagEnds : Type 0 where
  pub first : ℕ  -- the first place that has the tag
  pub last : ℕ  -- the place after the last one that has it

pub record IndexedWidget : Type 0 where
  pub text : List ℕ
  -- the place of a mark, by the bytes of its name
  pub marks : List ℕ → Option ℕ
  -- a listed tag, by the bytes of its name, and its ends where some character has it
  pub tags : List ℕ → Option (Option TagEnds)

-- where a tag begins, if it is listed and some character has it; and where it ends
abbrev pub tag_first : IndexedWidget → List ℕ → Option ℕ
tag_first w name = option_map (λ ends. ends.first) (option_and_then (λ ends. ends) (w.tags name))

abbrev pub tag_last : IndexedWidget → List ℕ → Option ℕ
tag_last w name = option_map (λ ends. ends.last) (option_and_then (λ ends. ends) (w.tags name))

-- What is so of every widget: a last newline, a bounded text, marks and ends of tags within it, names of marks and tags
-- that are names, the marks `insert` and `current`, and the tag `sel`.
pub record IsProper (w : IndexedWidget) : Type 0 where
  pub newline : EndsWithNewline w.text
  pub bounded : length w.text ≤ MOST_CELLS
  pub marks_within : (name : List ℕ) (place : ℕ) → w.marks name ≡ Some place → place ≤ length w.text
  pub first_within : (name : List ℕ) (place : ℕ) → tag_first w name ≡ Some place → place ≤ length w.text
  pub last_within : (name : List ℕ) (place : ℕ) → tag_last w name ≡ Some place → place ≤ length w.text
  pub mark_names : (name : List ℕ) → IsSome (w.marks name) → IsName name
  pub tag_names : (name : List ℕ) → IsSome (w.tags name) → IsName name
  pub insert : IsSome (w.marks (codes "insert"))
  pub current : IsSome (w.marks (codes "current"))
  pub sel : IsSome (w.tags (codes "sel"))
