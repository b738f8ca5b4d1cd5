-- Ranges of characters that have a tag: the maximal ones whose characters pass a test (Tk text manual, "tag ranges", "tag nextrange", "tag prevrange").
use Rattle.std.specs.Prelude.{◌≡◌, ℕ, ◌+◌, ◌<◌, ◌≤◌, ◌==◌, nat_le, nat_lt, ◌&&◌, Bool, if◌then◌else◌, List, [], ◌∷◌, length, find, reverse, Option}
use Rattle.rt_store.specs.Tagged.{Passes}
use Rattle.rt_plans.specs.declared.range.Range.{Range}

-- one place before ranges that begin behind it: it joins the first where that begins right behind it, and is a range of its own elsewhere
abbrev pub with_place_before : ℕ → List Range → List Range
with_place_before place [] = record { from = place; to = place + 1 } ∷ []
with_place_before place (range ∷ ranges) =
    if range.from == place + 1 then record { from = place; to = range.to } ∷ ranges else record { from = place; to = place + 1 } ∷ range ∷ ranges

-- the ranges of characters that pass a test, in order, where the first character stands at a place
abbrev pub ranges_from : {A : Type 0} → (A → Bool) → ℕ → List A → List Range
ranges_from test place [] = []
ranges_from test place (c ∷ characters) =
    if test c then with_place_before place (ranges_from test (place + 1) characters) else ranges_from test (place + 1) characters

-- the ranges of a text's characters that pass a test, in order
abbrev pub passing_ranges : {A : Type 0} → (A → Bool) → List A → List Range
passing_ranges test characters = ranges_from test 0 characters

-- the first range that begins at a place or later
abbrev pub first_range_from : ℕ → List Range → Option Range
first_range_from place ranges = find (λ range. nat_le place range.from) ranges

-- a range begins at one place or later, and before another
abbrev pub begins_between : ℕ → ℕ → Range → Bool
begins_between from to range = nat_le from range.from && nat_lt range.from to

-- the first range that begins at one place or later, and before another
abbrev pub next_range : ℕ → ℕ → List Range → Option Range
next_range from to ranges = find (begins_between from to) ranges

-- the last range that begins before one place, and at another or later
abbrev pub previous_range : ℕ → ℕ → List Range → Option Range
previous_range to from ranges = find (begins_between from to) (reverse ranges)

-- WHAT THE RANGES ARE

-- a range of characters that pass, with none that passes right before it or right behind it
pub record IsMaximal {A : Type 0} (test : A → Bool) (characters : List A) (range : Range) : Type 0 where
  pub not_empty : range.from < range.to
  pub within : range.to ≤ length characters
  pub passes : (k : ℕ) → range.from ≤ k → k < range.to → Passes test characters k
  pub none_before : (k : ℕ) → k + 1 ≡ range.from → Passes test characters k → ⊥
  pub none_behind : Passes test characters range.to → ⊥

-- a place is in a range
abbrev pub IsIn : ℕ → Range → Type 0
IsIn place range = (range.from ≤ place) × (place < range.to)

-- the characters from a place up to another pass, and none that stands there does
pub record PassUpTo {A : Type 0} (test : A → Bool) (characters : List A) (place end : ℕ) : Type 0 where
  pub from : place ≤ end
  pub within : end ≤ length characters
  pub passes : (k : ℕ) → place ≤ k → k < end → Passes test characters k
  pub none_behind : Passes test characters end → ⊥

-- no range reaches over a place, and none begins from another place up to it
pub record IsClearFrom {A : Type 0} (test : A → Bool) (characters : List A) (place clear : ℕ) : Type 0 where
  pub from : place ≤ clear
  pub begin_later : (range : Range) → IsMaximal test characters range → place ≤ range.from → clear ≤ range.from
  pub end_before : (range : Range) → IsMaximal test characters range → range.from < clear → range.to ≤ clear

-- the characters from a place on pass, up to another and with that
abbrev pub PassThrough : {A : Type 0} → (A → Bool) → List A → ℕ → ℕ → Type 0
PassThrough test characters from last = (k : ℕ) → from ≤ k → k ≤ last → Passes test characters k

-- the range that holds a place begins nowhere before another
abbrev pub BeginFrom : {A : Type 0} → (A → Bool) → List A → ℕ → ℕ → Type 0
BeginFrom test characters place least = (k : ℕ) → PassThrough test characters k place → least ≤ k

-- the least place from which the characters pass through to another: the range that holds that one begins there
pub record IsBegin {A : Type 0} (test : A → Bool) (characters : List A) (place begin : ℕ) : Type 0 where
  pub within : begin ≤ place
  pub passes : PassThrough test characters begin place
  pub least : BeginFrom test characters place begin
