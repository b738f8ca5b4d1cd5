-- The borders in a stretch of text: two neighbours of which one passes a test and the other doesn't, as where a range of a tag
-- begins or ends. A border counts for a stretch only if both neighbours are in it: so those of two stretches add up, with the one
-- between them, whatever stands around.
use Rattle.std.specs.Prelude.{◌≡◌, ℕ, ◌+◌, ◌≤◌, Bool, List, [], ◌∷◌, length, Option, Some, None, if◌then◌else◌}
use Rattle.rt_tags.specs.States.{TagStates, IsTag, is_on, name_at, state_at}
use Rattle.rt_tags.specs.Toggles.{TagCounts, count_of}

-- the one, or if there is none the other
abbrev pub either : {A : Type 0} → Option A → Option A → Option A
either None other = other
either (Some x) other = Some x

-- the first and the last element
abbrev pub first : {A : Type 0} → List A → Option A
first [] = None
first (x ∷ xs) = Some x

abbrev pub last : {A : Type 0} → List A → Option A
last [] = None
last (x ∷ xs) = either (last xs) (Some x)

-- the element, if there is one
abbrev pub one_or_none : {A : Type 0} → Option A → List A
one_or_none None = []
one_or_none (Some x) = x ∷ []

-- how many borders are between two neighbours; none where there is no neighbour
abbrev pub border : {A : Type 0} → (A → Bool) → Option A → Option A → ℕ
border test None other = 0
border test (Some x) None = 0
border test (Some x) (Some y) = if test x then (if test y then 0 else 1) else (if test y then 1 else 0)

-- how many borders there are
abbrev pub borders : {A : Type 0} → (A → Bool) → List A → ℕ
borders test [] = 0
borders test (x ∷ xs) = border test (Some x) (first xs) + borders test xs

-- a tag is on in a state that was given out
abbrev pub is_tagged : TagStates → ℕ → ℕ → Bool
is_tagged table tag state = is_on (name_at table tag) (state_at table state)

-- counts are of tags that were given out, and there is memory for a count of each of these
pub record HasRoomForAll (table : TagStates) (t : TagCounts) : Type 0 where
  pub room : length table.names ≤ t.capacity
  pub others : (tag : ℕ) → length table.names ≤ tag → count_of tag t ≡ 0

-- one where a tag is on here and not there
abbrev pub beyond : Bool → Bool → ℕ
beyond here there = if here then (if there then 0 else 1) else 0

-- Counts are the toggles of a stretch, seen as the states of its visible characters: of each tag that was given out as many as it
-- has borders between characters with the tag and characters without it, and of no other any.
pub record AreToggles (table : TagStates) (states : List ℕ) (t : TagCounts) : Type 0 where
  pub given : (tag : ℕ) → IsTag table tag → count_of tag t ≡ borders (is_tagged table tag) states
  pub others : (tag : ℕ) → length table.names ≤ tag → count_of tag t ≡ 0
