-- Which write of a tag decides on a character.
use Rattle.std.specs.Prelude.{ℕ, List, [], ◌∷◌, Bool, true, map, filter, Option, Some, None, if◌then◌else◌}
use Rattle.std.specs.Str.{bytes_eq}
use Rattle.rt_stamps.specs.declared.stamp.Stamp.{Stamp}
use Rattle.rt_stamps.specs.Stamps.{is_before}
use Rattle.rt_tags.specs.States.{Write, says_on, written}

-- the state after writes, one after the other
abbrev pub state_after : List Write → List Write → List Write
state_after state [] = state
state_after state (w ∷ writes) = state_after (written w state) writes

-- the greater of a write and another, if there is one, by their stamps
abbrev pub greater : Write → Option Write → Write
greater w None = w
greater w (Some v) = if is_before w.writer v.writer then v else w

-- the write with the greatest stamp
abbrev pub greatest : List Write → Option Write
greatest [] = None
greatest (w ∷ writes) = Some (greater w (greatest writes))

-- the writes of one tag
abbrev pub writes_of : List ℕ → List Write → List Write
writes_of name writes = filter (λ w. bytes_eq name w.name) writes

-- a tag is on a character: among its writes one exists, and the one with the greatest stamp says on
abbrev pub is_shared : List ℕ → List Write → Bool
is_shared name writes = says_on (greatest (writes_of name writes))

-- the writes of an Insert, which lists tags: each is on
abbrev pub listed_by : Stamp → List (List ℕ) → List Write
listed_by stamp names = map (λ name. record { name = name; writer = stamp; on = true }) names
