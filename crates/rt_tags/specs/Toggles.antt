-- How many toggles a stretch of text has of each tag: the tags that have some, in order, and how many each has.
use Rattle.std.specs.Prelude.{ℕ, ◌+◌, ◌<◌, ◌≤◌, ◌==◌, List, [], ◌∷◌, length, if◌then◌else◌}
use Rattle.std.specs.List.{count_by, sum_by}
use Rattle.rt_tags.specs.declared.toggles.TagCount.{TagCount}

-- tags with their counts, and how many tags there is memory for
pub record TagCounts : Type 0 where
  pub counts : List TagCount
  pub capacity : ℕ

-- the count of a tag
abbrev pub count_in : ℕ → List TagCount → ℕ
count_in tag counts = sum_by (λ c. if c.tag == tag then c.count else 0) counts

abbrev pub count_of : ℕ → TagCounts → ℕ
count_of tag t = count_in tag t.counts

-- tags from a number on, in order, each once, and none without a count
abbrev pub AreFrom : ℕ → List TagCount → Type 0
AreFrom first [] = Unit {0}
AreFrom first (c ∷ counts) = (first ≤ c.tag) × (0 < c.count) × AreFrom (c.tag + 1) counts

-- so many tags more have memory
abbrev pub HasRoomFor : ℕ → TagCounts → Type 0
HasRoomFor n t = length t.counts + n ≤ t.capacity

-- how many tags have a count here and none there
abbrev pub more_tags : List TagCount → List TagCount → ℕ
more_tags here there = count_by (λ c. count_in c.tag there == 0) here
