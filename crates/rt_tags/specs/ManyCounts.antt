-- Counts of many tags, on their way into the counts that are kept by rising tag.
use Rattle.std.specs.Prelude.{◌≡◌, ◌==◌, ℕ, ◌≤◌, nat_lt, List, ◌-◌, Bool, length, take}
use Rattle.std.specs.List.{count_by}
use Rattle.rt_tags.specs.declared.toggles.TagCount.{TagCount}
use Rattle.rt_tags.specs.Toggles.{AreFrom, count_in}

-- a count is that of a lesser tag
abbrev pub is_tag_before : ℕ → TagCount → Bool
is_tag_before tag c = nat_lt c.tag tag

-- no tag stands twice, and none without a count, in whatever order
pub record AreTagsOnce (counts : List TagCount) : Type 0 where
  pub once : (tag : ℕ) → count_by (λ c. c.tag == tag) counts ≤ 1
  pub some : count_by (λ c. c.count == 0) counts ≡ 0

-- the first of them are in order, and the others stand behind
pub record ArePlaced (ordered : ℕ) (counts : List TagCount) : Type 0 where
  pub within : ordered ≤ length counts
  pub order : AreFrom 0 (take ordered counts)
  pub once : AreTagsOnce counts

-- a count without those that others have of its tag
abbrev pub lessened : List TagCount → TagCount → TagCount
lessened others c = record { tag = c.tag; count = c.count - count_in c.tag others }
