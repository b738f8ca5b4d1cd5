-- States of tags that share parts, by the numbers of their tags: tries whose nodes lie in one list.
use Rattle.std.specs.Prelude.{◌≡◌, ◌⊎◌, ◌==◌, ℕ, ◌+◌, ◌*◌, ◌/◌, ◌%◌, ◌^◌, ◌<◌, List, [], ◌∷◌, ◌++◌, Bool, true, false, not, ◌&&◌, map, Option, Some, None, is_some, slice_get, slice_index_or, if◌then◌else◌}
use Rattle.rt_stamps.specs.declared.stamp.Stamp.{Stamp}
use Rattle.rt_stamps.specs.Stamps.{is_before}
use Rattle.rt_tags.specs.declared.nodes.Setting.{Setting}
use Rattle.rt_tags.specs.declared.nodes.TagSetting.{TagSetting}
use Rattle.rt_tags.specs.declared.nodes.Node.{Node}
use Rattle.rt_tags.specs.declared.states.TagEntry.{TagEntry}

-- The settings of tags. A branch has a tag with its setting, and two parts: of the other tags the odd ones stand in the first and
-- the even ones in the second, each by half of its number.
pub data Tree : Type 0 where
  Empty : Tree
  Branch : ℕ → Option Setting → Tree → Tree → Tree

-- the number by which a tag stands in its part
abbrev pub half : ℕ → ℕ
half tag = tag / 2

abbrev pub is_odd : ℕ → Bool
is_odd tag = tag % 2 == 1

-- the setting of a tag
abbrev pub setting_of : Tree → ℕ → Option Setting
setting_of Empty t = None
setting_of (Branch tag setting odd even) t = if t == tag then setting else (if is_odd t then setting_of odd (half t) else setting_of even (half t))

abbrev pub IsThere : Tree → ℕ → Type 0
IsThere tree t = is_some (setting_of tree t) ≡ true

-- the tree of an id among those that were given out
abbrev pub tree_at : List Tree → ℕ → Tree
tree_at trees id = slice_index_or trees id Empty

-- the tree of a node over those that were given out before
abbrev pub tree_of : List Tree → Node → Tree
tree_of trees node = Branch node.tag node.setting (tree_at trees node.odd) (tree_at trees node.even)

-- the trees of nodes behind those that were given out before
abbrev pub grown : List Tree → List Node → List Tree
grown trees [] = trees
grown trees (node ∷ nodes) = grown (trees ++ tree_of trees node ∷ []) nodes

-- what nodes stand for: the first is the empty state
abbrev pub trees_of : List Node → List Tree
trees_of [] = []
trees_of (node ∷ nodes) = grown (Empty ∷ []) nodes

-- what an id among nodes stands for
abbrev pub at_id : List Node → ℕ → Tree
at_id nodes id = tree_at (trees_of nodes) id

abbrev pub empty_node : Node
empty_node = record { tag = 0; setting = None; odd = 0; even = 0 }

-- a node's tag is less than those of its parts, and all have 32 bits
pub record IsHeap (nodes : List Node) (node : Node) : Type 0 where
  pub odd : (t : ℕ) → IsThere (at_id nodes node.odd) t → (node.tag < 2 * t + 1) × (2 * t + 1 < 2 ^ 32)
  pub even : (t : ℕ) → IsThere (at_id nodes node.even) t → (node.tag < 2 * t) × (2 * t < 2 ^ 32)
  pub tag : node.tag < 2 ^ 32

-- Nodes as they are kept: parts before what has them, a setting in each but the first, each once, and the least tag on top.
pub record AreShared (nodes : List Node) : Type 0 where
  pub first : slice_get nodes 0 ≡ Some empty_node
  pub odd_before : (i : ℕ) (node : Node) → 0 < i → slice_get nodes i ≡ Some node → node.odd < i
  pub even_before : (i : ℕ) (node : Node) → 0 < i → slice_get nodes i ≡ Some node → node.even < i
  pub filled : (i : ℕ) (node : Node) → 0 < i → slice_get nodes i ≡ Some node → is_some node.setting ≡ true
  pub once : (i j : ℕ) (node : Node) → slice_get nodes i ≡ Some node → slice_get nodes j ≡ Some node → i ≡ j
  pub heap : (i : ℕ) (node : Node) → 0 < i → slice_get nodes i ≡ Some node → IsHeap nodes node

-- nodes with some more behind them
abbrev pub HasMore : List Node → List Node → Type 0
HasMore old new = (more : List Node) × (new ≡ old ++ more)

-- two settings by their tags
pub record IsInOrder (a b top low : TagSetting) : Type 0 where
  pub less : top.tag < low.tag
  pub which : ((top ≡ a) × (low ≡ b)) ⊎ ((top ≡ b) × (low ≡ a))

-- the settings of a state after one more
abbrev pub with_setting : ℕ → Setting → Tree → ℕ → Option Setting
with_setting tag setting tree t = if t == tag then Some setting else setting_of tree t

-- every tag of a state is less than a number
abbrev pub IsBelow : ℕ → Tree → Type 0
IsBelow n tree = (t : ℕ) → IsThere tree t → t < n

abbrev pub AreBelow : ℕ → List Node → Type 0
AreBelow n nodes = (id : ℕ) → IsBelow n (at_id nodes id)

-- ONE MORE WRITE

-- a setting isn't less than a writer's
abbrev pub is_setting_kept : Option Setting → Stamp → Bool
is_setting_kept None writer = false
is_setting_kept (Some setting) writer = not (is_before setting.writer writer)

-- the settings of a state after a write: of each tag the greatest writer stays
abbrev pub settings_after : ℕ → Setting → Tree → ℕ → Option Setting
settings_after tag setting tree t = if is_setting_kept (setting_of tree tag) setting.writer then setting_of tree t else with_setting tag setting tree t

-- WHAT IS SEEN OF A STATE

-- a tag's setting as an entry, if there is one
abbrev pub entry_if : ℕ → Option Setting → List TagEntry
entry_if tag None = []
entry_if tag (Some setting) = record { tag = tag; writer = setting.writer; on = setting.on } ∷ []

-- entries whose tags are multiplied and moved
abbrev pub scaled : ℕ → ℕ → List TagEntry → List TagEntry
scaled scale offset entries = map (λ e. record { tag = e.tag * scale + offset; writer = e.writer; on = e.on }) entries

-- the entries of a state, those of its parts by their whole tags
abbrev pub entries_of : Tree → List TagEntry
entries_of Empty = []
entries_of (Branch tag setting odd even) = entry_if tag setting ++ (scaled 2 1 (entries_of odd) ++ scaled 2 0 (entries_of even))

-- TAGS THAT ARE ON

abbrev pub puts_on : Option Setting → Bool
puts_on None = false
puts_on (Some setting) = setting.on

-- a tag isn't on in a state
abbrev pub is_off : Tree → ℕ → Bool
is_off tree tag = not (puts_on (setting_of tree tag))

-- a tag alone, or none
abbrev pub if_so : Bool → ℕ → List ℕ
if_so b tag = if b then tag ∷ [] else []

-- the tags that are on in a part of a state and pass a test: a tag of the part stands for that of the whole state
abbrev pub chosen : (ℕ → ℕ) → (ℕ → Bool) → Tree → List ℕ
chosen whole test Empty = []
chosen whole test (Branch tag setting odd even) =
    if_so (puts_on setting && test (whole tag)) (whole tag) ++ (chosen (λ t. whole (2 * t + 1)) test odd ++ chosen (λ t. whole (2 * t)) test even)
