-- The runs that a memory of nodes holds, below a root.
use Rattle.std.specs.Prelude.{◌≡◌, ◌≢◌, ℕ, zero, suc, ◌+◌, ◌<◌, ◌≤◌, ◌==◌, Bool, false, if◌then◌else◌, List, [], ◌∷◌, ◌++◌, length, flat_map, slice_index_or, take}
use Rattle.std.specs.List.{AllByRecursion}
use Rattle.rt_nodes.specs.Nodes.{Nodes, entries}
use Rattle.rt_tree.specs.declared.node.Counts.{Counts}
use Rattle.rt_tree.specs.declared.node.Entry.{Entry}
use Rattle.rt_tree.specs.declared.node.Entry.TheVariants.{Down, Here}
use Rattle.rt_tree.specs.declared.node.Head.{Head}
use Rattle.rt_tree.specs.declared.node.Run.{Run}
use Rattle.rt_tree.specs.Sums.{counts_of_run, no_counts, plus, totals_of}

-- nodes by their ids' numbers
abbrev pub Memory : Type 0
Memory = Nodes Head Entry

abbrev pub head_at : Memory → ℕ → Head
head_at m id = slice_index_or m.heads id (record { parent = record { index = 0 }; level = 0 })

-- how many levels a node is above the leaves
abbrev pub level_of : Memory → ℕ → ℕ
level_of m id = (head_at m id).level

abbrev pub parent_of : Memory → ℕ → ℕ
parent_of m id = (head_at m id).parent.index

-- the runs of an entry of a node at a level
abbrev pub below : Memory → ℕ → Entry → List Run
below m k (Here r) = r ∷ []
below m zero (Down c t) = []
below m (suc k) (Down c t) = flat_map (below m k) (entries m c.index)

-- the runs of some entries of a node at a level
abbrev pub all_below : Memory → ℕ → List Entry → List Run
all_below m k es = flat_map (below m k) es

-- the runs of a node at a level
abbrev pub runs : Memory → ℕ → ℕ → List Run
runs m k id = all_below m k (entries m id)

-- the runs of a tree
abbrev pub tree_runs : Memory → ℕ → List Run
tree_runs m root = runs m (level_of m root) root

-- a node is a child of another, at a level
pub record IsChild (m : Memory) (id k child : ℕ) : Type 0 where
  pub is : child < length m.heads
  pub level : level_of m child ≡ k
  pub parent : parent_of m child ≡ id

-- the entries of a leaf are runs, those of a node above the leaves are nodes one level down, which know it as their parent
abbrev pub Fits : Memory → ℕ → ℕ → Entry → Type 0
Fits m id zero (Here r) = Unit {0}
Fits m id zero (Down c t) = ⊥
Fits m id (suc k) (Here r) = ⊥
Fits m id (suc k) (Down c t) = IsChild m id k c.index

-- the totals that are kept for a node are those of the runs below it
abbrev pub IsExact : Memory → ℕ → Entry → Type 0
IsExact m k (Here r) = Unit {0}
IsExact m k (Down c t) = t ≡ totals_of (below m k (Down c t))

-- whether an entry is that of a node
abbrev pub is_of : ℕ → Entry → Bool
is_of id (Here r) = false
is_of id (Down c t) = c.index == id

-- how often a node stands among entries
abbrev pub child_count : ℕ → List Entry → ℕ
child_count id [] = 0
child_count id (Here r ∷ es) = child_count id es
child_count id (Down c t ∷ es) = (if c.index == id then 1 else 0) + child_count id es

-- the entries before a node's, and those behind it
abbrev pub left_of : ℕ → List Entry → List Entry
left_of id [] = []
left_of id (Here r ∷ es) = Here r ∷ left_of id es
left_of id (Down c t ∷ es) = if c.index == id then [] else Down c t ∷ left_of id es

abbrev pub right_of : ℕ → List Entry → List Entry
right_of id [] = []
right_of id (Here r ∷ es) = right_of id es
right_of id (Down c t ∷ es) = if c.index == id then es else right_of id es

-- the entries of a node's parent
abbrev pub around : Memory → ℕ → List Entry
around m id = entries m (parent_of m id)

-- a node that isn't the root stands once in its parent, one level up
pub record IsKnown (m : Memory) (id : ℕ) : Type 0 where
  pub is : parent_of m id < length m.heads
  pub up : level_of m (parent_of m id) ≡ suc (level_of m id)
  pub once : child_count id (around m id) ≡ 1

-- a root above the leaves has two entries or more, each other node eight
abbrev pub IsFilled : Memory → ℕ → ℕ → Type 0
IsFilled m root id = (if id == root then (if level_of m id == 0 then 0 else 2) else 8) ≤ length (entries m id)

-- each node has entries enough
abbrev pub AreFilled : Memory → ℕ → Type 0
AreFilled m root = (id : ℕ) → id < length m.heads → IsFilled m root id

-- all nodes of a memory stand below a root, so many levels above the leaves
pub record IsShape (m : Memory) (height root : ℕ) : Type 0 where
  pub same : length m.heads ≡ length m.rows
  pub root_is : root < length m.heads
  pub top : level_of m root ≡ height
  pub low : (id : ℕ) → id < length m.heads → level_of m id ≤ height
  pub fits : (id : ℕ) → id < length m.heads → AllByRecursion (Fits m id (level_of m id)) (entries m id)
  pub known : (id : ℕ) → id < length m.heads → id ≢ root → IsKnown m id

-- they are a tree, whose nodes have entries enough and right totals
pub record IsTree (m : Memory) (root : ℕ) : Type 0 where
  pub shape : IsShape m (level_of m root) root
  pub filled : AreFilled m root
  pub totals : (id : ℕ) → id < length m.heads → AllByRecursion (IsExact m (level_of m id)) (entries m id)

-- the runs before a node that is so many levels below the root, and those behind it
abbrev pub ahead : Memory → ℕ → ℕ → List Run
ahead m zero id = []
ahead m (suc depth) id = ahead m depth (parent_of m id) ++ all_below m (level_of m (parent_of m id)) (left_of id (around m id))

abbrev pub behind : Memory → ℕ → ℕ → List Run
behind m zero id = []
behind m (suc depth) id = all_below m (level_of m (parent_of m id)) (right_of id (around m id)) ++ behind m depth (parent_of m id)

-- the runs before an entry of a leaf
abbrev pub runs_before : Memory → ℕ → ℕ → ℕ → List Run
runs_before m root leaf i = ahead m (level_of m root) leaf ++ all_below m 0 (take i (entries m leaf))

-- what an entry counts, and what entries do together
abbrev pub entry_counts : Entry → Counts
entry_counts (Here r) = counts_of_run r
entry_counts (Down c t) = t.counts

abbrev pub sum_of : List Entry → Counts
sum_of [] = no_counts
sum_of (e ∷ es) = plus (entry_counts e) (sum_of es)
