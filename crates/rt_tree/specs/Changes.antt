-- Nodes while a tree changes. No public clause cites this module.
use Rattle.std.specs.Prelude.{◌≡◌, ℕ, zero, suc, ◌+◌, ◌/◌, ◌⊎◌, ◌<◌, ◌≤◌, List, [], ◌∷◌, ◌++◌, length, map}
use Rattle.std.specs.Prelude.{take, drop}
use Rattle.std.specs.List.{AllByRecursion}
use Rattle.rt_nodes.specs.Nodes.{entries}
use Rattle.rt_stamps.specs.declared.stamp.Stamp.{Stamp}
use Rattle.rt_tree.specs.declared.node.Entry.{Entry}
use Rattle.rt_tree.specs.declared.node.Entry.TheVariants.{Down, Here}
use Rattle.rt_tree.specs.declared.node.Totals.{Totals}
use Rattle.rt_tree.specs.Shape.{Memory, ahead, below, child_count, level_of, parent_of, runs}
use Rattle.rt_tree.specs.Sums.{lesser, no_counts, plus, totals_of}

-- NODES WITHOUT TOTALS

abbrev pub blank : Totals
blank = record { least_count = 0; counts = no_counts; least_site = 0 }

-- the entry of a node, without totals
abbrev pub kid : ℕ → Entry
kid id = Down (record { index = id }) blank

abbrev pub strip : Entry → Entry
strip (Here r) = Here r
strip (Down c t) = Down c blank

abbrev pub links : List Entry → List Entry
links es = map strip es

abbrev pub bare : Memory → Memory
bare m = record { heads = m.heads; rows = map links m.rows; room = m.room }

-- LOCAL TOTALS

abbrev pub least_of : Totals → Stamp
least_of t = record { count = t.least_count; site = t.least_site }

-- what runs add up to whose parts add up to these
abbrev pub join : Totals → Totals → Totals
join a b =
    let least = lesser (least_of a) (least_of b) in
    record { least_count = least.count; counts = plus a.counts b.counts; least_site = least.site }

-- the totals of an entry, as it has them
abbrev pub entry_totals : Entry → Totals
entry_totals (Here r) = totals_of (r ∷ [])
entry_totals (Down c t) = t

-- an entry with more joined to the totals that it has for a node
abbrev pub with_more : Totals → Entry → Entry
with_more more (Here r) = Here r
with_more more (Down c t) = Down c (join more t)

abbrev pub adds_up : List Entry → Totals
adds_up [] = totals_of []
adds_up (e ∷ es) = join (entry_totals e) (adds_up es)

-- totals are those of an entry's run, or what the entries of its node add up to
abbrev pub IsExactAt : Memory → Entry → Totals → Type 0
IsExactAt m (Here r) t = t ≡ totals_of (r ∷ [])
IsExactAt m (Down c old) t = t ≡ adds_up (entries m c.index)

abbrev pub IsLocal : Memory → Entry → Type 0
IsLocal m e = IsExactAt m (strip e) (entry_totals e)

-- all nodes' totals are what their entries add up to
abbrev pub AreExact : Memory → Type 0
AreExact m = (id : ℕ) → id < length m.heads → AllByRecursion (IsLocal m) (entries m id)

-- all but those of one node
abbrev pub AreExactBut : ℕ → Memory → Type 0
AreExactBut but m = (id : ℕ) → id < length m.heads → AllByRecursion (λ e. child_count but (strip e ∷ []) ≡ 0 → IsLocal m e) (entries m id)

-- totals have the same least stamp as others had, and no count that is less
pub record HasGrown (before after : Totals) : Type 0 where
  pub least : least_of before ≡ least_of after
  pub cells : before.counts.cells ≤ after.counts.cells
  pub visible : before.counts.visible ≤ after.counts.visible
  pub newlines : before.counts.newlines ≤ after.counts.newlines

-- what is kept for a node in an entry lacks these totals of what the node's own entries add up to
abbrev pub Lacks : ℕ → Totals → Memory → Type 0
Lacks node more m = (id : ℕ) → id < length m.heads → (id ≡ node → ⊥)
    → AllByRecursion (λ e. 0 < child_count node (strip e ∷ []) → adds_up (entries m node) ≡ join more (entry_totals e)) (entries m id)

-- an entry's totals are those of its runs
abbrev pub IsRight : Memory → ℕ → Entry → Type 0
IsRight s k e = entry_totals e ≡ totals_of (below s k (strip e))

-- STEPS

-- the node so many levels above a node
abbrev pub above : Memory → ℕ → ℕ → ℕ
above s zero id = id
above s (suc i) id = parent_of s (above s i id)

-- a node's entries are cut in two: the back ones are now those of a new node, which stands behind it in its parent
pub record IsSplit (s s' : Memory) (n q p : ℕ) (front back left right : List Entry) : Type 0 where
  pub new : q ≡ length s.heads
  pub longer : length s'.heads ≡ suc q
  pub same : length s'.heads ≡ length s'.rows
  pub levels : (c : ℕ) → c < q → level_of s' c ≡ level_of s c
  pub level : level_of s' q ≡ level_of s n
  pub moved : (c : ℕ) → c < q → 0 < child_count c back → parent_of s' c ≡ q
  pub stay : (c : ℕ) → c < q → child_count c back ≡ 0 → parent_of s' c ≡ parent_of s c
  pub parent : parent_of s' q ≡ p
  pub halves : entries s n ≡ front ++ back
  pub at_n : entries s' n ≡ front
  pub at_q : entries s' q ≡ back
  pub was : entries s p ≡ left ++ kid n ∷ right
  pub is : entries s' p ≡ left ++ kid n ∷ kid q ∷ right
  pub others : (c : ℕ) → c < q → (c ≡ n → ⊥) → (c ≡ p → ⊥) → entries s' c ≡ entries s c

-- a node with totals is cut in two, as `IsSplit` has it: its entry in its parent has become two
pub record IsCut (m m' : Memory) (n q p : ℕ) (front back left right : List Entry) (e : Entry) : Type 0 where
  pub new : q ≡ length m.heads
  pub longer : length m'.heads ≡ suc q
  pub same : length m'.heads ≡ length m'.rows
  pub levels : (c : ℕ) → c < q → level_of (bare m') c ≡ level_of (bare m) c
  pub level : level_of (bare m') q ≡ level_of (bare m) n
  pub moved : (c : ℕ) → c < q → 0 < child_count c (links back) → parent_of (bare m') c ≡ q
  pub stay : (c : ℕ) → c < q → child_count c (links back) ≡ 0 → parent_of (bare m') c ≡ parent_of (bare m) c
  pub parent : parent_of (bare m') q ≡ p
  pub halves : entries m n ≡ front ++ back
  pub at_n : entries m' n ≡ front
  pub at_q : entries m' q ≡ back
  pub was : entries m p ≡ left ++ e ∷ right
  pub named : strip e ≡ kid n
  pub is : entries m' p ≡ left ++ Down (record { index = n }) (adds_up front) ∷ Down (record { index = q }) (adds_up back) ∷ right
  pub others : (c : ℕ) → c < q → (c ≡ n → ⊥) → (c ≡ p → ⊥) → entries m' c ≡ entries m c

-- the nodes that stand among entries have a parent
pub record IsAdopted (m m' : Memory) (parent : ℕ) (kids : List Entry) : Type 0 where
  pub rows : m'.rows ≡ m.rows
  pub room : m'.room ≡ m.room
  pub heads : length m'.heads ≡ length m.heads
  pub levels : (c : ℕ) → level_of (bare m') c ≡ level_of (bare m) c
  pub moved : (c : ℕ) → c < length m.heads → 0 < child_count c kids → parent_of (bare m') c ≡ parent
  pub stay : (c : ℕ) → child_count c kids ≡ 0 → parent_of (bare m') c ≡ parent_of (bare m) c

-- a new node has a node's entries from the k-th on
pub record IsHalved (m m' : Memory) (n q p k : ℕ) : Type 0 where
  pub new : q ≡ length m.heads
  pub longer : length m'.heads ≡ suc q
  pub same : length m'.heads ≡ length m'.rows
  pub levels : (c : ℕ) → c < q → level_of (bare m') c ≡ level_of (bare m) c
  pub level : level_of (bare m') q ≡ level_of (bare m) n
  pub moved : (c : ℕ) → c < q → 0 < child_count c (links (drop k (entries m n))) → parent_of (bare m') c ≡ q
  pub stay : (c : ℕ) → c < q → child_count c (links (drop k (entries m n))) ≡ 0 → parent_of (bare m') c ≡ parent_of (bare m) c
  pub parent : parent_of (bare m') q ≡ p
  pub at_n : entries m' n ≡ take k (entries m n)
  pub at_q : entries m' q ≡ drop k (entries m n)
  pub others : (c : ℕ) → c < q → (c ≡ n → ⊥) → entries m' c ≡ entries m c
  pub room : m'.room + 1 ≡ m.room

-- a new root stands above the old one
pub record IsGrown (m m' : Memory) (height root q : ℕ) : Type 0 where
  pub new : q ≡ length m.heads
  pub longer : length m'.heads ≡ suc q
  pub same : length m'.heads ≡ length m'.rows
  pub levels : (c : ℕ) → c < q → level_of (bare m') c ≡ level_of (bare m) c
  pub level : level_of (bare m') q ≡ suc height
  pub stay : (c : ℕ) → c < q → (c ≡ root → ⊥) → parent_of (bare m') c ≡ parent_of (bare m) c
  pub parent : parent_of (bare m') root ≡ q
  pub at_q : entries m' q ≡ Down (record { index = root }) (adds_up (entries m root)) ∷ []
  pub others : (c : ℕ) → c < q → entries m' c ≡ entries m c

-- a split node and the new one have half of its entries each, other nodes are where they were, and none has fewer entries
pub record AreHalves (m m' : Memory) (n q : ℕ) : Type 0 where
  pub new : q ≡ length m.heads
  pub longer : length m'.heads ≡ suc q
  pub levels : (c : ℕ) → c < q → level_of (bare m') c ≡ level_of (bare m) c
  pub first : entries m' n ≡ take (length (entries m n) / 2) (entries m n)
  pub second : entries m' q ≡ drop (length (entries m n) / 2) (entries m n)
  pub parents : (c : ℕ) → c < q → (parent_of (bare m') c ≡ parent_of (bare m) c) ⊎ ((parent_of (bare m) c ≡ n) × (parent_of (bare m') c ≡ q))
  pub others : (c : ℕ) → c < q → (c ≡ n → ⊥) → length (entries m c) ≤ length (entries m' c)

-- what a split leaves where it is: what stands before the node, before the new one and before each node below
pub record AreStill (m m' : Memory) (height n q : ℕ) : Type 0 where
  pub level : level_of (bare m') q ≡ level_of (bare m) n
  pub first : (depth : ℕ) → depth + level_of (bare m) n ≡ height → ahead (bare m') depth n ≡ ahead (bare m) depth n
  pub second : (depth : ℕ) → suc depth + level_of (bare m) n ≡ height
      → ahead (bare m') (suc depth) q ≡ ahead (bare m) (suc depth) n ++ runs (bare m') (level_of (bare m) n) n
  pub lower : (j depth c : ℕ) → c < length m.heads → level_of (bare m) c + suc j ≡ level_of (bare m) n
      → above (bare m) (suc j) c ≡ n → depth + level_of (bare m) c ≡ height
      → ahead (bare m') depth c ≡ ahead (bare m) depth c
  pub same : (c : ℕ) → c < length m.heads → level_of (bare m) c < level_of (bare m) n → entries m' c ≡ entries m c
