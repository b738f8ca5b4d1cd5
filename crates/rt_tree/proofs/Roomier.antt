-- A tree in a memory that has more room, and the nodes that some runs ask for.
use Rattle.std.proofs.Common.{Bool, ◌≡◌, ◌<◌, nat_lt, ℕ, zero, suc, ◌+◌, ◌-◌, ◌*◌, ◌/◌, ◌≤◌, max, List, [], ◌∷◌, ◌++◌, length, refl, sym, ap, ◌∙◌, arith, subst}
use Rattle.std.proofs.Math.Nat.{le-max_right, max-eq_right, max_comm}
use Rattle.std.proofs.lemmas.Bool.{ltb-false, ltb-true}
use Rattle.std.specs.List.{AllByRecursion}
use Rattle.rt_nodes.specs.declared.memory.NodeId.{NodeId}
use Rattle.rt_nodes.specs.Nodes.{entries, with_room}
use Rattle.rt_spans.specs.Shown.{KeepsBorders, SpanMapValue, value_of}
use Rattle.rt_stamps.specs.declared.stamp.Stamp.{Stamp}
use Rattle.rt_tags.proofs.Places.{split}
use Rattle.rt_tree.specs.declared.node.Entry.{Entry}
use Rattle.rt_tree.specs.declared.node.Entry.TheVariants.{Down, Here}
use Rattle.rt_stamps.specs.declared.limits.TheConstants.{MOST_CELLS}
use Rattle.rt_store.specs.Cells.{Room}
use Rattle.rt_tree.specs.declared.node.Run.{Run}
use Rattle.rt_tree.specs.declared.summary.Summary.{Summary}
use Rattle.rt_tree.specs.Runs.{IsRun, cells_of_runs}
use Rattle.rt_tree.specs.Shape.{Fits, IsExact, IsTree, Memory, all_below, below, level_of, runs, tree_runs}
use Rattle.rt_tree.specs.Sharing.{AreApart}
use Rattle.rt_tree.specs.Standing.{AreHoused, IsBordered}
use Rattle.rt_tree.specs.Sums.{counts_of, totals_of}
use Rattle.rt_tree.specs.Summaries.{TellsAs, summary_of}
use Rattle.rt_tree.specs.Trees.{HasNodes, IsTreeOfText, NodeStretch, came_of, tree_value, node_stretches}
use Rattle.rt_tree.proofs.Showing.{stretches_same}
use Rattle.rt_tree.proofs.Telling.{tells_same}

module _ (m : Memory) (n : ℕ) where
  abbrev more : Memory
  more = with_room m n

  flat-room : (k : ℕ) → ((e : Entry) → below more k e ≡ below m k e) → (es : List Entry) → all_below more k es ≡ all_below m k es
  flat-room k same [] = refl
  flat-room k same (e ∷ es) = ap (λ l. l ++ all_below more k es) (same e) ∙ ap (λ l. below m k e ++ l) (flat-room k same es)

  below-room : (k : ℕ) (e : Entry) → below more k e ≡ below m k e
  below-room zero (Here r) = refl
  below-room zero (Down c t) = refl
  below-room (suc k) (Here r) = refl
  below-room (suc k) (Down c t) = flat-room k (below-room k) (entries m c.index)

  fits-room : (id k : ℕ) (e : Entry) → Fits m id k e → Fits more id k e
  fits-room id zero (Here r) f = f
  fits-room id (suc k) (Here r) f = f
  fits-room id zero (Down c t) f = f
  fits-room id (suc k) (Down c t) f = record { is = f.is; level = f.level; parent = f.parent }

  all-fits : (id k : ℕ) (es : List Entry) → AllByRecursion (Fits m id k) es → AllByRecursion (Fits more id k) es
  all-fits id k [] all = tt
  all-fits id k (e ∷ es) all = (fits-room id k e all.0, all-fits id k es all.1)

  exact-room : (k : ℕ) (e : Entry) → IsExact m k e → IsExact more k e
  exact-room k (Here r) f = f
  exact-room k (Down c t) f = f ∙ ap totals_of (sym (below-room k (Down c t)))

  all-exact : (k : ℕ) (es : List Entry) → AllByRecursion (IsExact m k) es → AllByRecursion (IsExact more k) es
  all-exact k [] all = tt
  all-exact k (e ∷ es) all = (exact-room k e all.0, all-exact k es all.1)

  pub tree_room : (root : ℕ) → IsTree m root → IsTree more root
  tree_room root t = record {
    shape = record {
      same = t.shape.same;
      root_is = t.shape.root_is;
      top = t.shape.top;
      low = t.shape.low;
      fits = λ id is. all-fits id (level_of m id) (entries m id) (t.shape.fits id is);
      known = λ id is ne. let k = t.shape.known id is ne in record { is = k.is; up = k.up; once = k.once };
    };
    filled = t.filled;
    totals = λ id is. all-exact (level_of m id) (entries m id) (t.totals id is);
  }

  node_room : (id : ℕ) → runs more (level_of more id) id ≡ runs m (level_of m id) id
  node_room id = flat-room (level_of m id) (below-room (level_of m id)) (entries m id)

  pub stretches_room : (sums : List Summary) → node_stretches more sums (length m.heads) ≡ node_stretches m sums (length m.heads)
  stretches_room sums = stretches_same m more sums sums (length m.heads) node_room (λ id lt. tells_same (summary_of sums id))

  pub runs_room : (root : ℕ) → tree_runs more root ≡ tree_runs m root
  runs_room root = flat-room (level_of m root) (below-room (level_of m root)) (entries m root)

-- as many nodes as are asked for are enough
pub nodes_enough : (runs heads had : ℕ) → runs ≤ 7 * (heads + max had (runs / 7 + 1 - heads))
nodes_enough runs heads had =
    let r = le-max_right had (runs / 7 + 1 - heads) in
    omega (arith, r)

borders_stay : (leaves after : SpanMapValue NodeId) → KeepsBorders leaves after → (rs : List Run) → AllByRecursion (IsBordered leaves) rs → AllByRecursion (IsBordered after) rs
borders_stay leaves after keeps [] was = tt
borders_stay leaves after keeps (r ∷ rs) was =
    (record { begins = keeps r.site r.first was.0.begins; ends = keeps r.site (r.first + r.len) was.0.ends; bound = was.0.bound }, borders_stay leaves after keeps rs was.1)

pub map_housed : (m : Memory) (root : ℕ) (leaves after : SpanMapValue NodeId) → ((stamp : Stamp) → value_of after stamp ≡ value_of leaves stamp) → KeepsBorders leaves after → AreHoused m root leaves → AreHoused m root after
map_housed m root leaves after same keeps h = record {
  bordered = borders_stay leaves after keeps (tree_runs m root) h.bordered;
  there = λ leaf run s stamp own. same stamp ∙ h.there leaf run s stamp own;
}

module _ (m : Memory) (n : ℕ) (root : ℕ) (text : List ℕ) (runs : ℕ) (m' : Memory) (is : m' ≡ with_room m n) where
  pub room_runs : tree_runs m' root ≡ tree_runs m root
  room_runs = ap (λ (x : Memory). tree_runs x root) is ∙ runs_room m n root

  pub room_kept : IsTreeOfText m root text runs → IsTreeOfText m' root text runs
  room_kept k =
      let same = sym room_runs in
      record {
        tree = subst (λ (x : Memory). IsTree x root) (sym is) (tree_room m n root k.tree);
        kept = subst (AllByRecursion (IsRun text)) same k.kept;
        apart = subst AreApart same k.apart;
        counted = k.counted ∙ ap length same;
        few = subst (λ (l : List Run). (counts_of l).cells ≤ MOST_CELLS) same k.few;
        all = k.all ∙ ap (λ (l : List Run). (counts_of l).cells) same;
      }

  -- each run's stamps still have its leaf, if the map tells the same and keeps its borders
  pub room_housed : (leaves after : SpanMapValue NodeId) → ((stamp : Stamp) → value_of after stamp ≡ value_of leaves stamp) → KeepsBorders leaves after → AreHoused m root leaves → AreHoused m' root after
  room_housed leaves after same keeps h =
      let now = map_housed m root leaves after same keeps h in
      subst (λ (x : Memory). AreHoused x root after) (sym is) (record {
        bordered = subst (AllByRecursion (IsBordered after)) (sym (runs_room m n root)) now.bordered;
        there = λ leaf run s. now.there leaf run (record { is = s.is; low = s.low; entry = s.entry; here = s.here });
      })

module _ (m : Memory) (n : ℕ) (root : ℕ) (text : List ℕ) (sums : List Summary) (room : Room) (m' : Memory) (is : m' ≡ with_room m n) where
  pub room_shown : (sure : Bool) → tree_value m' root text sums room sure ≡ tree_value m root text sums room sure
  room_shown sure =
      ap (λ (x : Memory). tree_value x root text sums room sure) is
      ∙ ap (λ (l : List Run). record { cells = cells_of_runs text l; came = came_of l; runs = length l; height = level_of m root + 1; room = room; stretches = node_stretches (with_room m n) sums (length m.heads); sure = sure }) (runs_room m n root)
      ∙ ap (λ (l : List NodeStretch). record { cells = cells_of_runs text (tree_runs m root); came = came_of (tree_runs m root); runs = length (tree_runs m root); height = level_of m root + 1; room = room; stretches = l; sure = sure }) (stretches_room m n sums)

-- a tree is shown alike where summaries tell the same
pub sums_shown : (m : Memory) (root : ℕ) (text : List ℕ) (sums sums' : List Summary) (room : Room) (sure : Bool) → length m.heads ≤ length sums → ((id : ℕ) → id < length sums → TellsAs (summary_of sums id) (summary_of sums' id)) → tree_value m root text sums' room sure ≡ tree_value m root text sums room sure
sums_shown m root text sums sums' room sure many tells =
    ap (λ (l : List NodeStretch). record { cells = cells_of_runs text (tree_runs m root); came = came_of (tree_runs m root); runs = length (tree_runs m root); height = level_of m root + 1; room = room; stretches = l; sure = sure })
    (stretches_same m m sums sums' (length m.heads) (λ id. refl) (λ id lt. tells id (omega (arith, lt, many))))

-- there are summaries for as many nodes
pub room_sums : (heads had nodes many : ℕ) → heads + had ≤ many → nodes ≤ many → heads + max had (nodes - heads) ≤ many
room_sums heads had nodes many was enough =
    let asked = nodes - heads in
    split (nat_lt had asked)
    (λ less. let e : max had asked ≡ asked = max-eq_right (let l = ltb-true _ _ less in omega (arith, l)) in omega (arith, e, was, enough))
    (λ more. let e : max had asked ≡ had = max_comm had asked ∙ max-eq_right (ltb-false _ _ more) in omega (arith, e, was))

pub room_nodes : (m : Memory) (root runs cells cuts asked : ℕ) (m' : Memory) → m' ≡ with_room m (max m.room asked) → runs ≡ length (tree_runs m root) → asked ≡ (runs + cells + cuts) / 7 + 1 - length m.heads → HasNodes m' (length (tree_runs m' root) + cells + cuts)
room_nodes m root runs cells cuts asked m' is counted wants =
    let enough = nodes_enough (runs + cells + cuts) (length m.heads) m.room in
    let got : m'.room ≡ max m.room ((runs + cells + cuts) / 7 + 1 - length m.heads) = ap (λ (x : Memory). x.room) is ∙ ap (max m.room) wants in
    let heads = ap (λ (x : Memory). length x.heads) is in
    let same = ap length (ap (λ (x : Memory). tree_runs x root) is ∙ runs_room m (max m.room asked) root) in
    omega (arith, enough, got, heads, same, counted)
