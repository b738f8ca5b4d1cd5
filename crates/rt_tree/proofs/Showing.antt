-- What is shown of nodes' summaries.
use Rattle.std.proofs.Common.{◌≡◌, Bool, true, false, true≢false, if◌then◌else◌, nat_lt, ℕ, zero, suc, ◌+◌, ◌<◌, ◌≤◌, List, [], ◌∷◌, ◌++◌, length, map, refl, sym, ap, ◌∙◌, arith, subst, inl, inr}
use Rattle.std.specs.List.{AllByRecursion, Contains}
use Rattle.std.proofs.lemmas.Bool.{cases_eq, ltb-false, ltb-true}
use Rattle.std.proofs.lemmas.List.Elements.{All-contains, All-contains_itself, All-from_recursion, All-map, recursion_from_All}
use Rattle.rt_store.specs.declared.cell.Cell.{Cell}
use Rattle.rt_store.specs.Cells.{Room, cells_from, final_cell}
use Rattle.rt_store.specs.Tagged.{AreStates}
use Rattle.rt_store.proofs.GivenStates.{kept_states}
use Rattle.rt_tags.specs.Borders.{borders, is_tagged}
use Rattle.rt_tags.specs.States.{IsState, KeepsIds, TagStates}
use Rattle.rt_tags.specs.Toggles.{count_of}
use Rattle.rt_tags.proofs.Places.{split}
use Rattle.rt_tags.proofs.Retelling.{retold}
use Rattle.rt_nodes.specs.declared.memory.NodeId.{NodeId}
use Rattle.rt_tree.specs.declared.node.Entry.TheVariants.{Here}
use Rattle.rt_tree.specs.declared.node.Run.{Run}
use Rattle.rt_tree.specs.declared.summary.Summary.{Summary}
use Rattle.rt_tree.specs.declared.summed.Summaries.{Summaries}
use Rattle.rt_tree.specs.Runs.{IsRun, cells_of_runs, run_characters, run_cells, with_gone}
use Rattle.rt_tree.specs.Shape.{IsTree, Memory, level_of, runs, tree_runs}
use Rattle.rt_tree.specs.Summaries.{AreSummed, AreTold, IsSummary, TellsAs, shown_states, summary_of, without_room}
use Rattle.rt_tree.specs.Trees.{AgreesWithTable, AreRight, HasOwn, HaveSummaries, IsTreeOfText, TreeValue, NodeStretch, final_run, tree_value, node_stretches}
use Rattle.rt_tree.proofs.CellLaws.{characters_length}
use Rattle.rt_tree.proofs.Exact.{each-all}
use Rattle.rt_tree.proofs.Parting.{node_all}
use Rattle.rt_tree.proofs.Passes.{each-append}
use Rattle.rt_tree.proofs.Told.{some_shown}
use Rattle.rt_tree.proofs.Telling.{still_summary}

-- STATES OF CELLS AND OF RUNS

module _ (P : ℕ → Type 0) where
  first_has : (r : Run) (chars : List ℕ) → 0 < length chars → AllByRecursion (λ (c : Cell ℕ). P c.state) (map (with_gone r.gone) (cells_from r.first r.site r.state chars)) → P r.state
  first_has r [] lt all = absurd (omega (arith, lt))
  first_has r (ch ∷ chars) lt all = all.0

  -- what holds of the states of cells holds of those of their runs
  pub runs_have : (text : List ℕ) (rs : List Run) → AllByRecursion (IsRun text) rs → AllByRecursion (λ (c : Cell ℕ). P c.state) (cells_of_runs text rs) → AllByRecursion (λ (r : Run). P r.state) rs
  runs_have text [] kept all = tt
  runs_have text (r ∷ rs) kept all =
      let both = each-append (λ (c : Cell ℕ). P c.state) (run_cells text r) (cells_of_runs text rs) all in
      let long = characters_length text r kept.0 in let some = kept.0.some in
      (first_has r (run_characters text r) (omega (arith, long, some)) both.0, runs_have text rs kept.1 both.1)

  each_joined : (a b : List (Cell ℕ)) → AllByRecursion (λ (c : Cell ℕ). P c.state) a → AllByRecursion (λ (c : Cell ℕ). P c.state) b → AllByRecursion (λ (c : Cell ℕ). P c.state) (a ++ b)
  each_joined [] b x y = y
  each_joined (c ∷ a) b x y = (x.0, each_joined a b x.1 y)

  row_has : (gone : Bool) (count site state : ℕ) (chars : List ℕ) → P state → AllByRecursion (λ (c : Cell ℕ). P c.state) (map (with_gone gone) (cells_from count site state chars))
  row_has gone count site state [] own = tt
  row_has gone count site state (ch ∷ chars) own = (own, row_has gone (count + 1) site state chars own)

  -- and the other way round
  pub cells_have : (text : List ℕ) (rs : List Run) → AllByRecursion (λ (r : Run). P r.state) rs → AllByRecursion (λ (c : Cell ℕ). P c.state) (cells_of_runs text rs)
  cells_have text [] all = tt
  cells_have text (r ∷ rs) all = each_joined (run_cells text r) (cells_of_runs text rs) (row_has r.gone r.first r.site r.state (run_characters text r) all.0) (cells_have text rs all.1)

pub runs_given : (table : TagStates) (text : List ℕ) (rs : List Run) → AllByRecursion (IsRun text) rs → AreStates table (cells_of_runs text rs) → AllByRecursion (λ (r : Run). IsState table r.state) rs
runs_given table text rs kept all = runs_have (IsState table) text rs kept (recursion_from_All (λ (c : Cell ℕ). IsState table c.state) (cells_of_runs text rs) all)

pub states_given : (table : TagStates) (text : List ℕ) (rs : List Run) → AllByRecursion (λ (r : Run). IsState table r.state) rs → AreStates table (cells_of_runs text rs)
states_given table text rs all = All-from_recursion (λ (c : Cell ℕ). IsState table c.state) (cells_of_runs text rs) (cells_have (IsState table) text rs all)

-- SUMMARIES AND STRETCHES

abbrev IsStretch : TagStates → NodeStretch → Type 0
IsStretch table x = IsSummary table x.states x.summary

abbrev AreEach : TagStates → List NodeStretch → Type 0
AreEach table xs = AllByRecursion (IsStretch table) xs

tells_less : (s : Summary) → TellsAs s (without_room s)
tells_less s = record { first = refl; last = refl; counts = refl }

tells_more : (s : Summary) → TellsAs (without_room s) s
tells_more s = record { first = refl; last = refl; counts = refl }

module _ (table : TagStates) (m : Memory) (sums : List Summary) where
  right_to : (n : ℕ) → n ≤ length m.heads → AreSummed table m sums → AreEach table (node_stretches m sums n)
  right_to zero le are = tt
  right_to (suc n) le are =
      (still_summary table _ (summary_of sums n) (without_room (summary_of sums n)) (tells_less (summary_of sums n)) (are n (omega (arith, le))), right_to n (omega (arith, le)) are)

  pub right_from : AreSummed table m sums → AreRight table (node_stretches m sums (length m.heads))
  right_from are = All-from_recursion (IsStretch table) (node_stretches m sums (length m.heads)) (right_to (length m.heads) (omega arith) are)

  summed_to : (n : ℕ) → AreEach table (node_stretches m sums n) → (id : ℕ) → id < n → IsSummary table (shown_states (runs m (level_of m id) id)) (summary_of sums id)
  summed_to zero right id lt = absurd (omega (arith, lt))
  summed_to (suc n) right id lt = elim (cases_eq id n) [
    | inl same ↦ subst (λ i. IsSummary table (shown_states (runs m (level_of m i) i)) (summary_of sums i)) (sym same)
        (still_summary table _ (without_room (summary_of sums n)) (summary_of sums n) (tells_more (summary_of sums n)) right.0)
    | inr ne ↦ summed_to n right.1 id (omega (arith, lt, ne))
  ]

  pub summed_from : AreRight table (node_stretches m sums (length m.heads)) → AreSummed table m sums
  summed_from right id is = summed_to (length m.heads) (recursion_from_All (IsStretch table) (node_stretches m sums (length m.heads)) right) id is

-- stretches are the same where nodes have the same runs and summaries tell the same
pub stretches_same : (m m' : Memory) (sums sums' : List Summary) (n : ℕ) → ((id : ℕ) → runs m' (level_of m' id) id ≡ runs m (level_of m id) id) → ((id : ℕ) → id < n → TellsAs (summary_of sums id) (summary_of sums' id)) → node_stretches m' sums' n ≡ node_stretches m sums n
stretches_same m m' sums sums' zero same tells = refl
stretches_same m m' sums sums' (suc n) same tells =
    let t = tells n (omega arith) in
    ap (λ rs. record { states = shown_states rs; summary = without_room (summary_of sums' n) } ∷ node_stretches m' sums' n) (same n)
    ∙ (λ i. record { states = shown_states (runs m (level_of m n) n); summary = record { first = t.first i; last = t.last i; counts = record { counts = t.counts i; capacity = 0 } } } ∷ stretches_same m m' sums sums' n same (λ id lt. tells id (omega (arith, lt))) i)

-- STATES OF STRETCHES

each_map : {X Y : Type 0} (P : Y → Type 0) (f : X → Y) (xs : List X) → AllByRecursion P (map f xs) → AllByRecursion (λ x. P (f x)) xs
each_map P f [] all = tt
each_map P f (x ∷ xs) all = (all.0, each_map P f xs all.1)

module _ (m : Memory) (root : ℕ) (text : List ℕ) (tree : IsTree m root) (kept : AllByRecursion (IsRun text) (tree_runs m root)) (sums : List Summary) (room : Room) where
  abbrev cells : List (Cell ℕ)
  cells = cells_of_runs text (tree_runs m root)

  abbrev There : ℕ → Type 0
  There state = Contains (map (λ (c : Cell ℕ). c.state) cells) state

  all_here : AllByRecursion There (shown_states (tree_runs m root))
  all_here =
      let states = map (λ (c : Cell ℕ). c.state) cells in
      some_shown There (tree_runs m root) (runs_have There text (tree_runs m root) kept (each_map There (λ (c : Cell ℕ). c.state) cells (recursion_from_All There states (All-contains_itself states))))

  own_to : (k : ℕ) → k ≤ length m.heads → AllByRecursion (λ (x : NodeStretch). AllByRecursion There x.states) (node_stretches m sums k)
  own_to zero le = tt
  own_to (suc k) le = (node_all m (level_of m root) root tree.shape k (omega (arith, le)) There all_here, own_to k (omega (arith, le)))

  pub own_states : HasOwn (tree_value m root text sums room true)
  own_states = own_to (length m.heads) (omega arith)

-- WHAT FOLLOWS OF WHAT IS SHOWN

-- what holds of all states of cells holds of those of stretches
pub own_have : (P : ℕ → Type 0) (s : TreeValue) → HasOwn s → AllByRecursion (λ (c : Cell ℕ). P c.state) s.cells → AllByRecursion (λ (x : NodeStretch). AllByRecursion P x.states) s.stretches
own_have P s own all =
    let states = map (λ (c : Cell ℕ). c.state) s.cells in
    let each = All-map P (λ (c : Cell ℕ). c.state) s.cells (All-from_recursion (λ (c : Cell ℕ). P c.state) s.cells all) in
    each-all (λ (x : NodeStretch). AllByRecursion (Contains states) x.states) (λ (x : NodeStretch). AllByRecursion P x.states)
    (λ x h. each-all (Contains states) P (λ state there. All-contains P states state each there) x.states h) s.stretches own

same_border : (a b : Bool) → a ≡ b → ◌≡◌ {A = ℕ} (if a then (if b then 0 else 1) else (if b then 1 else 0)) 0
same_border true true e = refl
same_border false false e = refl
same_border true false e = absurd (true≢false e)
same_border false true e = absurd (true≢false (sym e))

no_borders : (test : ℕ → Bool) (xs : List ℕ) → AllByRecursion (λ x. x ≡ 0) xs → borders test xs ≡ 0
no_borders test [] all = refl
no_borders test (x ∷ []) all = refl
no_borders test (x ∷ y ∷ xs) all =
    let rest = no_borders test (y ∷ xs) all.1 in
    let none : 0 + borders test (y ∷ xs) ≡ 0 = omega (arith, rest) in
    ap (λ n. n + borders test (y ∷ xs)) (same_border (test x) (test y) (ap test (all.0 ∙ sym all.1.0))) ∙ none

-- of characters in one state no tag has borders, whatever the table
fresh_summary : (old table : TagStates) (states : List ℕ) (s : Summary) → AllByRecursion (λ x. x ≡ 0) states → IsSummary old states s → IsSummary table states s
fresh_summary old table states s all is =
    let none : (tag : ℕ) → count_of tag s.counts ≡ 0 = λ tag. split (nat_lt tag (length old.names))
    (λ less. is.counts.given tag (ltb-true _ _ less) ∙ no_borders (is_tagged old tag) states all)
    (λ more. is.counts.others tag (ltb-false _ _ more)) in
    record { first = is.first; last = is.last; counts = record { given = λ tag h. none tag ∙ sym (no_borders (is_tagged table tag) states all); others = λ tag far. none tag } }

fresh_each : (old table : TagStates) (xs : List NodeStretch) → AllByRecursion (λ (x : NodeStretch). AllByRecursion (λ y. y ≡ 0) x.states) xs → AreEach old xs → AreEach table xs
fresh_each old table [] all right = tt
fresh_each old table (x ∷ xs) all right = (fresh_summary old table x.states x.summary all.0 right.0, fresh_each old table xs all.1 right.1)

pub fresh_right : (old table : TagStates) (s : TreeValue) → HasOwn s → AreRight old s.stretches → s.cells ≡ final_cell ∷ [] → AreRight table s.stretches
fresh_right old table s own right is =
    All-from_recursion (IsStretch table) s.stretches (fresh_each old table s.stretches (own_have (λ x. x ≡ 0) s own (subst (AllByRecursion (λ (c : Cell ℕ). c.state ≡ 0)) (sym is) (refl, tt))) (recursion_from_All (IsStretch old) s.stretches right))

-- a later table has no other summaries
later_each : (old new : TagStates) → KeepsIds old new → (xs : List NodeStretch) → AllByRecursion (λ (x : NodeStretch). AllByRecursion (IsState old) x.states) xs → AreEach old xs → AreEach new xs
later_each old new keeps [] all right = tt
later_each old new keeps (x ∷ xs) all right = (record { first = right.0.first; last = right.0.last; counts = retold old new x.states x.summary.counts keeps all.0 right.0.counts }, later_each old new keeps xs all.1 right.1)

pub later_right : (old new : TagStates) (s : TreeValue) → KeepsIds old new → HasOwn s → AreStates old s.cells → AreRight old s.stretches → AreRight new s.stretches
later_right old new s keeps own given right =
    All-from_recursion (IsStretch new) s.stretches (later_each old new keeps s.stretches (own_have (IsState old) s own (recursion_from_All (λ (c : Cell ℕ). IsState old c.state) s.cells given)) (recursion_from_All (IsStretch old) s.stretches right))

pub later_agrees : (old new : TagStates) (s : TreeValue) → KeepsIds old new → HasOwn s → AgreesWithTable old s → AgreesWithTable new s
later_agrees old new s keeps own agrees = record { given = kept_states old new s.cells keeps agrees.given; right = later_right old new s keeps own agrees.given agrees.right }

pub fresh_agrees : (old table : TagStates) (s : TreeValue) → HasOwn s → AreRight old s.stretches → s.cells ≡ final_cell ∷ [] → AreStates table (final_cell ∷ []) → AgreesWithTable table s
fresh_agrees old table s own right is given = record { given = subst (AreStates table) (sym is) given; right = fresh_right old table s own right is }

-- OF A TREE THAT IS SHOWN

pub kept_summed : (m : Memory) (root : ℕ) (text : List ℕ) (sums : List Summary) (table : TagStates) (room : Room) {sure : Bool} (now : TreeValue) → tree_value m root text sums room sure ≡ now → AgreesWithTable table now → AreSummed table m sums
kept_summed m root text sums table room now is agrees = summed_from table m sums (subst (λ (v : TreeValue). AreRight table v.stretches) (sym is) agrees.right)

pub kept_given : (m : Memory) (root : ℕ) (text : List ℕ) (n : ℕ) → IsTreeOfText m root text n → (sums : List Summary) (table : TagStates) (room : Room) {sure : Bool} (now : TreeValue) → tree_value m root text sums room sure ≡ now → AgreesWithTable table now → AllByRecursion (λ (r : Run). IsState table r.state) (tree_runs m root)
kept_given m root text n kept sums table room now is agrees = runs_given table text (tree_runs m root) kept.kept (subst (λ (v : TreeValue). AreStates table v.cells) (sym is) agrees.given)

pub kept_told : (m : Memory) (root : ℕ) (text : List ℕ) (n : ℕ) → IsTreeOfText m root text n → (sums : Summaries) (tags : ℕ) → HaveSummaries m sums tags → (table : TagStates) → length table.names ≤ tags → (room : Room) {sure : Bool} (now : TreeValue) → tree_value m root text sums.each.items room sure ≡ now → AgreesWithTable table now → AreTold table m sums (tree_runs m root)
kept_told m root text n kept sums tags have table few room now is agrees = record {
  each = kept_summed m root text sums.each.items table room now is agrees;
  many = have.many;
  memory = have.memory;
  tags = let h = have.tags in omega (arith, h, few);
  given = kept_given m root text n kept sums.each.items table room now is agrees;
}

-- trees that differ in their room alone
pub record SameTree (s t : TreeValue) : Type 0 where
  pub cells : t.cells ≡ s.cells
  pub stretches : t.stretches ≡ s.stretches

pub same_tree : (table : TagStates) (s t : TreeValue) → SameTree s t → AgreesWithTable table s → AgreesWithTable table t
same_tree table s t same agrees = record { given = subst (AreStates table) (sym same.cells) agrees.given; right = subst (AreRight table) (sym same.stretches) agrees.right }

pub same_back : (table : TagStates) (s t : TreeValue) → SameTree s t → AgreesWithTable table t → AgreesWithTable table s
same_back table s t same agrees = record { given = subst (AreStates table) same.cells agrees.given; right = subst (AreRight table) same.stretches agrees.right }

-- A TREE OF THE FINAL NEWLINE ALONE

first_summed : (table : TagStates) (parent : NodeId) (n : ℕ) (sums : List Summary) → IsSummary table (0 ∷ []) (summary_of sums 0) → AreSummed table (record { heads = record { parent = parent; level = 0 } ∷ []; rows = (Here final_run ∷ []) ∷ []; room = n }) sums
first_summed table parent n sums is zero lt = is
first_summed table parent n sums is (suc id) lt = absurd (omega (arith, lt))

pub first_right : (table : TagStates) (m : Memory) (parent : NodeId) (n : ℕ) (sums : List Summary) → m ≡ record { heads = record { parent = parent; level = 0 } ∷ []; rows = (Here final_run ∷ []) ∷ []; room = n } → IsSummary table (0 ∷ []) (summary_of sums 0) → AreRight table (node_stretches m sums (length m.heads))
first_right table m parent n sums same is =
    let first : Memory = record { heads = record { parent = parent; level = 0 } ∷ []; rows = (Here final_run ∷ []) ∷ []; room = n } in
    subst (λ (x : Memory). AreRight table (node_stretches x sums (length x.heads))) (sym same) (right_from table first sums (first_summed table parent n sums is))
