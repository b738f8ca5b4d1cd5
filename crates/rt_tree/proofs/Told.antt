-- Summaries that are right, with what changes of runs ask of them.
use Rattle.std.proofs.Common.{◌≡◌, ℕ, ◌+◌, ◌<◌, ◌≤◌, ◌^◌, Bool, true, false, if◌then◌else◌, List, [], ◌∷◌, ◌++◌, length, length-append, map, insert, take, drop, take-append-drop, sym, ap, arith, subst}
use Rattle.std.specs.List.{AllByRecursion}
use Rattle.std.proofs.lemmas.List.Elements.{All-take}
use Rattle.rt_stamps.specs.declared.limits.TheConstants.{MOST_CELLS}
use Rattle.rt_store.specs.declared.cell.Cell.{Cell}
use Rattle.rt_store.specs.Cells.{cells_from, final_cell}
use Rattle.rt_store.specs.Tagged.{AreStates}
use Rattle.rt_tags.specs.States.{IsState, TagStates}
use Rattle.rt_tree.specs.declared.update.CellUpdate.{CellUpdate}
use Rattle.rt_tree.specs.declared.update.CellUpdate.TheVariants.{Gone, State}
use Rattle.rt_tree.specs.declared.node.Run.{Run}
use Rattle.rt_tree.specs.Additions.{IsFrontOf}
use Rattle.rt_tree.specs.Runs.{IsRun, run_characters, run_cells, with_gone}
use Rattle.rt_tree.specs.Stretches.{AreRunsOfText, IsGiven, updated_run}
use Rattle.rt_tree.specs.declared.summed.Summaries.{Summaries}
use Rattle.rt_tree.specs.Shape.{Memory}
use Rattle.rt_tree.specs.Summaries.{AreSummed, AreTold, HaveMemory, shown_states}
use Rattle.rt_tree.specs.Sums.{counts_of}
use Rattle.rt_tree.specs.Walks.{IsReplacedAt}
use Rattle.rt_tree.proofs.CellLaws.{characters_length}
use Rattle.rt_tree.proofs.Cutting.{runs_few}

-- the states of runs were given out
abbrev pub AreGiven : TagStates → List Run → Type 0
AreGiven table rs = AllByRecursion (λ r. IsState table r.state) rs

one_more : (P : ℕ → Type 0) (gone : Bool) (state : ℕ) (states : List ℕ) → P state → AllByRecursion P states → AllByRecursion P (if gone then states else state ∷ states)
one_more P true state states own all = all
one_more P false state states own all = (own, all)

longer : (gone : Bool) (state : ℕ) (states : List ℕ) (n : ℕ) → length states ≤ n → length (if gone then states else state ∷ states) ≤ n + 1
longer true state states n le = omega (arith, le)
longer false state states n le = omega (arith, le)

-- what holds of the states of all runs holds of those of visible ones
pub some_shown : (P : ℕ → Type 0) (rs : List Run) → AllByRecursion (λ (r : Run). P r.state) rs → AllByRecursion P (shown_states rs)
some_shown P [] all = tt
some_shown P (r ∷ rs) all = one_more P r.gone r.state (shown_states rs) all.0 (some_shown P rs all.1)

pub shown_given : (table : TagStates) (rs : List Run) → AreGiven table rs → AllByRecursion (IsState table) (shown_states rs)
shown_given table rs all = some_shown (IsState table) rs all

-- visible runs are no more than all
pub shown_few : (rs : List Run) → length (shown_states rs) ≤ length rs
shown_few [] = omega arith
shown_few (r ∷ rs) = let l = longer r.gone r.state (shown_states rs) (length rs) (shown_few rs) in omega (arith, l)

-- a text has few runs
pub short_kept : (rs : List Run) → AreRunsOfText rs → (counts_of rs).cells ≤ MOST_CELLS → length rs + 5 < 2 ^ 32
short_kept rs kept few = let n = runs_few kept.text rs kept.runs in omega (arith, n, few)

given_append : (table : TagStates) (a b : List Run) → AreGiven table a → AreGiven table b → AreGiven table (a ++ b)
given_append table [] b x y = y
given_append table (r ∷ a) b x y = (x.0, given_append table a b x.1 y)

pub given_parts : (table : TagStates) (a b : List Run) → AreGiven table (a ++ b) → AreGiven table a × AreGiven table b
given_parts table [] b all = (tt, all)
given_parts table (r ∷ a) b all = let both = given_parts table a b all.1 in ((all.0, both.0), both.1)

pub given_replaced : (table : TagStates) (old new : List Run) (at : ℕ) (run : Run) → IsState table run.state → IsReplacedAt old new at run → AreGiven table old → AreGiven table new
given_replaced table old new at run own rep all =
    let parts = given_parts table rep.was.left (rep.before ∷ rep.was.right) (subst (AreGiven table) rep.was.here all) in
    subst (AreGiven table) (sym rep.is) (given_append table rep.was.left (run ∷ rep.was.right) parts.0 (own, parts.1.1))

-- so has one that stands among others
pub given_there : (table : TagStates) (all left right : List Run) (run : Run) → all ≡ left ++ run ∷ right → AreGiven table all → IsState table run.state
given_there table all left right run here given = (given_parts table left (run ∷ right) (subst (AreGiven table) here given)).1.0

-- the same runs in other nodes, whose summaries are right
pub told_split : (m n : Memory) (table : TagStates) (s s' : Summaries) (old new : List Run) → new ≡ old → AreTold table m s old → AreSummed table n s'.each.items → length s'.each.items ≡ length s.each.items → HaveMemory s' → s'.tags ≡ s.tags → length n.heads + n.room ≡ length m.heads + m.room → AreTold table n s' new
told_split m n table s s' old new same told summed many memory tags room = record {
  each = summed;
  many = let a = told.many in omega (arith, a, many, room);
  memory = memory;
  tags = let a = told.tags in omega (arith, a, tags);
  given = subst (AreGiven table) (sym same) told.given;
}

-- a run put in among others
pub given_insert : (table : TagStates) (rs : List Run) (k : ℕ) (run : Run) → IsState table run.state → AreGiven table rs → AreGiven table (insert rs k run)
given_insert table rs k run own all =
    let parts = given_parts table (take k rs) (drop k rs) (subst (AreGiven table) (sym (take-append-drop k rs)) all) in
    given_append table (take k rs) (run ∷ drop k rs) parts.0 (own, parts.1)

pub insert_few : (rs : List Run) (k : ℕ) (run : Run) → length (insert rs k run) ≤ length rs + 1
insert_few rs k run =
    let a = length-append (take k rs) (run ∷ drop k rs) in
    let b = length-append (take k rs) (drop k rs) in
    let c = ap length (take-append-drop k rs) in
    omega (arith, a, b, c)

-- other runs in other nodes, whose summaries are right
pub told_next : (m n : Memory) (table : TagStates) (s s' : Summaries) (old new : List Run) → AreGiven table new → AreTold table m s old → AreSummed table n s'.each.items → length s'.each.items ≡ length s.each.items → HaveMemory s' → s'.tags ≡ s.tags → length n.heads + n.room ≡ length m.heads + m.room → AreTold table n s' new
told_next m n table s s' old new given told summed many memory tags room = record {
  each = summed;
  many = let a = told.many in omega (arith, a, many, room);
  memory = memory;
  tags = let a = told.tags in omega (arith, a, tags);
  given = given;
}

-- what a update makes of a run has a state that was given out
pub updated_given : (table : TagStates) (update : CellUpdate) (r : Run) → IsGiven table update → IsState table r.state → IsState table (updated_run update r).state
updated_given table Gone r given own = own
updated_given table (State state) r given own = given

-- the state of a run is that of its cells
first_given : (table : TagStates) (r : Run) (chars : List ℕ) → 0 < length chars → AreStates table (map (with_gone r.gone) (cells_from r.first r.site r.state chars)) → IsState table r.state
first_given table r [] lt all = absurd (omega (arith, lt))
first_given table r (ch ∷ chars) lt all = all 0 final_cell (omega arith)

pub cells_given : (table : TagStates) (text : List ℕ) (r : Run) → IsRun text r → AreStates table (run_cells text r) → IsState table r.state
cells_given table text r is all = let long = characters_length text r is in first_given table r (run_characters text r) (omega (arith, long, is.some)) all

pub front_given : (table : TagStates) (text : List ℕ) (cells : List (Cell ℕ)) (r : Run) → IsFrontOf text cells r → AreStates table cells → IsState table r.state
front_given table text cells r front all =
    let p : Cell ℕ → Type 0 = λ c. IsState table c.state in
    cells_given table text r front.run (subst (AreStates table) (sym front.same) (All-take p r.len cells all))
