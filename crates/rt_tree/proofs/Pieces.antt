-- Runs cut, updated and put in, and their cells.
use Rattle.std.proofs.Common.{◌≡◌, ℕ, ◌+◌, ◌-◌, ◌<◌, ◌≤◌, Bool, true, false, List, [], ◌∷◌, ◌++◌, length, take, drop, map, refl, sym, ap, ◌∙◌, arith, append_assoc, length-append}
use Rattle.std.specs.List.{AllByRecursion}
use Rattle.std.proofs.lemmas.List.{drop-append-le, drop-drop, length-drop, map-append, take-append-le, take-take}
use Rattle.std.proofs.lemmas.List.Concat.{flat_map-append}
use Rattle.std.proofs.Math.Seq.{take-add}
use Rattle.rt_stamps.specs.Places.{newlines}
use Rattle.rt_store.specs.Cells.{cells_from}
use Rattle.rt_tree.specs.declared.update.CellUpdate.{CellUpdate}
use Rattle.rt_tree.specs.declared.update.CellUpdate.TheVariants.{Gone, State}
use Rattle.rt_tree.specs.declared.node.Run.{Run}
use Rattle.rt_tree.specs.Runs.{IsRun, cells_of_runs, run_characters, run_cells, with_gone}
use Rattle.rt_tree.specs.Sharing.{IsRecut}
use Rattle.rt_tree.specs.Stretches.{back_of, front_of, updated_cell, updated_run}
use Rattle.rt_tree.proofs.Apart.{apart_cut, begins_cut}
use Rattle.rt_tree.proofs.CellLaws.{characters_length}
use Rattle.rt_tree.proofs.Edges.{edge_cut}
use Rattle.rt_tree.proofs.Texts.{newlines-append, newlines-take}

-- CUTS

from-append : (count site state : ℕ) (a b : List ℕ) (next : ℕ) → count + length a ≡ next → cells_from count site state (a ++ b) ≡ cells_from count site state a ++ cells_from next site state b
from-append count site state [] b next e = let h : count ≡ next = omega (arith, e) in ap (λ n. cells_from n site state b) h
from-append count site state (c ∷ a) b next e = ap (λ l. record { stamp = record { count = count; site = site }; ch = c; gone = false; state = state } ∷ l) (from-append (count + 1) site state a b next (omega (arith, e)))

module _ (text : List ℕ) (r : Run) (k : ℕ) (is : IsRun text r) (some : 0 < k) (lt : k < r.len) where
  abbrev here : List ℕ
  here = drop r.at text

  abbrev there : List ℕ
  there = drop (r.at + k) text

  behind : drop k here ≡ there
  behind = drop-drop k r.at text

  -- the first characters of a run, and the others
  parts : (n : ℕ) → k ≤ n → take n here ≡ take k here ++ take (n - k) there
  parts n le =
      let e : n ≡ k + (n - k) = omega (arith, le) in
      ap (λ i. take i here) e ∙ take-add k (n - k) here ∙ ap (λ l. take k here ++ take (n - k) l) behind

  few : newlines (take (r.len - 1) here) ≡ 0
  few = ap newlines (sym (take-take (r.len - 1) r.len here (omega arith))) ∙ is.plain

  front_few : newlines (take k here) ≡ 0
  front_few = let h = newlines-take k (r.len - 1) here (omega (arith, lt)) in omega (arith, h, few)

  pub front_run : IsRun text (front_of k r)
  front_run = record {
    some = some;
    stands = omega (arith, is.stands, lt);
    counts = omega (arith, is.counts, lt);
    plain = ap newlines (take-take (k - 1) k here (omega arith)) ∙ (let h = newlines-take (k - 1) k here (omega arith) in omega (arith, h, front_few));
    ends = front_few;
  }

  back_few : newlines (take (r.len - k - 1) there) ≡ 0
  back_few =
      let e : r.len - 1 - k ≡ r.len - k - 1 = omega arith in
      let a = ap newlines (parts (r.len - 1) (omega (arith, lt))) ∙ newlines-append (take k here) (take (r.len - 1 - k) there) in
      let b = ap (λ i. newlines (take i there)) e in
      omega (arith, a, b, few)

  pub back_run : IsRun text (back_of k r)
  back_run = record {
    some = omega (arith, lt);
    stands = omega (arith, is.stands, lt);
    counts = omega (arith, is.counts, lt);
    plain = ap newlines (take-take (r.len - k - 1) (r.len - k) there (omega arith)) ∙ back_few;
    ends =
        (let a = ap newlines (parts r.len (omega (arith, lt))) ∙ newlines-append (take k here) (take (r.len - k) there) in
        let b : newlines (take (r.len - k) there) ≡ newlines (take r.len here) = omega (arith, a, front_few) in
        b ∙ is.ends);
  }

  pub run_parts : run_cells text r ≡ run_cells text (front_of k r) ++ run_cells text (back_of k r)
  run_parts =
      let long = characters_length text (front_of k r) front_run in
      ap (λ l. map (with_gone r.gone) (cells_from r.first r.site r.state l)) (parts r.len (omega (arith, lt)))
      ∙ ap (map (with_gone r.gone)) (from-append r.first r.site r.state (take k here) (take (r.len - k) there) (r.first + k) (ap (λ n. r.first + n) long))
      ∙ map-append (with_gone r.gone) (cells_from r.first r.site r.state (take k here)) (cells_from (r.first + k) r.site r.state (take (r.len - k) there))

module _ (r : Run) (k : ℕ) (b : List Run) (some : 0 < k) (lt : k < r.len) where
  kept_cut : (text : List ℕ) (a : List Run) → AllByRecursion (IsRun text) (a ++ r ∷ b) → AllByRecursion (IsRun text) (a ++ front_of k r ∷ back_of k r ∷ b)
  kept_cut text [] all = (front_run text r k all.0 some lt, (back_run text r k all.0 some lt, all.1))
  kept_cut text (x ∷ a) all = (all.0, kept_cut text a all.1)

  cells_cut : (text : List ℕ) (a : List Run) → AllByRecursion (IsRun text) (a ++ r ∷ b) → cells_of_runs text (a ++ front_of k r ∷ back_of k r ∷ b) ≡ cells_of_runs text (a ++ r ∷ b)
  cells_cut text [] all =
      sym (ap (λ l. l ++ cells_of_runs text b) (run_parts text r k all.0 some lt) ∙ append_assoc (run_cells text (front_of k r)) (run_cells text (back_of k r)) (cells_of_runs text b))
  cells_cut text (x ∷ a) all = ap (λ l. run_cells text x ++ l) (cells_cut text a all.1)

  pub recut : (a : List Run) → IsRecut (a ++ r ∷ b) (a ++ front_of k r ∷ back_of k r ∷ b)
  recut a = record {
    kept = λ text. kept_cut text a;
    cells = λ text. cells_cut text a;
    edges = λ at. edge_cut a r (front_of k r) (back_of k r) b at (omega (arith, lt));
    apart = apart_cut r k b some lt a;
    begins = begins_cut r k b some lt a;
  }

-- MARKS

from-gone : (gone : Bool) (count site state : ℕ) (cs : List ℕ) → map (with_gone true) (cells_from count site state cs) ≡ map (with_gone true) (map (with_gone gone) (cells_from count site state cs))
from-gone gone count site state [] = refl
from-gone gone count site state (c ∷ cs) = ap (λ l. record { stamp = record { count = count; site = site }; ch = c; gone = true; state = state } ∷ l) (from-gone gone (count + 1) site state cs)

from-state : (gone : Bool) (count site old new : ℕ) (cs : List ℕ) → map (with_gone gone) (cells_from count site new cs) ≡ map (updated_cell (State new)) (map (with_gone gone) (cells_from count site old cs))
from-state gone count site old new [] = refl
from-state gone count site old new (c ∷ cs) = ap (λ l. record { stamp = record { count = count; site = site }; ch = c; gone = gone; state = new } ∷ l) (from-state gone (count + 1) site old new cs)

pub updated_cells : (text : List ℕ) (update : CellUpdate) (r : Run) → run_cells text (updated_run update r) ≡ map (updated_cell update) (run_cells text r)
updated_cells text Gone r = from-gone r.gone r.first r.site r.state (run_characters text r)
updated_cells text (State state) r = from-state r.gone r.first r.site r.state state (run_characters text r)

pub run_updated : (text : List ℕ) (update : CellUpdate) (r : Run) → IsRun text r → IsRun text (updated_run update r)
run_updated text Gone r is = record { some = is.some; stands = is.stands; counts = is.counts; plain = is.plain; ends = is.ends }
run_updated text (State state) r is = record { some = is.some; stands = is.stands; counts = is.counts; plain = is.plain; ends = is.ends }

pub updated_length : (update : CellUpdate) (r : Run) → (updated_run update r).len ≡ r.len
updated_length Gone r = refl
updated_length (State state) r = refl

-- OTHER RUNS IN PLACE OF ONE

pub kept_set : (text : List ℕ) (a : List Run) (x y : Run) (b : List Run) → (IsRun text x → IsRun text y) → AllByRecursion (IsRun text) (a ++ x ∷ b) → AllByRecursion (IsRun text) (a ++ y ∷ b)
kept_set text [] x y b f all = (f all.0, all.1)
kept_set text (z ∷ a) x y b f all = (all.0, kept_set text a x y b f all.1)

pub kept_more : (text : List ℕ) (a : List Run) (x : Run) (b : List Run) → IsRun text x → AllByRecursion (IsRun text) (a ++ b) → AllByRecursion (IsRun text) (a ++ x ∷ b)
kept_more text [] x b is all = (is, all)
kept_more text (z ∷ a) x b is all = (all.0, kept_more text a x b is all.1)

pub cells_mid : (text : List ℕ) (a : List Run) (x : Run) (b : List Run) → cells_of_runs text (a ++ x ∷ b) ≡ cells_of_runs text a ++ (run_cells text x ++ cells_of_runs text b)
cells_mid text a x b = flat_map-append (run_cells text) a (x ∷ b)

-- A LONGER TEXT

grown_characters : (text more : List ℕ) (r : Run) → r.at + r.len ≤ length text → run_characters (text ++ more) r ≡ run_characters text r
grown_characters text more r le =
    let l = length-drop r.at text in
    ap (take r.len) (drop-append-le r.at text more (omega (arith, le))) ∙ take-append-le r.len (drop r.at text) more (omega (arith, l, le))

grown_run : (text more : List ℕ) (r : Run) → IsRun text r → IsRun (text ++ more) r
grown_run text more r is =
    let e = grown_characters text more r is.stands in
    let l = length-append text more in
    record {
      some = is.some;
      stands = omega (arith, is.stands, l);
      counts = is.counts;
      plain = ap (λ cs. newlines (take (r.len - 1) cs)) e ∙ is.plain;
      ends = ap newlines e ∙ is.ends;
    }

pub grown_kept : (text more : List ℕ) (rs : List Run) → AllByRecursion (IsRun text) rs → AllByRecursion (IsRun (text ++ more)) rs
grown_kept text more [] all = tt
grown_kept text more (r ∷ rs) all = (grown_run text more r all.0, grown_kept text more rs all.1)

pub grown_cells : (text more : List ℕ) (rs : List Run) → AllByRecursion (IsRun text) rs → cells_of_runs (text ++ more) rs ≡ cells_of_runs text rs
grown_cells text more [] all = refl
grown_cells text more (r ∷ rs) all =
    ap (λ cs. map (with_gone r.gone) (cells_from r.first r.site r.state cs) ++ cells_of_runs (text ++ more) rs) (grown_characters text more r all.0.stands)
    ∙ ap (λ l. run_cells text r ++ l) (grown_cells text more rs all.1)
