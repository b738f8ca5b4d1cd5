-- Counts that no cell has.
use Rattle.std.proofs.Common.{◌≡◌, ℕ, ◌+◌, ◌<◌, ◌≤◌, Bool, false, List, [], ◌∷◌, ◌++◌, length, map, take, drop, refl, sym, arith, subst}
use Rattle.std.specs.List.{AllByRecursion, list_any}
use Rattle.std.proofs.lemmas.Bool.Decides.{nat_tests}
use Rattle.std.proofs.lemmas.List.{take-append-drop}
use Rattle.std.proofs.Math.Seq.{take-add}
use Rattle.rt_store.proofs.Distinct.{split}
use Rattle.rt_store.specs.declared.cell.Cell.{Cell}
use Rattle.rt_store.specs.Cells.{cells_from, is_in_span, put_at}
use Rattle.rt_stamps.specs.declared.stamp.Span.{Span}
use Rattle.rt_tree.specs.declared.update.CellUpdate.{CellUpdate}
use Rattle.rt_tree.specs.declared.update.CellUpdate.TheVariants.{Gone, State}
use Rattle.rt_tree.specs.declared.node.Run.{Run}
use Rattle.rt_tree.specs.Runs.{IsRun, cells_of_runs, run_characters, run_cells, with_gone}
use Rattle.rt_tree.specs.Sharing.{AreKnown, NoneIsNewer, cell_updated_in, is_shared_by}
use Rattle.rt_tree.specs.Stretches.{updated_cell}
use Rattle.rt_tree.proofs.CellLaws.{characters_length}
use Rattle.rt_tree.proofs.Shared.{none_shared}

pub upto_more : (n m : ℕ) (cs : List (Cell ℕ)) → n ≤ m → NoneIsNewer n cs → NoneIsNewer m cs
upto_more n m [] le all = tt
upto_more n m (c ∷ cs) le all = (let h = all.0 in omega (arith, h, le), upto_more n m cs le all.1)

pub upto_both : (n : ℕ) (a b : List (Cell ℕ)) → NoneIsNewer n a → NoneIsNewer n b → NoneIsNewer n (a ++ b)
upto_both n [] b left right = right
upto_both n (c ∷ a) b left right = (left.0, upto_both n a b left.1 right)

pub upto_left : (n : ℕ) (a b : List (Cell ℕ)) → NoneIsNewer n (a ++ b) → NoneIsNewer n a
upto_left n [] b all = tt
upto_left n (c ∷ a) b all = (all.0, upto_left n a b all.1)

pub upto_right : (n : ℕ) (a b : List (Cell ℕ)) → NoneIsNewer n (a ++ b) → NoneIsNewer n b
upto_right n [] b all = all
upto_right n (c ∷ a) b all = upto_right n a b all.1

pub upto_take : (n k : ℕ) (cs : List (Cell ℕ)) → NoneIsNewer n cs → NoneIsNewer n (take k cs)
upto_take n k cs all = upto_left n (take k cs) (drop k cs) (subst (NoneIsNewer n) (sym (take-append-drop k cs)) all)

pub upto_drop : (n k : ℕ) (cs : List (Cell ℕ)) → NoneIsNewer n cs → NoneIsNewer n (drop k cs)
upto_drop n k cs all = upto_right n (take k cs) (drop k cs) (subst (NoneIsNewer n) (sym (take-append-drop k cs)) all)

pub upto_put : (n at : ℕ) (new cs : List (Cell ℕ)) → NoneIsNewer n cs → NoneIsNewer n new → NoneIsNewer n (put_at at new cs)
upto_put n at new cs old more = upto_both n (take at cs) (new ++ drop at cs) (upto_take n at cs old) (upto_both n new (drop at cs) more (upto_drop n at cs old))

pub upto_was : (n at : ℕ) (new cs : List (Cell ℕ)) → NoneIsNewer n (put_at at new cs) → NoneIsNewer n cs
upto_was n at new cs all =
    let rest = upto_right n (take at cs) (new ++ drop at cs) all in
    subst (NoneIsNewer n) (take-append-drop at cs) (upto_both n (take at cs) (drop at cs) (upto_left n (take at cs) (new ++ drop at cs) all) (upto_right n new (drop at cs) rest))

pub upto_new : (n at : ℕ) (new cs : List (Cell ℕ)) → NoneIsNewer n (put_at at new cs) → NoneIsNewer n new
upto_new n at new cs all = upto_left n new (drop at cs) (upto_right n (take at cs) (new ++ drop at cs) all)

-- cells put in behind others that were put in
pub upto_next : (n m at done len : ℕ) (cells cs now new : List (Cell ℕ)) → n ≤ m → now ≡ put_at at (take done cells) cs → new ≡ put_at at (take (done + len) cells) cs → NoneIsNewer n now → NoneIsNewer m (take len (drop done cells)) → NoneIsNewer m new
upto_next n m at done len cells cs now new le was is known more =
    let before = subst (NoneIsNewer n) was known in
    let front = upto_more n m (take done cells) le (upto_new n at (take done cells) cs before) in
    let old = upto_more n m cs le (upto_was n at (take done cells) cs before) in
    let both = subst (NoneIsNewer m) (sym (take-add done len cells)) (upto_both m (take done cells) (take len (drop done cells)) front more) in
    subst (NoneIsNewer m) (sym is) (upto_put m at (take (done + len) cells) cs old both)

-- a update keeps counts
same_count : (update : CellUpdate) (c : Cell ℕ) → (updated_cell update c).stamp.count ≡ c.stamp.count
same_count Gone c = refl
same_count (State state) c = refl

pub upto_updated : (n : ℕ) (span : Span) (update : CellUpdate) (cs : List (Cell ℕ)) → NoneIsNewer n cs → NoneIsNewer n (map (cell_updated_in span update) cs)
upto_updated n span update [] all = tt
upto_updated n span update (c ∷ cs) all =
    (split (is_in_span span c.stamp) (λ e. rw e (let s = same_count update c in let h = all.0 in omega (arith, s, h))) (λ e. rw e all.0), upto_updated n span update cs all.1)

kept_count : (span : Span) (update : CellUpdate) (c : Cell ℕ) → (cell_updated_in span update c).stamp.count ≡ c.stamp.count
kept_count span update c = split (is_in_span span c.stamp) (λ e. rw e (same_count update c)) (λ e. rw e refl)

pub upto_not_updated : (n : ℕ) (span : Span) (update : CellUpdate) (cs : List (Cell ℕ)) → NoneIsNewer n (map (cell_updated_in span update) cs) → NoneIsNewer n cs
upto_not_updated n span update [] all = tt
upto_not_updated n span update (c ∷ cs) all =
    (let k = kept_count span update c in let h = all.0 in omega (arith, k, h), upto_not_updated n span update cs all.1)

-- RUNS WITH COUNTS THAT NO CELL HAS

pub row_upto : (n : ℕ) (gone : Bool) (count site state : ℕ) (text : List ℕ) → 0 < length text → NoneIsNewer n (map (with_gone gone) (cells_from count site state text)) → count + length text ≤ n + 1
row_upto n gone count site state [] some all = absurd (omega (arith, some))
row_upto n gone count site state (c ∷ []) some all = let h = all.0 in omega (arith, h)
row_upto n gone count site state (c ∷ d ∷ text) some all = let h = row_upto n gone (count + 1) site state (d ∷ text) (omega arith) all.1 in omega (arith, h)

apart_new : (n : ℕ) (run r : Run) → n < run.first → r.first + r.len ≤ n + 1 → is_shared_by run r ≡ false
apart_new n run r new low = split (is_shared_by run r) (λ e. absurd (grind (arith, nat_tests))) (λ e. e)

each_apart : (n : ℕ) (text : List ℕ) (run : Run) (rs : List Run) → n < run.first → AllByRecursion (IsRun text) rs → NoneIsNewer n (cells_of_runs text rs) → AllByRecursion (λ (r : Run). is_shared_by run r ≡ false) rs
each_apart n text run [] new kept known = tt
each_apart n text run (r ∷ rs) new kept known =
    let long = characters_length text r kept.0 in
    let some = kept.0.some in
    let low = row_upto n r.gone r.first r.site r.state (run_characters text r) (omega (arith, long, some)) (upto_left n (run_cells text r) (cells_of_runs text rs) known) in
    (apart_new n run r new (omega (arith, low, long)), each_apart n text run rs new kept.1 (upto_right n (run_cells text r) (cells_of_runs text rs) known))

pub new_shares_none : (n : ℕ) (run : Run) (rs : List Run) → n < run.first → AreKnown n rs → list_any (is_shared_by run) rs ≡ false
new_shares_none n run rs new known = none_shared run rs (each_apart n known.text run rs new known.kept known.upto)
