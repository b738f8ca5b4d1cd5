-- Runs that share a stamp with others, and the cells that have it.
use Rattle.std.proofs.Common.{◌≡◌, ℕ, ◌+◌, ◌-◌, ◌<◌, ◌≤◌, Bool, true, false, List, [], ◌∷◌, ◌++◌, length, length-append, map, take, drop, refl, sym, ap, ◌∙◌, arith, if◌then◌else◌}
use Rattle.std.specs.Prelude.{◌==◌, ◌&&◌, filter, nat_le, nat_lt}
use Rattle.std.specs.List.{AllByRecursion, list_any}
use Rattle.std.proofs.lemmas.Bool.{and_parts, or_from, or_parts, both_ways}
use Rattle.std.proofs.lemmas.Bool.Decides.{nat_tests}
use Rattle.std.proofs.lemmas.List.{take-append-drop}
use Rattle.std.proofs.lemmas.List.Elements.{filter-append}
use Rattle.rt_stamps.proofs.Order.{same_from_true}
use Rattle.rt_stamps.specs.Stamps.{is_same}
use Rattle.rt_stamps.specs.declared.stamp.Stamp.{Stamp}
use Rattle.rt_store.proofs.Distinct.{first_apart, others_distinct, split}
use Rattle.rt_store.specs.declared.cell.Cell.{Cell}
use Rattle.rt_store.specs.Cells.{AreDistinct, cells_from, put_at, stamps_of}
use Rattle.rt_store.specs.Spans.{is_among}
use Rattle.rt_tree.specs.declared.node.Run.{Run}
use Rattle.rt_tree.specs.Additions.{IsFrontOf, are_joint, run_joined}
use Rattle.rt_tree.specs.Runs.{IsRun, cells_of_runs, run_characters, first_stamp, has_cell, run_cells, with_gone}
use Rattle.rt_tree.specs.Sharing.{AreApart, AreOnce, is_long_with, is_shared_by, long_with, occurrences}
use Rattle.rt_tree.specs.Walks.{IsPutAt}
use Rattle.rt_tree.proofs.Apart.{bit, long-cons, long-mid}
use Rattle.rt_tree.proofs.CellLaws.{characters_length}
use Rattle.rt_tree.proofs.Joining.{AreJoint, joint_true}

-- ONE RUN MORE

bit_low : (b : Bool) → bit b ≤ 1
bit_low true = omega arith
bit_low false = omega arith

bit_none : (b : Bool) → b ≡ false → bit b ≡ 0
bit_none b e = ap bit e

pub none_shared : (run : Run) (rs : List Run) → AllByRecursion (λ (r : Run). is_shared_by run r ≡ false) rs → list_any (is_shared_by run) rs ≡ false
none_shared run [] all = refl
none_shared run (r ∷ rs) all = or_from (is_shared_by run r) (list_any (is_shared_by run) rs) all.0 (none_shared run rs all.1)

pub one_shared : (run : Run) (a : List Run) (r : Run) (b : List Run) → is_shared_by run r ≡ true → list_any (is_shared_by run) (a ++ r ∷ b) ≡ true
one_shared run [] r b e = rw e refl
one_shared run (x ∷ a) r b e = let h = one_shared run a r b e in split (is_shared_by run x) (λ t. rw t refl) (λ f. rw f h)

-- a stamp of a run that shares none with runs of more than one cell is in none of them
not_long : (run r : Run) (stamp : Stamp) → is_shared_by run r ≡ false → has_cell run stamp ≡ true → is_long_with stamp r ≡ false
not_long run r stamp apart there = split (is_long_with stamp r) (λ l. absurd (grind (arith, nat_tests))) (λ n. n)

pub none_long : (run : Run) (stamp : Stamp) (rs : List Run) → list_any (is_shared_by run) rs ≡ false → has_cell run stamp ≡ true → long_with stamp rs ≡ 0
none_long run stamp [] apart there = refl
none_long run stamp (r ∷ rs) apart there =
    let p = or_parts (is_shared_by run r) (list_any (is_shared_by run) rs) apart in
    let c = long-cons stamp r rs in
    let b = bit_none (is_long_with stamp r) (not_long run r stamp p.0 there) in
    let h = none_long run stamp rs p.1 there in
    omega (arith, c, b, h)

not_with : (stamp : Stamp) (r : Run) → has_cell r stamp ≡ false → is_long_with stamp r ≡ false
not_with stamp r h = split (is_long_with stamp r) (λ l. absurd (grind (arith, nat_tests))) (λ n. n)

-- one more run that shares none
pub apart_more : (run : Run) (rs : List Run) → list_any (is_shared_by run) rs ≡ false → AreApart rs → AreApart (run ∷ rs)
apart_more run rs apart is stamp =
    let c = long-cons stamp run rs in
    let h = is stamp in
    split (has_cell run stamp)
    (λ t. let n = none_long run stamp rs apart t in let o = bit_low (is_long_with stamp run) in omega (arith, c, n, o))
    (λ f. let n = bit_none (is_long_with stamp run) (not_with stamp run f) in omega (arith, c, n, h))

-- one more run of one cell
pub apart_lone : (run : Run) (rs : List Run) → run.len ≤ 1 → AreApart rs → AreApart (run ∷ rs)
apart_lone run rs lone is stamp =
    let c = long-cons stamp run rs in
    let h = is stamp in
    let n : is_long_with stamp run ≡ false = split (is_long_with stamp run) (λ l. absurd (grind (arith, nat_tests))) (λ n. n) in
    let z = bit_none (is_long_with stamp run) n in
    omega (arith, c, z, h)

pub apart_chosen : (run : Run) (rs : List Run) → (nat_lt 1 run.len && list_any (is_shared_by run) rs) ≡ false → AreApart rs → AreApart (run ∷ rs)
apart_chosen run rs e is = split (nat_lt 1 run.len)
    (λ long. apart_more run rs (split (list_any (is_shared_by run) rs) (λ t. absurd (both_ways (nat_lt 1 run.len && list_any (is_shared_by run) rs) e (rw (long, t) refl))) (λ f. f)) is)
    (λ short. apart_lone run rs (let low : run.len ≤ 1 = grind (arith, nat_tests) in low) is)

pub apart_put : (old new : List Run) (at : ℕ) (run : Run) → IsPutAt old new at run → AreApart (run ∷ old) → AreApart new
apart_put old new at run put is stamp =
    let h = is stamp in
    let c = long-cons stamp run old in
    let o = ap (long_with stamp) put.was.here ∙ long-mid stamp put.was.left put.next put.was.right in
    let n = ap (long_with stamp) put.is ∙ long-mid stamp put.was.left run (put.next ∷ put.was.right) in
    let d = long-cons stamp put.next put.was.right in
    omega (arith, h, c, o, n, d)

-- A RUN THAT GOES ON

pub either_has : (a b : Run) (stamp : Stamp) → AreJoint a b → has_cell (run_joined a b) stamp ≡ true → has_cell a stamp ≡ false → has_cell b stamp ≡ true
either_has a b stamp j there not_a = let s = j.site in let f = j.first in grind (arith, nat_tests)

long_there : (a : Run) (stamp : Stamp) → 2 ≤ a.len → has_cell a stamp ≡ true → bit (is_long_with stamp a) ≡ 1
long_there a stamp two there = let e : is_long_with stamp a ≡ true = grind (arith, nat_tests) in ap bit e

pub apart_joined : (a b : Run) (left right : List Run) → are_joint a b ≡ true → 0 < a.len → list_any (is_shared_by (if a.len == 1 then run_joined a b else b)) (left ++ a ∷ right) ≡ false → AreApart (left ++ a ∷ right) → AreApart (left ++ run_joined a b ∷ right)
apart_joined a b left right j some apart is stamp =
    let old = left ++ a ∷ right in
    let n = long-mid stamp left (run_joined a b) right in
    let o = long-mid stamp left a right in
    let h = is stamp in
    let l = bit_low (is_long_with stamp (run_joined a b)) in
    split (has_cell (run_joined a b) stamp)
    (λ there.
    split (a.len == 1)
    (λ one.
    let e : list_any (is_shared_by (run_joined a b)) old ≡ false = ap (λ (t : Bool). list_any (is_shared_by (if t then run_joined a b else b)) old) (sym one) ∙ apart in
    let z = none_long (run_joined a b) stamp old e there in
    omega (arith, n, o, h, l, z))
    (λ more.
    let two : 2 ≤ a.len = grind (arith, nat_tests) in
    split (has_cell a stamp)
    (λ mine. let z = long_there a stamp two mine in omega (arith, n, o, h, l, z))
    (λ other.
    let e : list_any (is_shared_by b) old ≡ false = ap (λ (t : Bool). list_any (is_shared_by (if t then run_joined a b else b)) old) (sym more) ∙ apart in
    let z = none_long b stamp old e (either_has a b stamp (joint_true a b j) there other) in
    omega (arith, n, o, h, l, z))))
    (λ none. let z = bit_none (is_long_with stamp (run_joined a b)) (not_with stamp (run_joined a b) none) in omega (arith, n, o, h, z))

-- CELLS THAT HAVE A STAMP

pub occurs-append : (stamp : Stamp) (a b : List (Cell ℕ)) → occurrences stamp (a ++ b) ≡ occurrences stamp a + occurrences stamp b
occurs-append stamp a b = ap length (filter-append (λ (c : Cell ℕ). is_same c.stamp stamp) a b) ∙ length-append (filter (λ (c : Cell ℕ). is_same c.stamp stamp) a) (filter (λ (c : Cell ℕ). is_same c.stamp stamp) b)

pub occurs-cons : (stamp : Stamp) (c : Cell ℕ) (cs : List (Cell ℕ)) → occurrences stamp (c ∷ cs) ≡ bit (is_same c.stamp stamp) + occurrences stamp cs
occurs-cons stamp c cs = split (is_same c.stamp stamp) (λ e. rw e (omega arith)) (λ e. rw e (omega arith))

pub occurs-parts : (stamp : Stamp) (k : ℕ) (cs : List (Cell ℕ)) → occurrences stamp cs ≡ occurrences stamp (take k cs) + occurrences stamp (drop k cs)
occurs-parts stamp k cs = ap (occurrences stamp) (sym (take-append-drop k cs)) ∙ occurs-append stamp (take k cs) (drop k cs)

pub occurs-put : (stamp : Stamp) (at : ℕ) (new cs : List (Cell ℕ)) → occurrences stamp (put_at at new cs) ≡ occurrences stamp cs + occurrences stamp new
occurs-put stamp at new cs =
    let a = occurs-append stamp (take at cs) (new ++ drop at cs) in
    let b = occurs-append stamp new (drop at cs) in
    let c = occurs-parts stamp at cs in
    omega (arith, a, b, c)

abbrev row : Bool → ℕ → ℕ → ℕ → List ℕ → List (Cell ℕ)
row gone count site state text = map (with_gone gone) (cells_from count site state text)

abbrev among : ℕ → ℕ → ℕ → Stamp → Bool
among count site len stamp = (site == stamp.site) && (nat_le count stamp.count && nat_lt (stamp.count - count) len)

occurs_row : (gone : Bool) (count site state : ℕ) (text : List ℕ) (stamp : Stamp) → among count site (length text) stamp ≡ true → 1 ≤ occurrences stamp (row gone count site state text)
occurs_row gone count site state [] stamp h = absurd (let no_less : nat_lt (stamp.count - count) 0 ≡ true = grind (arith, nat_tests) in grind (arith, nat_tests))
occurs_row gone count site state (c ∷ text) stamp h =
    let cell : Cell ℕ = record { stamp = record { count = count; site = site }; ch = c; gone = gone; state = state } in
    let o = occurs-cons stamp cell (row gone (count + 1) site state text) in
    split (is_same (record { count = count; site = site }) stamp)
    (λ e. let b = ap bit e in omega (arith, o, b))
    (λ e.
    let n : length (c ∷ text) ≡ length text + 1 = omega arith in
    let h' : among (count + 1) site (length text) stamp ≡ true = grind (arith, nat_tests) in
    let i = occurs_row gone (count + 1) site state text stamp h' in
    omega (arith, o, i))

pub occurs_run : (text : List ℕ) (r : Run) (stamp : Stamp) → IsRun text r → has_cell r stamp ≡ true → 1 ≤ occurrences stamp (run_cells text r)
occurs_run text r stamp is h = occurs_row r.gone r.first r.site r.state (run_characters text r) stamp (ap (λ n. among r.first r.site n stamp) (characters_length text r is) ∙ h)

pub first_has : (r : Run) → 0 < r.len → has_cell r (first_stamp r) ≡ true
first_has r some = grind (arith, nat_tests)

pub shared_first : (run r : Run) → is_shared_by run r ≡ true → has_cell r (first_stamp run) ≡ false → has_cell run (first_stamp r) ≡ true
shared_first run r e f = grind (arith, nat_tests)

-- a stamp that is in a run, and in new cells
pub shared_twice : (text : List ℕ) (rs : List Run) (run : Run) (cells : List (Cell ℕ)) → AllByRecursion (IsRun text) rs → IsFrontOf text cells run → AreOnce (cells_of_runs text rs) cells → list_any (is_shared_by run) rs ≡ true → ⊥
shared_twice text [] run cells kept front once e = both_ways false refl e
shared_twice text (r ∷ rs) run cells kept front once e = split (is_shared_by run r)
    (λ here. split (has_cell r (first_stamp run))
    (λ t.
    let s = first_stamp run in
    let a = occurs_run text r s kept.0 t in
    let b = occurs_run text run s front.run (first_has run front.run.some) in
    twice s a b)
    (λ f.
    let s = first_stamp r in
    let a = occurs_run text r s kept.0 (first_has r kept.0.some) in
    let b = occurs_run text run s front.run (shared_first run r here f) in
    twice s a b))
    (λ later.
    let o = λ (s : Stamp). occurs-append s (run_cells text r) (cells_of_runs text rs) in
    shared_twice text rs run cells kept.1 front (λ s. let h = once s in let p = o s in omega (arith, h, p)) (rest later e))
  where
    rest : is_shared_by run r ≡ false → list_any (is_shared_by run) (r ∷ rs) ≡ true → list_any (is_shared_by run) rs ≡ true
    rest f t = split (list_any (is_shared_by run) rs) (λ y. y) (λ n. absurd (both_ways (list_any (is_shared_by run) (r ∷ rs)) (or_from (is_shared_by run r) (list_any (is_shared_by run) rs) f n) t))

    twice : (s : Stamp) → 1 ≤ occurrences s (run_cells text r) → 1 ≤ occurrences s (run_cells text run) → ⊥
    twice s a b =
        let h = once s in
        let p = occurs-append s (run_cells text r) (cells_of_runs text rs) in
        let q = occurs-parts s run.len cells in
        let i = ap (occurrences s) front.same in
        omega (arith, a, b, h, p, q, i)

pub chosen_twice : (text : List ℕ) (rs : List Run) (run : Run) (cells : List (Cell ℕ)) → AllByRecursion (IsRun text) rs → IsFrontOf text cells run → AreOnce (cells_of_runs text rs) cells → (nat_lt 1 run.len && list_any (is_shared_by run) rs) ≡ true → ⊥
chosen_twice text rs run cells kept front once e = shared_twice text rs run cells kept front once (and_parts (nat_lt 1 run.len) (list_any (is_shared_by run) rs) e).1

-- CELLS WITH DISTINCT STAMPS

occurs_none : (stamp : Stamp) (cs : List (Cell ℕ)) → is_among (stamps_of cs) stamp ≡ false → occurrences stamp cs ≡ 0
occurs_none stamp [] h = refl
occurs_none stamp (c ∷ cs) h =
    let p = or_parts (is_same c.stamp stamp) (is_among (stamps_of cs) stamp) h in
    let o = occurs-cons stamp c cs in
    let b = bit_none (is_same c.stamp stamp) p.0 in
    let i = occurs_none stamp cs p.1 in
    omega (arith, o, b, i)

pub occurs_once : (stamp : Stamp) (cs : List (Cell ℕ)) → AreDistinct cs → occurrences stamp cs ≤ 1
occurs_once stamp [] d = omega arith
occurs_once stamp (c ∷ cs) d =
    let o = occurs-cons stamp c cs in
    split (is_same c.stamp stamp)
    (λ e.
    let f = first_apart c.stamp (stamps_of cs) d in
    let same = same_from_true c.stamp stamp e in
    let z = occurs_none stamp cs (ap (is_among (stamps_of cs)) (sym same) ∙ f) in
    let b = bit_low (is_same c.stamp stamp) in
    omega (arith, o, z, b))
    (λ e.
    let i = occurs_once stamp cs (others_distinct c.stamp (stamps_of cs) d) in
    let b = bit_none (is_same c.stamp stamp) e in
    omega (arith, o, i, b))

pub distinct_once : (at : ℕ) (old new : List (Cell ℕ)) → AreDistinct (put_at at new old) → AreOnce old new
distinct_once at old new d stamp = let a = occurs_once stamp (put_at at new old) d in let b = occurs-put stamp at new old in omega (arith, a, b)
