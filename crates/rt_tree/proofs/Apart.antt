-- Stamps that are in several runs.
use Rattle.std.proofs.Common.{◌≡◌, ℕ, ◌+◌, ◌-◌, ◌<◌, ◌≤◌, Bool, true, List, [], ◌∷◌, ◌++◌, length, length-append, sym, ap, ◌∙◌, arith, if◌then◌else◌, subst, append_assoc}
use Rattle.std.specs.Prelude.{filter}
use Rattle.std.specs.List.{AllByRecursion}
use Rattle.std.proofs.lemmas.Bool.Decides.{nat_tests}
use Rattle.std.proofs.lemmas.List.Elements.{filter-append}
use Rattle.rt_stamps.specs.declared.stamp.Stamp.{Stamp}
use Rattle.rt_store.proofs.Distinct.{split}
use Rattle.rt_tree.specs.declared.node.Run.{Run}
use Rattle.rt_tree.specs.Runs.{IsRun, has_cell}
use Rattle.rt_tree.specs.Sharing.{AreApart, AreParts, BeginsAt, IsInside, is_long_with, long_with}
use Rattle.rt_tree.specs.Stretches.{back_of, front_of}
use Rattle.rt_tree.proofs.CellLaws.{all_left}
use Rattle.rt_tree.proofs.Positions.{has_within}

abbrev pub bit : Bool → ℕ
bit b = if b then 1 else 0

pub long-append : (stamp : Stamp) (a b : List Run) → long_with stamp (a ++ b) ≡ long_with stamp a + long_with stamp b
long-append stamp a b = ap length (filter-append (is_long_with stamp) a b) ∙ length-append (filter (is_long_with stamp) a) (filter (is_long_with stamp) b)

pub long-cons : (stamp : Stamp) (r : Run) (rs : List Run) → long_with stamp (r ∷ rs) ≡ bit (is_long_with stamp r) + long_with stamp rs
long-cons stamp r rs = split (is_long_with stamp r) (λ e. rw e (omega arith)) (λ e. rw e (omega arith))

pub long-mid : (stamp : Stamp) (a : List Run) (r : Run) (b : List Run) → long_with stamp (a ++ r ∷ b) ≡ long_with stamp a + (bit (is_long_with stamp r) + long_with stamp b)
long-mid stamp a r b = long-append stamp a (r ∷ b) ∙ ap (λ n. long_with stamp a + n) (long-cons stamp r b)

-- A CUT

bits_cut : (stamp : Stamp) (r : Run) (k : ℕ) → 0 < k → k < r.len → bit (is_long_with stamp (front_of k r)) + bit (is_long_with stamp (back_of k r)) ≤ bit (is_long_with stamp r)
bits_cut stamp r k some lt = grind (arith, nat_tests)

pub apart_cut : (r : Run) (k : ℕ) (b : List Run) → 0 < k → k < r.len → (a : List Run) → AreApart (a ++ r ∷ b) → AreApart (a ++ front_of k r ∷ back_of k r ∷ b)
apart_cut r k b some lt a is stamp =
    let n = long-mid stamp a (front_of k r) (back_of k r ∷ b) in
    let m = long-cons stamp (back_of k r) b in
    let o = long-mid stamp a r b in
    let c = bits_cut stamp r k some lt in
    let h = is stamp in
    omega (arith, n, m, o, c, h)

front_begins : (stamp : Stamp) (r : Run) (k : ℕ) → k < r.len → BeginsAt stamp r → BeginsAt stamp (front_of k r)
front_begins stamp r k lt is h = let there : has_cell r stamp ≡ true = grind (arith, nat_tests) in is there

back_begins : (stamp : Stamp) (r : Run) (k : ℕ) → 0 < k → k < r.len → BeginsAt stamp r → BeginsAt stamp (back_of k r)
back_begins stamp r k some lt is h =
    let there : has_cell r stamp ≡ true = grind (arith, nat_tests) in
    let e = is there in
    absurd (grind (arith, nat_tests))

pub begins_cut : (r : Run) (k : ℕ) (b : List Run) → 0 < k → k < r.len → (a : List Run) (stamp : Stamp) → AllByRecursion (BeginsAt stamp) (a ++ r ∷ b) → AllByRecursion (BeginsAt stamp) (a ++ front_of k r ∷ back_of k r ∷ b)
begins_cut r k b some lt [] stamp all = (front_begins stamp r k lt all.0, (back_begins stamp r k some lt all.0, all.1))
begins_cut r k b some lt (x ∷ a) stamp all = (all.0, begins_cut r k b some lt a stamp all.1)

-- A CUT AT A STAMP

-- a run that has a stamp which no run of more than one cell has begins with it
alone_begins : (stamp : Stamp) (text : List ℕ) (rs : List Run) → long_with stamp rs ≡ 0 → AllByRecursion (IsRun text) rs → AllByRecursion (BeginsAt stamp) rs
alone_begins stamp text [] none some = tt
alone_begins stamp text (r ∷ rs) none some =
    let c = long-cons stamp r rs in
    (λ h. short r h (omega (arith, c, none)) some.0.some, alone_begins stamp text rs (omega (arith, c, none)) some.1)
  where
    short : (x : Run) → has_cell x stamp ≡ true → bit (is_long_with stamp x) ≡ 0 → 0 < x.len → x.first ≡ stamp.count
    short x h e some = grind (arith, nat_tests)

all_right : (text : List ℕ) (a b : List Run) → AllByRecursion (IsRun text) (a ++ b) → AllByRecursion (IsRun text) b
all_right text [] b all = all
all_right text (x ∷ a) b all = all_right text a b all.1

pub both_begin : (stamp : Stamp) (a b : List Run) → AllByRecursion (BeginsAt stamp) a → AllByRecursion (BeginsAt stamp) b → AllByRecursion (BeginsAt stamp) (a ++ b)
both_begin stamp [] b left right = right
both_begin stamp (x ∷ a) b left right = (left.0, both_begin stamp a b left.1 right)

-- the run that has a stamp within it is cut there, and no other run of more than one cell has it
pub inside_begins : (text : List ℕ) (old new : List Run) (stamp : Stamp) (at : ℕ) → AllByRecursion (IsRun text) old → AreApart old → IsInside old stamp at → AreParts old new at → AllByRecursion (BeginsAt stamp) new
inside_begins text old new stamp at kept apart i parts =
    let a = i.left in let r = i.run in let b = i.right in
    let k = stamp.count - r.first in
    let there = i.there in let later = i.later in
    let some : 0 < k = omega (arith, later) in
    let lt : k < r.len = has_within r stamp there in
    let n = ap (long_with stamp) i.here ∙ long-mid stamp a r b in
    let h = apart stamp in
    let one : bit (is_long_with stamp r) ≡ 1 = grind (arith, nat_tests) in
    let all = subst (AllByRecursion (IsRun text)) i.here kept in
    let left = alone_begins stamp text a (omega (arith, n, h, one)) (all_left text a (r ∷ b) all) in
    let right = alone_begins stamp text b (omega (arith, n, h, one)) (all_right text (a ++ r ∷ []) b (subst (AllByRecursion (IsRun text)) (sym (append_assoc a (r ∷ []) b)) all)) in
    let front : BeginsAt stamp (front_of k r) = (λ e. absurd (grind (arith, nat_tests))) in
    let back : BeginsAt stamp (back_of k r) = (λ e. omega (arith, later)) in
    subst (AllByRecursion (BeginsAt stamp)) (sym (parts a b r k i.here i.place some lt)) (both_begin stamp a (front_of k r ∷ back_of k r ∷ b) left (front, (back, right)))
