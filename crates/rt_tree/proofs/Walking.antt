-- A walk from run to run.
use Rattle.std.proofs.Common.{◌≡◌, ℕ, ◌+◌, ◌-◌, ◌≤◌, true, false, List, [], ◌∷◌, ◌++◌, refl, sym, ap, ◌∙◌, arith, subst, append_assoc, append-nil}
use Rattle.std.specs.Prelude.{◌&&◌, nat_lt}
use Rattle.std.specs.List.{AllByRecursion}
use Rattle.std.proofs.lemmas.Bool.Decides.{nat_tests}
use Rattle.rt_stamps.specs.declared.stamp.Stamp.{Stamp}
use Rattle.rt_tree.specs.declared.node.Counts.{Counts}
use Rattle.rt_tree.specs.declared.node.CountedBy.TheVariants.{Cells}
use Rattle.rt_tree.specs.declared.node.Run.{Run}
use Rattle.rt_tree.specs.Runs.{IsRun, has_cell}
use Rattle.rt_tree.specs.Sharing.{BeginsAt, IsInside}
use Rattle.rt_tree.specs.Sums.{counts_of}
use Rattle.rt_tree.specs.Walks.{StandsAt}
use Rattle.rt_tree.proofs.Edges.{counts_mid, one_spot}
use Rattle.rt_tree.proofs.Positions.{has_within}

-- the run at a position up to which runs were passed is the next one
pub record IsNext (a b before : List Run) (run : Run) (after : List Run) (offset : ℕ) : Type 0 where
  pub left : a ≡ before
  pub rest : b ≡ run ∷ after
  pub first : offset ≡ 0

pub next_is : (text : List ℕ) (all a b : List Run) (at : ℕ) (run : Run) (front : Counts) (offset : ℕ) → all ≡ a ++ b → (counts_of a).cells ≡ at → AllByRecursion (IsRun text) b → (st : StandsAt Cells all run front offset at) → IsNext a b st.left run st.right offset
next_is text all a [] at run front offset is n kept st =
    let f = ap (λ (c : Counts). c.cells) st.before in
    let whole = ap (λ (l : List Run). (counts_of l).cells) (sym st.here ∙ is ∙ append-nil a) in
    let mid = counts_mid st.left run st.right in
    let at_ = st.at in let inside = st.inside in
    absurd (omega (arith, f, whole, mid, at_, inside, n))
next_is text all a (x ∷ b) at run front offset is n kept st =
    let f = ap (λ (c : Counts). c.cells) st.before in
    let at_ = st.at in
    let s = one_spot a x b 0 st.left run st.right offset (sym is ∙ st.here) (omega (arith, f, at_, n)) kept.0.some st.inside in
    let c = ap (λ (l : List Run). (counts_of l).cells) s.left in
    record {
      left = s.left;
      rest = ap (λ (r : Run). r ∷ b) s.run ∙ ap (λ (l : List Run). run ∷ l) s.right;
      first = omega (arith, f, at_, n, c);
    }

-- no run is left
pub none_left : (text : List ℕ) (a b : List Run) → AllByRecursion (IsRun text) b → (counts_of (a ++ b)).cells ≤ (counts_of a).cells → b ≡ []
none_left text a [] kept le = refl
none_left text a (x ∷ b) kept le = let m = counts_mid a x b in let s = kept.0.some in absurd (omega (arith, m, s, le))

pub all_right : (text : List ℕ) (a b : List Run) → AllByRecursion (IsRun text) (a ++ b) → AllByRecursion (IsRun text) b
all_right text [] b all = all
all_right text (x ∷ a) b all = all_right text a b all.1

-- runs passed so far, of each of which something holds
pub record ArePassed (all : List Run) (at : ℕ) (P : Run → Type 0) : Type 0 where
  pub left : List Run
  pub right : List Run
  pub is : all ≡ left ++ right
  pub count : (counts_of left).cells ≡ at
  pub each : AllByRecursion P left

pub none_passed : (all : List Run) (P : Run → Type 0) → ArePassed all 0 P
none_passed all P = record { left = []; right = all; is = refl; count = omega arith; each = tt }

pub each_more : (P : Run → Type 0) (a : List Run) (r : Run) → AllByRecursion P a → P r → AllByRecursion P (a ++ r ∷ [])
each_more P [] r all is = (is, tt)
each_more P (x ∷ a) r all is = (all.0, each_more P a r all.1 is)

module _ (text : List ℕ) (all : List Run) (at : ℕ) (P : Run → Type 0) (run : Run) (front : Counts) (offset : ℕ) (kept : AllByRecursion (IsRun text) all) (p : ArePassed all at P) (st : StandsAt Cells all run front offset at) where
  pub passed_next : IsNext p.left p.right st.left run st.right offset
  passed_next = next_is text all p.left p.right at run front offset p.is p.count (all_right text p.left p.right (subst (AllByRecursion (IsRun text)) p.is kept)) st

  pub passed_more : P run → ArePassed all (at + run.len) P
  passed_more is = record {
    left = p.left ++ run ∷ [];
    right = st.right;
    is = p.is ∙ ap (λ (l : List Run). p.left ++ l) passed_next.rest ∙ sym (append_assoc p.left (run ∷ []) st.right);
    count = (let m = counts_mid p.left run [] in let q = p.count in omega (arith, m, q));
    each = each_more P p.left run p.each is;
  }

pub all_passed : (text : List ℕ) (all : List Run) (at : ℕ) (P : Run → Type 0) → AllByRecursion (IsRun text) all → ArePassed all at P → (counts_of all).cells ≤ at → AllByRecursion P all
all_passed text all at P kept p end =
    let c = ap (λ (l : List Run). (counts_of l).cells) p.is in
    let q = p.count in
    let none = none_left text p.left p.right (all_right text p.left p.right (subst (AllByRecursion (IsRun text)) p.is kept)) (omega (arith, c, q, end)) in
    subst (AllByRecursion P) (sym (append-nil p.left) ∙ ap (λ (l : List Run). p.left ++ l) (sym none) ∙ sym p.is) p.each

-- A RUN THAT HAS A STAMP WITHIN IT

pub begins_here : (stamp : Stamp) (r : Run) → (has_cell r stamp && nat_lt r.first stamp.count) ≡ false → BeginsAt stamp r
begins_here stamp r no_inside h = grind (arith, nat_tests)

pub found_inside : (text : List ℕ) (all : List Run) (at : ℕ) (stamp : Stamp) (run : Run) (front : Counts) (offset : ℕ) → AllByRecursion (IsRun text) all → ArePassed all at (BeginsAt stamp) → StandsAt Cells all run front offset at → (has_cell run stamp && nat_lt run.first stamp.count) ≡ true → IsInside all stamp (at + (stamp.count - run.first))
found_inside text all at stamp run front offset kept p st yes_inside =
    let n = passed_next text all at (BeginsAt stamp) run front offset kept p st in
    let c = ap (λ (l : List Run). (counts_of l).cells) n.left in
    let q = p.count in
    record {
      left = st.left;
      run = run;
      right = st.right;
      here = st.here;
      there = grind (arith, nat_tests);
      later = grind (arith, nat_tests);
      place = omega (arith, c, q);
    }

pub inside_low : (rs : List Run) (stamp : Stamp) (at : ℕ) → IsInside rs stamp at → at ≤ (counts_of rs).cells
inside_low rs stamp at i =
    let m = ap (λ (l : List Run). (counts_of l).cells) i.here ∙ counts_mid i.left i.run i.right in
    let w = has_within i.run stamp i.there in
    let p = i.place in
    omega (arith, m, w, p)
