-- A run that goes on with another.
use Rattle.std.proofs.Common.{◌≡◌, ℕ, ◌+◌, ◌-◌, ◌≤◌, ◌==◌, not, Bool, true, false, List, ◌++◌, take, drop, refl, sym, ap, ◌∙◌, arith, if◌then◌else◌}
use Rattle.std.proofs.Math.Bool.{beq}
use Rattle.std.proofs.Math.Seq.{take-add}
use Rattle.std.specs.Cmp.{booleans_Decides}
use Rattle.std.proofs.lemmas.Bool.{and_parts, eqb-true}
use Rattle.std.proofs.lemmas.List.{drop-drop, take-take}
use Rattle.rt_stamps.specs.Places.{newlines}
use Rattle.rt_tree.specs.declared.node.Run.{Run}
use Rattle.rt_tree.specs.Additions.{are_joint, run_joined}
use Rattle.rt_tree.specs.Runs.{IsRun, run_cells}
use Rattle.rt_tree.specs.Stretches.{back_of, front_of}
use Rattle.rt_tree.proofs.Pieces.{run_parts}
use Rattle.rt_tree.proofs.Texts.{newlines-append}

pub record AreJoint (a b : Run) : Type 0 where
  pub state : b.state ≡ a.state
  pub gone : b.gone ≡ a.gone
  pub site : b.site ≡ a.site
  pub first : b.first ≡ a.first + a.len
  pub at : b.at ≡ a.at + a.len
  pub plain : a.newline ≡ false

from_not : (b : Bool) → not b ≡ true → b ≡ false
from_not true e = absurd (let w : ◌≡◌ {A = ℕ} (if not true then 0 else 1) 0 = ap (λ x. if x then 0 else 1) e in omega (arith, w))
from_not false e = refl

pub joint_true : (a b : Run) → are_joint a b ≡ true → AreJoint a b
joint_true a b t =
    let p = and_parts (b.state == a.state) _ t in
    let q = and_parts (beq b.gone a.gone) _ p.1 in
    let r = and_parts (b.site == a.site) _ q.1 in
    let s = and_parts (b.first == a.first + a.len) _ r.1 in
    let u = and_parts (b.at == a.at + a.len) _ s.1 in
    record {
      state = eqb-true b.state a.state p.0;
      gone = (booleans_Decides b.gone a.gone).0 q.0;
      site = eqb-true b.site a.site r.0;
      first = eqb-true b.first (a.first + a.len) s.0;
      at = eqb-true b.at (a.at + a.len) u.0;
      plain = from_not a.newline u.1;
    }

module _ (text : List ℕ) (a b : Run) (isa : IsRun text a) (isb : IsRun text b) (j : AreJoint a b) where
  abbrev here : List ℕ
  here = drop a.at text

  behind : drop a.len here ≡ drop b.at text
  behind = drop-drop a.len a.at text ∙ ap (λ i. drop i text) (sym j.at)

  parts : (n : ℕ) → take (a.len + n) here ≡ take a.len here ++ take n (drop b.at text)
  parts n = take-add a.len n here ∙ ap (λ l. take a.len here ++ take n l) behind

  none : newlines (take a.len here) ≡ 0
  none = isa.ends ∙ ap (λ (n : Bool). if n then 1 else 0) j.plain

  pub joined_run : IsRun text (run_joined a b)
  joined_run = record {
    some = omega (arith, isa.some);
    stands = omega (arith, isb.stands, j.at);
    counts = omega (arith, isb.counts, j.first);
    plain =
        (let low : a.len + b.len - 1 ≤ a.len + b.len = omega arith in
        let e : a.len + b.len - 1 ≡ a.len + (b.len - 1) = omega (arith, isb.some) in
        let n = newlines-append (take a.len here) (take (b.len - 1) (drop b.at text)) in
        let p = ap newlines (sym (take-take (b.len - 1) b.len (drop b.at text) (omega arith))) ∙ isb.plain in
        ap newlines (take-take (a.len + b.len - 1) (a.len + b.len) here low) ∙ ap (λ i. newlines (take i here)) e ∙ ap newlines (parts (b.len - 1)) ∙ omega (arith, n, p, none));
    ends =
        (let n = newlines-append (take a.len here) (take b.len (drop b.at text)) in
        let s : newlines (take (a.len + b.len) here) ≡ newlines (take b.len (drop b.at text)) = (let m = ap newlines (parts b.len) in omega (arith, n, m, none)) in
        s ∙ isb.ends);
  }

  front : front_of a.len (run_joined a b) ≡ a
  front = ap (λ (n : Bool). record a { newline = n }) (sym j.plain)

  back : back_of a.len (run_joined a b) ≡ b
  back =
      let len : a.len + b.len - a.len ≡ b.len = omega arith in
      λ i. record { first = sym j.first i; state = sym j.state i; at = sym j.at i; len = len i; site = sym j.site i; gone = sym j.gone i; newline = b.newline }

  pub joined_cells : run_cells text (run_joined a b) ≡ run_cells text a ++ run_cells text b
  joined_cells =
      run_parts text (run_joined a b) a.len joined_run isa.some (omega (arith, isb.some))
      ∙ ap (λ r. run_cells text r ++ run_cells text (back_of a.len (run_joined a b))) front
      ∙ ap (λ r. run_cells text a ++ run_cells text r) back
