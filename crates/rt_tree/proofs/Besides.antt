-- What stands beside an entry of a leaf, below each node above it, is a part of what all runs show.
use Rattle.std.proofs.Common.{◌≡◌, ℕ, zero, suc, ◌+◌, ◌-◌, ◌<◌, ◌≤◌, ◌^◌, List, ◌++◌, length, length-append, get_or, sym, ap, ◌∙◌, arith, subst, Option, None, Some, inl, inr, refl, true, true≢false}
use Rattle.std.specs.Prelude.{IfSome, nat_eq}
use Rattle.std.specs.Option.{option_eq}
use Rattle.std.proofs.lemmas.Bool.Decides.{Decides-eqb}
use Rattle.std.specs.List.{AllByRecursion}
use Rattle.std.proofs.lemmas.Bool.{cases_eq}
use Rattle.rt_nodes.specs.Nodes.{entries}
use Rattle.rt_tags.specs.Borders.{one_or_none}
use Rattle.rt_tags.specs.States.{IsState, TagStates}
use Rattle.rt_tree.specs.declared.node.Entry.{Entry}
use Rattle.rt_tree.specs.declared.summary.Summary.{Summary}
use Rattle.rt_tree.specs.Changes.{above}
use Rattle.rt_tree.specs.Shape.{IsShape, Memory, all_below, below, left_of, level_of, right_of, runs}
use Rattle.rt_tree.specs.Summaries.{AreBeside, AreSummed, AreSummedBut, IsSummary, shown_before, shown_behind, shown_states, summary_of}
use Rattle.rt_tree.proofs.Above.{above_top}
use Rattle.rt_tree.proofs.Noting.{before_up, behind_up, shows_now}
use Rattle.rt_tree.proofs.Passes.{each-append}
use Rattle.rt_tree.proofs.Paths.{at}

pub same_option : (a b : Option ℕ) → option_eq nat_eq a b ≡ true → a ≡ b
same_option None None e = refl
same_option None (Some y) e = absurd (true≢false (sym e))
same_option (Some x) None e = absurd (true≢false (sym e))
same_option (Some x) (Some y) e = ap Some ((Decides-eqb x y).0 e)

one_given : (P : ℕ → Type 0) (o : Option ℕ) → AllByRecursion P (one_or_none o) → IfSome o P
one_given P None all = tt
one_given P (Some x) all = all.0

module _ (m : Memory) (height root : ℕ) (t : IsShape m height root) (x : ℕ) (xis : x < length m.heads) (low : level_of m x ≡ 0) (i : ℕ) (e : Entry) (o : Option ℕ) (lt : i < length (entries m x)) (here : e ≡ get_or (entries m x) i e) (shows : shown_states (below m 0 e) ≡ one_or_none o) where
  -- all runs show what stands before, the entry's own state and what stands behind
  pub whole_shown : shown_states (runs m height root) ≡ shown_before m height x i ++ (one_or_none o ++ shown_behind m height x i)
  whole_shown = ap (λ r. shown_states (runs m height r)) (sym (above_top m height root t x xis low)) ∙ shows_now m height root t x xis low i e o lt here shows height (omega arith)

  module _ (table : TagStates) (given : AllByRecursion (IsState table) (shown_states (runs m height root))) where
    record IsPart (j : ℕ) : Type 0 where
      before : AllByRecursion (IsState table) (shown_before m j x i)
      behind : AllByRecursion (IsState table) (shown_behind m j x i)
      few : length (shown_before m j x i) + length (shown_behind m j x i) ≤ length (shown_states (runs m height root))

    split_up : AllByRecursion (IsState table) (shown_before m height x i) × (AllByRecursion (IsState table) (one_or_none o) × AllByRecursion (IsState table) (shown_behind m height x i))
    split_up =
        let a = each-append (IsState table) (shown_before m height x i) (one_or_none o ++ shown_behind m height x i) (subst (AllByRecursion (IsState table)) whole_shown given) in
        (a.0, each-append (IsState table) (one_or_none o) (shown_behind m height x i) a.1)

    -- the entry's own state was given out
    pub own_given : IfSome o (IsState table)
    own_given = one_given (IsState table) o split_up.1.0

    top : IsPart height
    top =
        let a = ap length whole_shown ∙ length-append (shown_before m height x i) (one_or_none o ++ shown_behind m height x i) in
        let b = length-append (one_or_none o) (shown_behind m height x i) in
        record { before = split_up.0; behind = split_up.1.1; few = omega (arith, a, b) }

    lower : (j : ℕ) → suc j ≤ height → IsPart (suc j) → IsPart j
    lower j le p =
        let id = above m j x in
        let up = above m (suc j) x in
        let left = shown_states (all_below m (suc j) (left_of id (entries m up))) in
        let right = shown_states (all_below m (suc j) (right_of id (entries m up))) in
        let b = before_up m height root t x xis low i j le in
        let f = behind_up m height root t x xis low i j le in
        let bl = ap length b ∙ length-append left (shown_before m j x i) in
        let fl = ap length f ∙ length-append (shown_behind m j x i) right in
        record {
          before = (each-append (IsState table) left (shown_before m j x i) (subst (AllByRecursion (IsState table)) b p.before)).1;
          behind = (each-append (IsState table) (shown_behind m j x i) right (subst (AllByRecursion (IsState table)) f p.behind)).0;
          few = omega (arith, bl, fl, p.few);
        }

    parts : (d j : ℕ) → j + d ≡ height → IsPart j
    parts zero j e' = subst IsPart (let z : height ≡ j = omega (arith, e') in z) top
    parts (suc d) j e' = lower j (omega (arith, e')) (parts d (suc j) (omega (arith, e')))

    part : (j : ℕ) → j ≤ height → IsPart j
    part j le = parts (height - j) j (omega (arith, le))

    pub beside : length (shown_states (runs m height root)) + 4 < 2 ^ 32 → AreBeside table m height x i
    beside few = record {
      before = λ j le. (part j le).before;
      behind = λ j le. (part j le).behind;
      short = λ j le. let p = (part j le).few in omega (arith, p, few);
    }

  -- where an entry shows what summaries have in its place, these are right
  pub but_same : (table : TagStates) (sums : List Summary) → AreSummedBut table m sums height x i o → AreSummed table m sums
  but_same table sums but id is =
      let k = level_of m id in
      let le : k ≤ height = t.low id is in
      elim (cases_eq id (above m k x)) [
        | inl same ↦ subst (λ d. IsSummary table (shown_states (runs m k d)) (summary_of sums d)) (sym same)
            (subst (λ l. IsSummary table l (summary_of sums (above m k x))) (sym (shows_now m height root t x xis low i e o lt here shows k le)) (but.path k le))
        | inr ne ↦ but.others id is (λ j le' same. ne (same ∙ ap (λ n. above m n x) (sym (ap (level_of m) same ∙ (at m height root t x xis low j le').1))))
      ]
