-- Characters that are reached.
use Rattle.std.proofs.Common.{◌≡◌, ℕ, ◌+◌, ◌-◌, ◌<◌, ◌≤◌, not, Bool, true, false, List, [], ◌∷◌, ◌++◌, refl, sym, ap, subst, ◌∙◌, arith}
use Rattle.std.specs.Prelude.{IfSome}
use Rattle.std.specs.List.{AllByRecursion}
use Rattle.std.proofs.lemmas.Bool.Decides.{nat_tests}
use Rattle.rt_store.proofs.Distinct.{split}
use Rattle.rt_tags.specs.Borders.{borders, is_tagged}
use Rattle.rt_tags.specs.States.{IsState, IsTag, TagStates}
use Rattle.rt_tags.specs.Toggles.{count_of}
use Rattle.rt_tags.proofs.Bordering.{all_alike}
use Rattle.rt_tree.specs.declared.node.Run.{Run}
use Rattle.rt_tree.specs.declared.summary.Summary.{Summary}
use Rattle.rt_tree.specs.Reaches.{is_here, reached}
use Rattle.rt_tree.specs.Summaries.{IsSummary, shown_states, tagged_as}
use Rattle.rt_tree.specs.Sums.{counts_of, counts_of_run}

abbrev pub visible : List Run → ℕ
visible rs = (counts_of rs).visible

abbrev pub own : Run → ℕ
own r = (counts_of_run r).visible

pub shown_gone : (r : Run) (rs : List Run) → r.gone ≡ true → shown_states (r ∷ rs) ≡ shown_states rs
shown_gone r rs e = rw e refl

pub shown_here : (r : Run) (rs : List Run) → r.gone ≡ false → shown_states (r ∷ rs) ≡ r.state ∷ shown_states rs
shown_here r rs e = rw e refl

pub shown-append : (a b : List Run) → shown_states (a ++ b) ≡ shown_states a ++ shown_states b
shown-append [] b = refl
shown-append (r ∷ a) b = split r.gone
    (λ e. shown_gone r (a ++ b) e ∙ shown-append a b ∙ ap (λ l. l ++ shown_states b) (sym (shown_gone r a e)))
    (λ e. shown_here r (a ++ b) e ∙ ap (λ l. r.state ∷ l) (shown-append a b) ∙ ap (λ l. l ++ shown_states b) (sym (shown_here r a e)))

-- ONE RUN AND MORE

module _ (test : ℕ → Bool) where
  pub here : (from : ℕ) (r : Run) (rs : List Run) → is_here test from r ≡ true → reached test from (r ∷ rs) ≡ from
  here from r rs e = rw e refl

  pub goes_on : (from : ℕ) (r : Run) (rs : List Run) → is_here test from r ≡ false → reached test from (r ∷ rs) ≡ own r + reached test (from - own r) rs
  goes_on from r rs e = rw e refl

  inside : (from : ℕ) (r : Run) → is_here test from r ≡ true → from < own r
  inside from r e = grind (arith, nat_tests)

  beyond_it : (from : ℕ) (r : Run) → own r ≤ from → is_here test from r ≡ false
  beyond_it from r le = grind (arith, nat_tests)

  pub reached-le : (from : ℕ) (rs : List Run) → reached test from rs ≤ visible rs
  reached-le from [] = omega arith
  reached-le from (r ∷ rs) = split (is_here test from r)
      (λ e. let h = here from r rs e in let l = inside from r e in omega (arith, h, l))
      (λ e. let h = goes_on from r rs e in let i = reached-le (from - own r) rs in omega (arith, h, i))

  -- what comes behind runs in which it isn't
  pub reached-append : (from : ℕ) (a b : List Run) → reached test from a ≡ visible a → reached test from (a ++ b) ≡ visible a + reached test (from - visible a) b
  reached-append from [] b all = let z : from ≡ from - 0 = omega arith in let j = ap (λ n. reached test n b) z in omega (arith, j)
  reached-append from (r ∷ a) b all = split (is_here test from r)
      (λ e. let h = here from r a e in let l = inside from r e in absurd (omega (arith, h, all, l)))
      (λ e.
      let h = goes_on from r a e in
      let g = goes_on from r (a ++ b) e in
      let i = reached-append (from - own r) a b (omega (arith, h, all)) in
      let s : from - own r - visible a ≡ from - (own r + visible a) = omega arith in
      let j = ap (λ n. reached test n b) s in
      omega (arith, g, i, j))

  -- nothing is looked at behind runs in which it is
  pub reached-front : (from : ℕ) (a b : List Run) → reached test from a < visible a → reached test from (a ++ b) ≡ reached test from a
  reached-front from [] b less = absurd (omega (arith, less))
  reached-front from (r ∷ a) b less = split (is_here test from r)
      (λ e. here from r (a ++ b) e ∙ sym (here from r a e))
      (λ e.
      let h = goes_on from r a e in
      let g = goes_on from r (a ++ b) e in
      let i = reached-front (from - own r) a b (omega (arith, h, less)) in
      omega (arith, g, h, i))

  -- runs that end before the place
  pub reached-far : (from : ℕ) (rs : List Run) → visible rs ≤ from → reached test from rs ≡ visible rs
  reached-far from [] le = refl
  reached-far from (r ∷ rs) le =
      let l : own r + visible rs ≤ from = le in
      let no : is_here test from r ≡ false = beyond_it from r (omega (arith, l)) in
      let g = goes_on from r rs no in
      let i = reached-far (from - own r) rs (omega (arith, l)) in
      omega (arith, g, i)

  pub none_gone : (from : ℕ) (r : Run) → r.gone ≡ true → is_here test from r ≡ false
  none_gone from r e = beyond_it from r (let z : own r ≡ 0 = (rw e refl) in omega (arith, z))

  pub none_passes : (from : ℕ) (r : Run) → test r.state ≡ false → is_here test from r ≡ false
  none_passes from r e = grind (arith, nat_tests)

  step : (from : ℕ) (r : Run) (rs : List Run) → is_here test from r ≡ false → reached test (from - own r) rs ≡ visible rs → reached test from (r ∷ rs) ≡ visible (r ∷ rs)
  step from r rs e i = let g = goes_on from r rs e in omega (arith, g, i)

  -- runs in none of whose states it is
  pub reached-none : (from : ℕ) (rs : List Run) → AllByRecursion (λ s. test s ≡ false) (shown_states rs) → reached test from rs ≡ visible rs
  reached-none from [] all = refl
  reached-none from (r ∷ rs) all = split r.gone
      (λ e. step from r rs (none_gone from r e) (reached-none (from - own r) rs (subst (AllByRecursion (λ s. test s ≡ false)) (shown_gone r rs e) all)))
      (λ e. let both = subst (AllByRecursion (λ s. test s ≡ false)) (shown_here r rs e) all in step from r rs (none_passes from r both.0) (reached-none (from - own r) rs both.1))

-- WHAT A SUMMARY TELLS

-- states without a border are alike
pub no_borders : (table : TagStates) (tag : ℕ) (on : Bool) (x : ℕ) (xs : List ℕ) → borders (is_tagged table tag) (x ∷ xs) ≡ 0 → tagged_as table tag on x ≡ false → AllByRecursion (λ s. tagged_as table tag on s ≡ false) (x ∷ xs)
no_borders table tag on x xs none off = (off, turn xs (all_alike (is_tagged table tag) (is_tagged table tag x) x xs refl none))
  where
    as_first : (o : Bool) (y : ℕ) → is_tagged table tag y ≡ is_tagged table tag x → tagged_as table tag o x ≡ false → tagged_as table tag o y ≡ false
    as_first true y e f = e ∙ f
    as_first false y e f = ap not e ∙ f

    turn : (ys : List ℕ) → AllByRecursion (λ y. is_tagged table tag y ≡ is_tagged table tag x) ys → AllByRecursion (λ s. tagged_as table tag on s ≡ false) ys
    turn [] h = tt
    turn (y ∷ ys) h = (as_first on y h.0 off, turn ys h.1)

-- no character passes where there is no border and the first one doesn't
pub told : (table : TagStates) (tag : ℕ) (on : Bool) (shown : List ℕ) (s : Summary) → IsTag table tag → IsSummary table shown s → count_of tag s.counts ≡ 0
    → IfSome s.first (λ state. tagged_as table tag on state ≡ false) → AllByRecursion (λ state. tagged_as table tag on state ≡ false) shown
told table tag on [] s given is none off = tt
told table tag on (x ∷ xs) s given is none off =
    no_borders table tag on x xs (sym (is.counts.given tag given) ∙ none) (subst (λ o. IfSome o (λ state. tagged_as table tag on state ≡ false)) is.first off)

-- the first state is one of the states
pub first_given : (table : TagStates) (shown : List ℕ) (s : Summary) → AllByRecursion (IsState table) shown → IsSummary table shown s → IfSome s.first (IsState table)
first_given table [] s all is = subst (λ o. IfSome o (IsState table)) (sym is.first) tt
first_given table (x ∷ xs) s all is = subst (λ o. IfSome o (IsState table)) (sym is.first) all.0
