-- What a search through looks finds, and what it costs.
use Rattle.std.proofs.Common.{◌≡◌, ℕ, zero, suc, ◌+◌, ◌-◌, ◌*◌, ◌<◌, ◌≤◌, ◌==◌, not, Bool, true, false, List, [], ◌∷◌, length, get_or, refl, sym, ap, subst, ◌∙◌, arith, if◌then◌else◌}
use Rattle.std.specs.Prelude.{IfSome, nat_lt}
use Rattle.std.specs.List.{AllByRecursion}
use Rattle.std.proofs.lemmas.Bool.{le-ltb, ltb-false, ltb-true}
use Rattle.std.proofs.lemmas.Bool.Decides.{nat_tests}
use Rattle.rt_nodes.specs.Nodes.{entries}
use Rattle.rt_store.proofs.Distinct.{split}
use Rattle.rt_tags.specs.Borders.{borders, first, is_tagged}
use Rattle.rt_tags.specs.States.{IsTag, TagStates}
use Rattle.rt_tags.specs.Toggles.{count_of}
use Rattle.rt_tags.proofs.Bordering.{alike_none}
use Rattle.rt_tree.specs.declared.node.Entry.{Entry}
use Rattle.rt_tree.specs.declared.node.Run.{Run}
use Rattle.rt_tree.specs.declared.reach.Reach.{Reach}
use Rattle.rt_tree.specs.declared.summary.Summary.{Summary}
use Rattle.rt_tree.specs.Reaches.{is_here, reached}
use Rattle.rt_tree.specs.Seeks.{IsReached, entry_at, most_below, runs_at}
use Rattle.rt_tree.specs.Shape.{Memory, below, level_of}
use Rattle.rt_tree.specs.Skips.{HasCells}
use Rattle.rt_tree.specs.Summaries.{IsSummary, shown_states, tagged_as}
use Rattle.rt_tree.proofs.Passes.{get-any}
use Rattle.rt_tree.proofs.Reaching.{goes_on, here, none_gone, none_passes, own, reached-le, shown_gone, shown_here, visible}
use Rattle.rt_tree.proofs.Skipping.{high_is}

-- WHAT A SUMMARY TELLS

-- where no state passes, there is no border, and the first one doesn't pass
no_border : (table : TagStates) (tag : ℕ) (on : Bool) (shown : List ℕ) → AllByRecursion (λ s. tagged_as table tag on s ≡ false) shown → borders (is_tagged table tag) shown ≡ 0
no_border table tag on [] off = refl
no_border table tag true (x ∷ xs) off = alike_none (is_tagged table tag) false x xs off.0 off.1
no_border table tag false (x ∷ xs) off = alike_none (is_tagged table tag) true x xs (high_is (is_tagged table tag x) off.0) (turn xs off.1) where
  turn : (ys : List ℕ) → AllByRecursion (λ s. not (is_tagged table tag s) ≡ false) ys → AllByRecursion (λ y. is_tagged table tag y ≡ true) ys
  turn [] h = tt
  turn (y ∷ ys) h = (high_is (is_tagged table tag y) h.0, turn ys h.1)

first_off : (table : TagStates) (tag : ℕ) (on : Bool) (shown : List ℕ) → AllByRecursion (λ s. tagged_as table tag on s ≡ false) shown → IfSome (first shown) (λ s. tagged_as table tag on s ≡ false)
first_off table tag on [] off = tt
first_off table tag on (x ∷ xs) off = off.0

pub tells_none : (table : TagStates) (tag : ℕ) (on : Bool) (shown : List ℕ) (s : Summary) → IsTag table tag → IsSummary table shown s → AllByRecursion (λ s. tagged_as table tag on s ≡ false) shown
    → (count_of tag s.counts ≡ 0) × IfSome s.first (λ s. tagged_as table tag on s ≡ false)
tells_none table tag on shown s given is off =
    (is.counts.given tag given ∙ no_border table tag on shown off, subst (λ o. IfSome o (λ s. tagged_as table tag on s ≡ false)) (sym is.first) (first_off table tag on shown off))

-- WHERE THERE IS ONE

module _ (test : ℕ → Bool) where
  hits : (r : Run) → HasCells r → r.gone ≡ false → test r.state ≡ true → is_here test 0 r ≡ true
  hits r some shown passes = let v : own r ≡ r.len = (rw shown refl) in let l : 0 < own r = omega (arith, v, some) in grind (arith, nat_tests)

  -- if nothing is reached from the beginning on, no state passes
  none_then : (rs : List Run) → AllByRecursion HasCells rs → visible rs ≤ reached test 0 rs → AllByRecursion (λ s. test s ≡ false) (shown_states rs)
  none_then [] some le = tt
  none_then (r ∷ rs) some le = split r.gone
      (λ g.
      let go = goes_on test 0 r rs (none_gone test 0 r g) in
      let z : 0 - own r ≡ 0 = omega arith in
      let j = ap (λ n. reached test n rs) z in
      subst (AllByRecursion (λ s. test s ≡ false)) (sym (shown_gone r rs g)) (none_then rs some.1 (omega (arith, le, go, j))))
      (λ s. split (test r.state)
      (λ passes.
      let v : own r ≡ r.len = (rw s refl) in
      let h = here test 0 r rs (hits r some.0 s passes) in
      absurd (omega (arith, le, h, v, some.0)))
      (λ off.
      let go = goes_on test 0 r rs (none_passes test 0 r off) in
      let z : 0 - own r ≡ 0 = omega arith in
      let j = ap (λ n. reached test n rs) z in
      subst (AllByRecursion (λ s. test s ≡ false)) (sym (shown_here r rs s)) (off, none_then rs some.1 (omega (arith, le, go, j)))))

  -- where some state passes, it is reached from the beginning on
  pub is_there : (rs : List Run) → AllByRecursion HasCells rs → (AllByRecursion (λ s. test s ≡ false) (shown_states rs) → ⊥) → reached test 0 rs < visible rs
  is_there rs some not_none = split (nat_lt (reached test 0 rs) (visible rs))
      (λ t. ltb-true (reached test 0 rs) (visible rs) t)
      (λ f. absurd (not_none (none_then rs some (ltb-false (reached test 0 rs) (visible rs) f))))

  -- all of them, where there is none
  pub is_whole : (from : ℕ) (rs : List Run) → nat_lt (reached test from rs) (visible rs) ≡ false → reached test from rs ≡ visible rs
  is_whole from rs f = let l = ltb-false (reached test from rs) (visible rs) f in let m = reached-le test from rs in omega (arith, l, m)

  -- what is reached in a run, and in runs that are past
  pub reaches_none : (from : ℕ) (rs : List Run) (r : Reach) → reached test from rs ≡ visible rs → r.place ≡ visible rs → r.found ≡ false → IsReached test from rs r
  reaches_none from rs r e p f = record { place = p ∙ sym e; found = f ∙ sym (le-ltb (reached test from rs) (visible rs) (omega (arith, e))) }

-- AN ENTRY OF A NODE

entry_is : (m : Memory) (id i : ℕ) (e : Entry) → i < length (entries m id) → e ≡ get_or (entries m id) i e → entry_at m id i ≡ e
entry_is m id i e lt here = get-any (entries m id) i _ e lt ∙ sym here

pub runs_are : (m : Memory) (id i : ℕ) (e : Entry) → i < length (entries m id) → e ≡ get_or (entries m id) i e → runs_at m id i ≡ below m (level_of m id) e
runs_are m id i e lt here = ap (below m (level_of m id)) (entry_is m id i e lt here)

-- WHAT IT COSTS

most_start : (from level : ℕ) → from ≡ 0 → most_below from level ≡ 16 * level
most_start from level e = rw e refl

later_one : (from : ℕ) → 0 < from → (from == 0) ≡ false
later_one from l = grind (arith, nat_tests)

most_later : (from level : ℕ) → 0 < from → most_below from level ≡ 32 * level
most_later from level l = ap (λ b. if b then 16 * level else 32 * level) (later_one from l)

most_most : (from level : ℕ) → most_below from level ≤ 32 * level
most_most zero level = omega arith
most_most (suc from) level = let h = most_later (suc from) level (omega arith) in omega (arith, h)

-- a level down
pub most_down : (from level up : ℕ) → up ≡ suc level → 16 + most_below from level ≤ most_below from up
most_down zero level up e = omega (arith, e)
most_down (suc from) level up e = let h = most_later (suc from) level (omega arith) in let j = most_later (suc from) up (omega arith) in omega (arith, h, j, e)

-- what is spent before an entry of a node in whose front so many characters are
pub record Spent (level from done begun i looked : ℕ) : Type 0 where
  pub start : from ≡ 0 → looked ≤ begun + i
  pub ahead : done ≤ from → looked ≤ begun + i
  pub all : looked ≤ begun + (i + 16 * level)

-- an entry's share is there
pub enough : (level from done begun i looked : ℕ) → Spent level from done begun i looked → i < 16 → looked + (1 + most_below (from - done) level) ≤ begun + (16 + most_below from level)
enough level from done begun i looked s lt = split (nat_lt from done)
    (λ t.
    let l = ltb-true from done t in
    let z : from - done ≡ 0 = omega (arith, l) in
    let own = most_start (from - done) level z in
    later from own)
    (λ f.
    let l = ltb-false from done f in
    let a = s.ahead l in
    let b = no_more from done in
    omega (arith, a, b, lt))
  where
    no_more : (from done : ℕ) → most_below (from - done) level ≤ most_below from level
    no_more zero done = let z : 0 - done ≡ 0 = omega arith in let h = ap (λ n. most_below n level) z in omega (arith, h)
    no_more (suc from) done = let h = most_most (suc from - done) level in let j = most_later (suc from) level (omega arith) in omega (arith, h, j)

    later : (n : ℕ) → most_below (from - done) level ≡ 16 * level → looked + (1 + most_below (from - done) level) ≤ begun + (16 + most_below from level)
    later n own = split (nat_lt 0 from)
        (λ t. let p = most_later from level (ltb-true 0 from t) in let a = s.all in omega (arith, a, own, p, lt))
        (λ f. let z : from ≡ 0 = (let l = ltb-false 0 from f in omega (arith, l)) in let p = most_start from level z in let a = s.start z in omega (arith, a, own, p, lt))

-- an entry was gone through that hasn't it, with so many characters
pub spends : (level from done begun i looked more new : ℕ) → Spent level from done begun i looked → new ≤ looked + (1 + 16 * level) → (from - done ≡ 0 → new ≤ looked + 1)
    → (more ≤ from - done → new ≤ looked + 1) → Spent level from (done + more) begun (i + 1) new
spends level from done begun i looked more new s most start far = record {
  start = λ z. let a = s.start z in let b = start (omega (arith, z)) in omega (arith, a, b);
  ahead = λ l. let a = s.ahead (omega (arith, l)) in let b = far (omega (arith, l)) in omega (arith, a, b);
  all = split (nat_lt from done)
      (λ t. let l = ltb-true from done t in let b = start (omega (arith, l)) in let a = s.all in omega (arith, a, b))
      (λ f. let l = ltb-false from done f in let a = s.ahead l in omega (arith, a, most));
}
