-- Characters that are reached from behind.
use Rattle.std.proofs.Common.{◌≡◌, ℕ, zero, ◌+◌, ◌-◌, ◌<◌, ◌≤◌, Bool, true, false, List, [], ◌∷◌, ◌++◌, length, take, get_or, refl, sym, ap, subst, ◌∙◌, arith, if◌then◌else◌}
use Rattle.std.specs.Prelude.{min, nat_lt}
use Rattle.std.specs.List.{AllByRecursion}
use Rattle.std.proofs.lemmas.Bool.{le-ltb, lt-ltb, ltb-false, ltb-true}
use Rattle.std.proofs.lemmas.Bool.Decides.{nat_tests}
use Rattle.std.proofs.lemmas.List.{append-nil, take_more}
use Rattle.std.proofs.lemmas.List.Concat.{flat_map-append}
use Rattle.rt_store.proofs.Distinct.{split}
use Rattle.rt_tree.specs.declared.node.Entry.{Entry}
use Rattle.rt_tree.specs.declared.node.Run.{Run}
use Rattle.rt_tree.specs.Reaches.{later_or, reached_back}
use Rattle.rt_tree.specs.Shape.{Memory, all_below, below}
use Rattle.rt_tree.specs.Summaries.{shown_states}
use Rattle.rt_tree.proofs.Reaching.{own, shown_gone, shown_here, visible}

pub later_yes : (n later front : ℕ) → 0 < later → later_or n later front ≡ n + later
later_yes n later front l = ap (λ b. if b then n + later else front) (lt-ltb 0 later l)

pub later_no : (n later front : ℕ) → later ≡ 0 → later_or n later front ≡ front
later_no n later front z = ap (λ b. if b then n + later else front) (le-ltb 0 later (omega (arith, z)))

nest : (n k later front here : ℕ) → later_or n (later_or k later front) here ≡ later_or (n + k) later (later_or n front here)
nest n k later front here = split (nat_lt 0 later)
    (λ t. let l : 0 < later = ltb-true 0 later t in
    let a = later_yes k later front l in
    let b = later_yes n (k + later) here (omega (arith, l)) in
    let c = later_yes (n + k) later (later_or n front here) l in
    ap (λ x. later_or n x here) a ∙ b ∙ (let e : n + (k + later) ≡ n + k + later = omega arith in e) ∙ sym c)
    (λ f. let z : later ≡ 0 = omega (arith, ltb-false 0 later f) in
    ap (λ x. later_or n x here) (later_no k later front z) ∙ sym (later_no (n + k) later (later_or n front here) z))

module _ (test : ℕ → Bool) where
  abbrev pub mine : ℕ → Run → ℕ
  mine upto r = if test r.state then min upto (own r) else 0

  -- what is behind comes first
  pub back-append : (upto : ℕ) (a b : List Run) → reached_back test upto (a ++ b) ≡ later_or (visible a) (reached_back test (upto - visible a) b) (reached_back test upto a)
  back-append upto [] b =
      let z : upto ≡ upto - 0 = omega arith in
      let later = reached_back test (upto - 0) b in
      ap (λ n. reached_back test n b) z ∙ split (nat_lt 0 later)
      (λ t. let l : 0 < later = ltb-true 0 later t in sym (later_yes 0 later 0 l ∙ (let e : 0 + later ≡ later = omega arith in e)))
      (λ f. let y : later ≡ 0 = omega (arith, ltb-false 0 later f) in y ∙ sym (later_no 0 later 0 y))
  back-append upto (r ∷ a) b =
      let s : upto - own r - visible a ≡ upto - (own r + visible a) = omega arith in
      ap (λ x. later_or (own r) x (mine upto r)) (back-append (upto - own r) a b)
      ∙ nest (own r) (visible a) (reached_back test (upto - own r - visible a) b) (reached_back test (upto - own r) a) (mine upto r)
      ∙ ap (λ n. later_or (own r + visible a) (reached_back test n b) (reached_back test upto (r ∷ a))) s

  mine-le : (upto : ℕ) (r : Run) → mine upto r ≤ own r
  mine-le upto r = split (test r.state)
      (λ t. let e : mine upto r ≡ min upto (own r) = ap (λ b. if b then min upto (own r) else 0) t in let m = least upto (own r) in omega (arith, e, m))
      (λ f. let e : mine upto r ≡ 0 = ap (λ b. if b then min upto (own r) else 0) f in omega (arith, e))
    where
      least : (a b : ℕ) → min a b ≤ b
      least a b = grind (arith, nat_tests)

  pub back-le : (upto : ℕ) (rs : List Run) → reached_back test upto rs ≤ visible rs
  back-le upto [] = omega arith
  back-le upto (r ∷ rs) =
      let later = reached_back test (upto - own r) rs in
      let i = back-le (upto - own r) rs in
      let m = mine-le upto r in
      split (nat_lt 0 later)
      (λ t. let e = later_yes (own r) later (mine upto r) (ltb-true 0 later t) in omega (arith, e, i))
      (λ f. let e = later_no (own r) later (mine upto r) (let z : later ≡ 0 = omega (arith, ltb-false 0 later f) in z) in omega (arith, e, m))

  mine-none : (upto : ℕ) (r : Run) → test r.state ≡ false → mine upto r ≡ zero
  mine-none upto r e = ap (λ b. if b then min upto (own r) else 0) e

  pub mine-gone : (upto : ℕ) (r : Run) → r.gone ≡ true → mine upto r ≡ zero
  mine-gone upto r e = let z : own r ≡ zero = (rw e refl) in let m = mine-le upto r in omega (arith, z, m)

  -- runs in none of whose states it is
  pub back-none : (upto : ℕ) (rs : List Run) → AllByRecursion (λ s. test s ≡ false) (shown_states rs) → reached_back test upto rs ≡ 0
  back-none upto [] all = refl
  back-none upto (r ∷ rs) all = split r.gone
      (λ e. later_no (own r) (reached_back test (upto - own r) rs) (mine upto r) (back-none (upto - own r) rs (subst (AllByRecursion (λ s. test s ≡ false)) (shown_gone r rs e) all)) ∙ mine-gone upto r e)
      (λ e. let both = subst (AllByRecursion (λ s. test s ≡ false)) (shown_here r rs e) all in
      later_no (own r) (reached_back test (upto - own r) rs) (mine upto r) (back-none (upto - own r) rs both.1) ∙ mine-none upto r both.0)

  mine-zero : (r : Run) → mine 0 r ≡ zero
  mine-zero r = split (test r.state) (λ t. ap (λ b. if b then min 0 (own r) else 0) t ∙ least (own r)) (λ f. mine-none 0 r f)
    where
      least : (b : ℕ) → min 0 b ≡ zero
      least b = grind (arith, nat_tests)

  -- no place is before the first
  pub back-zero : (rs : List Run) → reached_back test 0 rs ≡ 0
  back-zero [] = refl
  back-zero (r ∷ rs) =
      let z : 0 - own r ≡ 0 = omega arith in
      let later = ap (λ n. reached_back test n rs) z ∙ back-zero rs in
      later_no (own r) (reached_back test (0 - own r) rs) (mine 0 r) later ∙ mine-zero r

  -- of two parts
  pub found_behind : (upto : ℕ) (a b : List Run) (inside : ℕ) → inside ≡ reached_back test (upto - visible a) b → 0 < inside → reached_back test upto (a ++ b) ≡ visible a + inside
  found_behind upto a b inside e l = back-append upto a b ∙ later_yes (visible a) (reached_back test (upto - visible a) b) (reached_back test upto a) (omega (arith, e, l)) ∙ ap (λ n. visible a + n) (sym e)

  pub none_behind : (upto : ℕ) (a b : List Run) (inside : ℕ) → inside ≡ reached_back test (upto - visible a) b → inside ≡ 0 → reached_back test upto (a ++ b) ≡ reached_back test upto a
  none_behind upto a b inside e z = back-append upto a b ∙ later_no (visible a) (reached_back test (upto - visible a) b) (reached_back test upto a) (sym e ∙ z)

-- an entry more
pub more_below : (m : Memory) (k : ℕ) (es : List Entry) (i : ℕ) (e : Entry) → i < length es → e ≡ get_or es i e → all_below m k (take (i + 1) es) ≡ all_below m k (take i es) ++ below m k e
more_below m k es i e lt here =
    ap (all_below m k) (take_more es i e lt) ∙ flat_map-append (below m k) (take i es) (get_or es i e ∷ [])
    ∙ ap (λ x. all_below m k (take i es) ++ (below m k x ++ [])) (sym here)
    ∙ ap (λ rs. all_below m k (take i es) ++ rs) (append-nil (below m k e))
