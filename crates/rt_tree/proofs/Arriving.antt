-- The places of characters that are reached.
use Rattle.std.proofs.Common.{◌≡◌, ℕ, zero, ◌+◌, ◌-◌, ◌<◌, ◌≤◌, Bool, true, false, List, [], ◌∷◌, ◌++◌, length, drop, refl, sym, ap, ◌∙◌, arith, Option, Some, None, option_map, if◌then◌else◌}
use Rattle.std.specs.Prelude.{nat_lt, position}
use Rattle.std.specs.List.{AllByRecursion}
use Rattle.std.proofs.Math.Seq.{drop-append-add}
use Rattle.std.proofs.lemmas.Bool.{le-ltb, lt-ltb, ltb-false, ltb-true}
use Rattle.std.proofs.lemmas.Bool.Decides.{nat_tests}
use Rattle.std.proofs.lemmas.List.{drop-append-le, length-drop}
use Rattle.rt_store.specs.declared.cell.Cell.{Cell}
use Rattle.rt_store.specs.Cells.{visible_of}
use Rattle.rt_store.specs.Tagged.{next_place}
use Rattle.rt_store.proofs.Distinct.{split}
use Rattle.rt_store.proofs.Nearest.{next_here, next_none}
use Rattle.rt_tree.specs.declared.node.Run.{Run}
use Rattle.rt_tree.specs.Reaches.{is_here, reached}
use Rattle.rt_tree.specs.Runs.{IsRun, cells_of_runs, run_characters, run_cells}
use Rattle.rt_tree.proofs.CellLaws.{gone_run, run_length, shown_run, visible-append}
use Rattle.rt_tree.proofs.Reaching.{goes_on, here, none_gone, none_passes, own, visible}
use Rattle.rt_tree.proofs.Tagging.{all_as, all_drop, next_past, row_states, there_is}

-- a place, if it is one of so many
abbrev pub place_within : ℕ → ℕ → Option ℕ
place_within x v = if nat_lt x v then Some x else None

pub is_within : (x v : ℕ) → x < v → place_within x v ≡ Some x
is_within x v l = ap (λ b. if b then Some x else None) (lt-ltb x v l)

pub is_not : (x v : ℕ) → v ≤ x → place_within x v ≡ None
is_not x v l = ap (λ b. if b then Some x else None) (le-ltb x v l)

further : (n x v : ℕ) → option_map (λ k. n + k) (place_within x v) ≡ place_within (n + x) (n + v)
further n x v = split (nat_lt x v)
    (λ t. let l : x < v = ltb-true x v t in ap (option_map (λ k. n + k)) (is_within x v l) ∙ sym (is_within (n + x) (n + v) (omega (arith, l))))
    (λ f. let l : v ≤ x = ltb-false x v f in ap (option_map (λ k. n + k)) (is_not x v l) ∙ sym (is_not (n + x) (n + v) (omega (arith, l))))

two_steps : (n k : ℕ) (o : Option ℕ) → option_map (λ x. n + k + x) o ≡ option_map (λ x. n + x) (option_map (λ x. k + x) o)
two_steps n k None = refl
two_steps n k (Some x) = ap Some (omega arith)

module _ (text : List ℕ) (f : ℕ → Bool) where
  abbrev pub passes : Cell ℕ → Bool
  passes cell = f cell.state

  abbrev pub shown_cells : List Run → List (Cell ℕ)
  shown_cells rs = visible_of (cells_of_runs text rs)

  -- behind other characters
  shifted : (a b : List (Cell ℕ)) (k : ℕ) → next_place passes (a ++ b) (length a + k) ≡ option_map (λ x. length a + x) (next_place passes b k)
  shifted a b k = ap (λ l. option_map (λ x. length a + k + x) (position passes l)) (drop-append-add a b k) ∙ two_steps (length a) k (position passes (drop k b))

  pub gone_cells : (r : Run) (rs : List Run) → r.gone ≡ true → shown_cells (r ∷ rs) ≡ shown_cells rs
  gone_cells r rs g = visible-append (run_cells text r) (cells_of_runs text rs) ∙ ap (λ l. l ++ shown_cells rs) (gone_run text r g)

  pub run_and_more : (r : Run) (rs : List Run) → r.gone ≡ false → shown_cells (r ∷ rs) ≡ run_cells text r ++ shown_cells rs
  run_and_more r rs s = visible-append (run_cells text r) (cells_of_runs text rs) ∙ ap (λ l. l ++ shown_cells rs) (shown_run text r s)

  pub own_gone : (r : Run) → r.gone ≡ true → own r ≡ zero
  own_gone r g = rw g refl

  pub own_shown : (r : Run) → r.gone ≡ false → own r ≡ r.len
  own_shown r s = rw s refl

  pub states_of : (r : Run) → AllByRecursion (λ (c : Cell ℕ). c.state ≡ r.state) (run_cells text r)
  states_of r = row_states r.gone r.first r.site r.state (run_characters text r)

  is_there : (place : ℕ) (r : Run) → place < own r → f r.state ≡ true → is_here f place r ≡ true
  is_there place r l e = grind (arith, nat_tests)

  -- past a run, where the place isn't in it or no character of it passes
  past : (r : Run) (rs : List Run) (place : ℕ) → IsRun text r → r.gone ≡ false → is_here f place r ≡ false
      → next_place passes (shown_cells rs) (place - own r) ≡ place_within (reached f (place - own r) rs) (visible rs)
      → next_place passes (shown_cells (r ∷ rs)) place ≡ next_place passes (run_cells text r ++ shown_cells rs) (length (run_cells text r) + (place - own r))
      → next_place passes (shown_cells (r ∷ rs)) place ≡ place_within (reached f place (r ∷ rs)) (visible (r ∷ rs))
  past r rs place is s off rest step =
      let long : length (run_cells text r) ≡ own r = run_length text r is ∙ sym (own_shown r s) in
      step ∙ shifted (run_cells text r) (shown_cells rs) (place - own r)
      ∙ ap (option_map (λ x. length (run_cells text r) + x)) rest
      ∙ further (length (run_cells text r)) (reached f (place - own r) rs) (visible rs)
      ∙ ap (λ n. place_within (n + reached f (place - own r) rs) (n + visible rs)) long
      ∙ ap (λ x. place_within x (visible (r ∷ rs))) (sym (goes_on f place r rs off))

  -- the place that is reached is the next one
  pub next_is : (rs : List Run) (place : ℕ) → AllByRecursion (IsRun text) rs → next_place passes (shown_cells rs) place ≡ place_within (reached f place rs) (visible rs)
  next_is [] place all = next_none passes [] 0 place refl (omega arith)
  next_is (r ∷ rs) place all = split r.gone
      (λ g.
      let z : own r ≡ zero = own_gone r g in
      let same : place ≡ place - own r = omega (arith, z) in
      let go = goes_on f place r rs (none_gone f place r g) in
      let to : reached f place rs ≡ reached f place (r ∷ rs) = ap (λ n. reached f n rs) same ∙ (let e : reached f (place - own r) rs ≡ reached f place (r ∷ rs) = omega (arith, go, z) in e) in
      let many : visible rs ≡ visible (r ∷ rs) = omega (arith, z) in
      ap (λ l. next_place passes l place) (gone_cells r rs g) ∙ next_is rs place all.1 ∙ (λ i. place_within (to i) (many i)))
      (λ s.
      let mine = run_cells text r in
      let more = shown_cells rs in
      let n : own r ≡ r.len = own_shown r s in
      let long : length mine ≡ own r = run_length text r all.0 ∙ sym n in
      let cells = run_and_more r rs s in
      split (nat_lt place (own r))
      (λ t.
      let less : place < own r = ltb-true place (own r) t in
      let within : place < length mine = omega (arith, less, long) in
      let first = there_is (λ (c : Cell ℕ). c.state ≡ r.state) mine place within (states_of r) in
      let front = drop-append-le place mine more (omega (arith, within)) in
      split (f r.state)
      (λ y.
      let h = here f place r rs (is_there place r less y) in
      let low : place < visible (r ∷ rs) = omega (arith, less) in
      next_here passes (shown_cells (r ∷ rs)) place first.cell (first.rest ++ more) (ap (drop place) cells ∙ front ∙ ap (λ l. l ++ more) first.is) (ap f first.has ∙ y)
      ∙ sym (ap (λ x. place_within x (visible (r ∷ rs))) h ∙ is_within place (visible (r ∷ rs)) low))
      (λ no_one.
      let none = all_as (λ (c : Cell ℕ). c.state ≡ r.state) (λ (c : Cell ℕ). passes c ≡ false) (λ c e. ap f e ∙ no_one) (drop place mine) (all_drop (λ (c : Cell ℕ). c.state ≡ r.state) place mine (states_of r)) in
      let l = length-drop place mine in
      let at : place + length (drop place mine) ≡ length mine + (place - own r) = omega (arith, l, within, long) in
      past r rs place all.0 s (none_passes f place r no_one) (next_is rs (place - own r) all.1)
      (ap (λ cs. next_place passes cs place) cells ∙ next_past passes (mine ++ more) (drop place mine) more place (length mine + (place - own r)) front at none)))
      (λ b.
      let high : own r ≤ place = ltb-false place (own r) b in
      let at : place ≡ length mine + (place - own r) = omega (arith, high, long) in
      past r rs place all.0 s (outside place r high) (next_is rs (place - own r) all.1)
      (ap (λ cs. next_place passes cs place) cells ∙ ap (next_place passes (mine ++ more)) at)))
    where
      outside : (place : ℕ) (r : Run) → own r ≤ place → is_here f place r ≡ false
      outside place r le = grind (arith, nat_tests)
