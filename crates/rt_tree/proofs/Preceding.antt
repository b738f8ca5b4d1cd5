-- The places of characters that are reached from behind.
use Rattle.std.proofs.Common.{◌≡◌, ℕ, zero, suc, ◌+◌, ◌-◌, ◌<◌, ◌≤◌, Bool, true, false, List, [], ◌∷◌, ◌++◌, length, take, refl, sym, ap, ◌∙◌, arith, Option, Some, None, option_map, if◌then◌else◌}
use Rattle.std.specs.Prelude.{min, nat_lt}
use Rattle.std.specs.List.{AllByRecursion}
use Rattle.std.proofs.lemmas.Bool.{ltb-false, ltb-true}
use Rattle.std.proofs.lemmas.List.{length-take, take_all}
use Rattle.rt_store.specs.declared.cell.Cell.{Cell}
use Rattle.rt_store.specs.Tagged.{last_place, last_with, previous_place}
use Rattle.rt_store.proofs.Distinct.{split}
use Rattle.rt_tags.specs.Borders.{either}
use Rattle.rt_tree.specs.declared.node.Run.{Run}
use Rattle.rt_tree.specs.Reaches.{reached_back}
use Rattle.rt_tree.specs.Runs.{IsRun, run_cells}
use Rattle.rt_tree.proofs.Arriving.{gone_cells, own_gone, own_shown, passes, run_and_more, shown_cells, states_of}
use Rattle.rt_tree.proofs.CellLaws.{run_length}
use Rattle.rt_tree.proofs.Reaching.{own}
use Rattle.rt_tree.proofs.Returning.{back-zero, later_no, later_yes, mine, mine-gone}
use Rattle.rt_tree.proofs.Tagging.{all_as, all_take, none_last}

-- the place before, if there is one
abbrev pub one_less : ℕ → Option ℕ
one_less zero = None
one_less (suc n) = Some n

pub less_one : (n : ℕ) → 0 < n → one_less n ≡ Some (n - 1)
less_one zero l = absurd (omega (arith, l))
less_one (suc n) l = ap Some (omega arith)

pub no_less : (n : ℕ) → n ≤ 0 → one_less n ≡ None
no_less zero l = refl
no_less (suc n) l = absurd (omega (arith, l))

-- LISTS OF CHARACTERS

take_both : {A : Type 0} (a b : List A) (n : ℕ) → take n (a ++ b) ≡ take n a ++ take (n - length a) b
take_both [] b zero = let z : 0 ≡ 0 - 0 = omega arith in ap (λ i. take i b) z
take_both [] b (suc n) = let z : suc n ≡ suc n - 0 = omega arith in ap (λ i. take i b) z
take_both (x ∷ a) b zero = let z : 0 ≡ 0 - suc (length a) = omega arith in ap (λ i. take i b) z
take_both (x ∷ a) b (suc n) = let z : n - length a ≡ suc n - suc (length a) = omega arith in ap (λ l. x ∷ l) (take_both a b n) ∙ ap (λ i. x ∷ (take n a ++ take i b)) z

module _ (test : Cell ℕ → Bool) where
  -- the last place in what stands behind, if there is one, or else in what is in front
  last_append : (a b : List (Cell ℕ)) → last_place test (a ++ b) ≡ either (option_map (λ k. length a + k) (last_place test b)) (last_place test a)
  last_append [] b = none_in_front (last_place test b)
    where
      none_in_front : (o : Option ℕ) → o ≡ either (option_map (λ k. 0 + k) o) None
      none_in_front None = refl
      none_in_front (Some x) = ap Some (omega arith)
  last_append (c ∷ a) b = ap (last_with (test c)) (last_append a b) ∙ one_more (length a) (test c) (last_place test b) (last_place test a)
    where
      one_more : (n : ℕ) (t : Bool) (o p : Option ℕ) → last_with t (either (option_map (λ k. n + k) o) p) ≡ either (option_map (λ k. suc n + k) o) (last_with t p)
      one_more n t None p = refl
      one_more n t (Some x) p = ap Some (omega arith)

  all_last : (cs : List (Cell ℕ)) → AllByRecursion (λ c. test c ≡ true) cs → last_place test cs ≡ one_less (length cs)
  all_last [] all = refl
  all_last (c ∷ []) all = ap (λ t. last_with t None) all.0
  all_last (c ∷ d ∷ cs) all = (λ i. last_with (all.0 i) (all_last (d ∷ cs) all.1 i)) ∙ ap Some (let e : length cs + 1 ≡ suc (length cs) = omega arith in e)

-- behind, or in front
put : (n later front : ℕ) → 0 < later → either (option_map (λ k. n + k) (one_less later)) (one_less front) ≡ one_less (n + later)
put n zero front l = absurd (omega (arith, l))
put n (suc later) front l = let e : suc (n + later) ≡ n + suc later = omega arith in ap one_less e

-- THE CHARACTERS OF RUNS

module _ (text : List ℕ) (f : ℕ → Bool) where
  own_part : (r : Run) (place : ℕ) → IsRun text r → r.gone ≡ false → last_place (passes text f) (take place (run_cells text r)) ≡ one_less (mine f place r)
  own_part r place is s =
      let cells = run_cells text r in
      let long : length cells ≡ own r = run_length text r is ∙ sym (own_shown text f r s) in
      let Same : Cell ℕ → Type 0 = λ c. c.state ≡ r.state in
      let states = all_take Same place cells (states_of text f r) in
      split (f r.state)
      (λ y. all_last (passes text f) (take place cells) (all_as Same (λ (c : Cell ℕ). passes text f c ≡ true) (λ c e. ap f e ∙ y) (take place cells) states)
      ∙ ap one_less (length-take place cells ∙ ap (min place) long ∙ sym (ap (λ b. if b then min place (own r) else 0) y)))
      (λ n. none_last (passes text f) (take place cells) (all_as Same (λ (c : Cell ℕ). passes text f c ≡ false) (λ c e. ap f e ∙ n) (take place cells) states)
      ∙ ap one_less (sym (ap (λ b. if b then min place (own r) else 0) n)))

  past_gone : (r : Run) (rs : List Run) (place : ℕ) → r.gone ≡ true → reached_back f place rs ≡ reached_back f place (r ∷ rs)
  past_gone r rs place g =
      let z : own r ≡ zero = own_gone text f r g in
      let later = reached_back f (place - own r) rs in
      let e : place ≡ place - own r = omega (arith, z) in
      let same : reached_back f place rs ≡ later = ap (λ n. reached_back f n rs) e in
      split (nat_lt 0 later)
      (λ t. let y = later_yes (own r) later (mine f place r) (ltb-true 0 later t) in omega (arith, same, y, z))
      (λ n. let none : later ≡ 0 = omega (arith, ltb-false 0 later n) in let y = later_no (own r) later (mine f place r) none in let m = mine-gone f place r g in omega (arith, same, y, none, m))

  -- the place that is reached is one more than the last one before
  pub back_is : (rs : List Run) (place : ℕ) → AllByRecursion (IsRun text) rs → previous_place (passes text f) (shown_cells text f rs) place ≡ one_less (reached_back f place rs)
  back_is [] zero all = refl
  back_is [] (suc place) all = refl
  back_is (r ∷ rs) place all = split r.gone
      (λ g. ap (λ l. previous_place (passes text f) l place) (gone_cells text f r rs g) ∙ back_is rs place all.1 ∙ ap one_less (past_gone r rs place g))
      (λ s.
      let cells = run_cells text r in
      let more = shown_cells text f rs in
      let later = reached_back f (place - own r) rs in
      let front = mine f place r in
      let long : length cells ≡ own r = run_length text r all.0 ∙ sym (own_shown text f r s) in
      let behind : last_place (passes text f) (take (place - length cells) more) ≡ one_less later = ap (λ n. last_place (passes text f) (take (place - n) more)) long ∙ back_is rs (place - own r) all.1 in
      let step : previous_place (passes text f) (shown_cells text f (r ∷ rs)) place ≡ either (option_map (λ k. length (take place cells) + k) (one_less later)) (one_less front) =
      ap (λ l. last_place (passes text f) (take place l)) (run_and_more text f r rs s)
      ∙ ap (last_place (passes text f)) (take_both cells more place)
      ∙ last_append (passes text f) (take place cells) (take (place - length cells) more)
      ∙ (λ i. either (option_map (λ k. length (take place cells) + k) (behind i)) (own_part r place all.0 s i)) in
      split (nat_lt 0 later)
      (λ t.
      let l : 0 < later = ltb-true 0 later t in
      let high : own r < place = split (nat_lt (own r) place) (λ y. ltb-true (own r) place y)
      (λ n. let low : place - own r ≡ 0 = omega (arith, ltb-false (own r) place n) in let z : later ≡ 0 = ap (λ k. reached_back f k rs) low ∙ back-zero f rs in absurd (omega (arith, z, l))) in
      let all_of : length (take place cells) ≡ own r = ap length (take_all place cells (omega (arith, long, high))) ∙ long in
      step ∙ ap (λ n. either (option_map (λ k. n + k) (one_less later)) (one_less front)) all_of ∙ put (own r) later front l ∙ ap one_less (sym (later_yes (own r) later front l)))
      (λ n.
      let z : later ≡ 0 = omega (arith, ltb-false 0 later n) in
      step ∙ ap (λ x. either (option_map (λ k. length (take place cells) + k) (one_less x)) (one_less front)) z ∙ ap one_less (sym (later_no (own r) later front z))))
