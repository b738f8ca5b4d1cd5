-- The cells with some stamps, of cells of which something is known.
use Rattle.std.proofs.Common.{◌≡◌, ◌∙◌, ℕ, suc, ◌-◌, ◌≤◌, Bool, true, false, List, [], ◌∷◌, cond, length, map, refl, sym, ap, subst, arith, Some}
use Rattle.std.specs.Prelude.{option_map, slice_get}
use Rattle.std.proofs.lemmas.List.Elements.{All-cons, All-tail}
use Rattle.rt_stamps.specs.declared.stamp.Stamp.{Stamp}
use Rattle.rt_stamps.specs.declared.stamp.TheConstants.{FINAL}
use Rattle.rt_store.specs.declared.cell.Cell.{Cell}
use Rattle.rt_store.specs.Cells.{AreDistinct, EndsFinal, final_cell, map_state, stamps_of}
use Rattle.rt_store.proofs.Distinct.{distinct_more, first_apart, others_distinct, split}
use Rattle.rt_revert.specs.Plans.{AreUpTo, IsUpTo}
use Rattle.rt_revert.specs.Portions.{only}
use Rattle.rt_revert.proofs.PortionLaws.{only_has, only_none, only_not}

pub only_shown : {S T : Type 0} (has : Stamp → Bool) (f : S → T) (cells : List (Cell S)) → only has (map (map_state f) cells) ≡ map (map_state f) (only has cells)
only_shown has f [] = refl
only_shown has f (c ∷ cs) = ap (λ l. cond (has c.stamp) (map_state f c ∷ l) l) (only_shown has f cs) ∙ by (has c.stamp)
  where
    by : (b : Bool) → cond b (map_state f c ∷ map (map_state f) (only has cs)) (map (map_state f) (only has cs)) ≡ map (map_state f) (cond b (c ∷ only has cs) (only has cs))
    by true = refl
    by false = refl

pub only_distinct : {T : Type 0} (has : Stamp → Bool) (cells : List (Cell T)) → AreDistinct cells → AreDistinct (only has cells)
only_distinct has [] d = d
only_distinct has (c ∷ cs) d =
    let rest = only_distinct has cs (others_distinct c.stamp (stamps_of cs) d) in
    split (has c.stamp)
    (λ e. subst AreDistinct (sym (only_has has c cs e)) (distinct_more c.stamp (stamps_of (only has cs)) (only_none has cs c.stamp (first_apart c.stamp (stamps_of cs) d)) rest))
    (λ e. subst AreDistinct (sym (only_not has c cs e)) rest)

pub only_fewer : {T : Type 0} (has : Stamp → Bool) (cells : List (Cell T)) → length (only has cells) ≤ length cells
only_fewer has [] = omega arith
only_fewer {T} has (c ∷ cs) = by (has c.stamp) (only_fewer has cs)
  where
    by : (b : Bool) → length (only has cs) ≤ length cs → length (cond b (c ∷ only has cs) (only has cs)) ≤ suc (length cs)
    by true h = omega (arith, h)
    by false h = omega (arith, h)

pub only_up_to : {T : Type 0} (has : Stamp → Bool) (count : ℕ) (cells : List (Cell T)) → AreUpTo count cells → AreUpTo count (only has cells)
only_up_to has count [] h = h
only_up_to {T} has count (c ∷ cs) h =
    let P : Cell T → Type 0 = λ cell. IsUpTo count cell.stamp in
    let rest = only_up_to has count cs (All-tail P c cs h) in
    split (has c.stamp)
    (λ e. subst (AreUpTo count) (sym (only_has has c cs e)) (All-cons P c (only has cs) (h 0 c (omega arith)) rest))
    (λ e. subst (AreUpTo count) (sym (only_not has c cs e)) rest)

-- the final newline is still the last
final_first : {T : Type 0} (c : Cell T) → EndsFinal (c ∷ []) → c.stamp ≡ FINAL
final_first {T} c h =
    let same : map_state (λ _. final_cell.state) c ≡ final_cell = cc h in
    ap (λ (x : Cell ℕ). x.stamp) same

final_later : {T : Type 0} (c d : Cell T) (cs : List (Cell T)) → EndsFinal (c ∷ d ∷ cs) ≡ EndsFinal (d ∷ cs)
final_later {T} c d cs =
    let n : length (c ∷ d ∷ cs) - 1 ≡ suc (length (d ∷ cs) - 1) = omega arith in
    ap (λ k. option_map (map_state (λ _. final_cell.state)) (slice_get (c ∷ d ∷ cs) k) ≡ Some final_cell) n

some_left : {T : Type 0} (has : Stamp → Bool) (d : Cell T) (cs : List (Cell T)) → has FINAL ≡ true → EndsFinal (d ∷ cs) → (x : Cell T) × (xs : List (Cell T)) × (only has (d ∷ cs) ≡ x ∷ xs)
some_left has d [] f h = (d, [], only_has has d [] (ap has (final_first d h) ∙ f))
some_left has d (e ∷ cs) f h = split (has d.stamp)
    (λ k. (d, only has (e ∷ cs), only_has has d (e ∷ cs) k))
    (λ k. let q = some_left has e cs f (subst (λ (X : Type 0). X) (final_later d e cs) h) in (q.0, q.1, only_not has d (e ∷ cs) k ∙ q.2))

pub only_final : {T : Type 0} (has : Stamp → Bool) (cells : List (Cell T)) → has FINAL ≡ true → EndsFinal cells → EndsFinal (only has cells)
only_final has [] f h = h
only_final has (c ∷ []) f h = subst EndsFinal (sym (only_has has c [] (ap has (final_first c h) ∙ f))) h
only_final {T} has (c ∷ d ∷ cs) f h =
    let tail : EndsFinal (d ∷ cs) = subst (λ (X : Type 0). X) (final_later c d cs) h in
    let rest : EndsFinal (only has (d ∷ cs)) = only_final has (d ∷ cs) f tail in
    split (has c.stamp)
    (λ e.
    let q = some_left has d cs f tail in
    subst EndsFinal (sym (only_has has c (d ∷ cs) e ∙ ap (λ l. c ∷ l) q.2))
    (subst (λ (X : Type 0). X) (sym (final_later c q.0 q.1)) (subst EndsFinal q.2 rest)))
    (λ e. subst EndsFinal (sym (only_not has c (d ∷ cs) e)) rest)
