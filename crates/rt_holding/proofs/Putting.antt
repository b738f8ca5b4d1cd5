-- One more operation is held, or one is held no more: the others were tried as before.
use Rattle.std.proofs.Common.{◌≡◌, ◌∙◌, ℕ, Bool, true, false, inl, inr, refl, ap, arith, List, [], ◌∷◌, Option, Some, None}
use Rattle.std.specs.BTreeMap.{is_at}
use Rattle.std.specs.List.{AllByRecursion, list_all}
use Rattle.std.specs.Map.{remove_entry}
use Rattle.std.specs.Option.{IfNone, IfSome}
use Rattle.rt_ops.specs.Operations.{Operation}
use Rattle.rt_rga.proofs.Skipping.{split}
use Rattle.rt_holding.specs.declared.waits.Keys.{Keys}
use Rattle.rt_holding.specs.Kept.{HeldEntry, IsInPlace, Standing, by_stamp_and_arrival}
use Rattle.rt_holding.specs.Waits.{KeepsOtherPlaces, are_tried_at, is_place_in, is_tried_at, sleeps}
use Rattle.rt_holding.proofs.Going.{both, either, or_left, or_right, tried_less}
use Rattle.rt_holding.proofs.Standing.{this_place}
use Rattle.rt_holding.proofs.Steps.{sleeps_still}

-- none stands so late
earlier : (n : ℕ) (p : Standing) (e : HeldEntry) → p.1 ≡ n → IsInPlace n e → is_at (by_stamp_and_arrival p) e.0 ≡ false
earlier n p e i a = split (is_at (by_stamp_and_arrival p) e.0)
    (λ t. absurd (let s = ap (λ (q : Standing). q.1) (this_place p e.0 t) in let l = a.came in omega (arith, s, l, i)))
    (λ t. t)

entry_kept : (limit : ℕ) (log : List Operation) (p : Standing) (old new : Keys) (again more : List Standing) → KeepsOtherPlaces p old new → ((q : Standing) → is_place_in q again ≡ true → is_place_in q more ≡ true)
    → (q : Standing) (v : Option Operation) → is_at (by_stamp_and_arrival p) q ≡ false → is_tried_at limit log old again (q, v) ≡ true → is_tried_at limit log new more (q, v) ≡ true
entry_kept limit log p old new again more k a q None n h = refl
entry_kept limit log p old new again more k a q (Some x) n h = elim (either (is_place_in q again) (sleeps limit old log q x) h) [
  | inl i ↦ or_left (is_place_in q more) (sleeps limit new log q x) (a q i)
  | inr i ↦ or_right (is_place_in q more) (sleeps limit new log q x) (sleeps_still limit log p old new k q x n i)
]

-- where keys of a later place alone have changed, and more are looked at again
pub tried_kept : (limit : ℕ) (log : List Operation) (n : ℕ) (p : Standing) (old new : Keys) (again more : List Standing) → p.1 ≡ n → KeepsOtherPlaces p old new → ((q : Standing) → is_place_in q again ≡ true → is_place_in q more ≡ true)
    → (entries : List HeldEntry) → AllByRecursion (IsInPlace n) entries → are_tried_at limit log old again entries ≡ true → are_tried_at limit log new more entries ≡ true
tried_kept limit log n p old new again more i k a [] c h = refl
tried_kept limit log n p old new again more i k a (e ∷ entries) c h =
    let (f, r) = both (is_tried_at limit log old again e) (are_tried_at limit log old again entries) h in
    let g : is_tried_at limit log new more e ≡ true = entry_kept limit log p old new again more k a e.0 e.1 (earlier n p e i c.0) f in
    rw g (tried_kept limit log n p old new again more i k a entries c.1 r)

pub tried_away : (P : HeldEntry → Bool) (place : Option Standing) (entries less : List HeldEntry) → IfSome place (λ p. less ≡ remove_entry (is_at (by_stamp_and_arrival p)) entries) → IfNone place (less ≡ entries)
    → list_all P entries ≡ true → list_all P less ≡ true
tried_away P None entries less s n h = ap (list_all P) n ∙ h
tried_away P (Some p) entries less s n h = ap (list_all P) s ∙ tried_less P (is_at (by_stamp_and_arrival p)) entries h
