-- Operations that come into rows: the places of the others stay.
use Rattle.std.proofs.Common.{◌≡◌, ℕ, zero, suc, ◌+◌, ◌<◌, ◌≤◌, refl, sym, ap, ◌∙◌, subst, arith, Bool, true, false, nat_lt, ◌⊎◌, inl, inr, List, [], ◌∷◌, ◌++◌, length, get_or, length-append}
use Rattle.std.proofs.lemmas.Bool.Decides.{nat_tests}
use Rattle.std.proofs.Math.ListN.{set, get_or-append}
use Rattle.std.proofs.Math.Seq.{get_or-append_seam}
use Rattle.std.proofs.lemmas.List.{map-append}
use Rattle.rt_ops.specs.Operations.{Name, Operation}
use Rattle.rt_rows.specs.declared.stored.Stored.{Stored}
use Rattle.rt_rows.specs.Places.{nothing, op_at, IsOnlyNew, KeepsPlaces, StandsAt}
use Rattle.rt_rows.specs.Stored.{operations_stored, rows_in}

module _ (lists : List (List Name)) where
  -- the rows of what is kept

  pub row_at : (kept : List Stored) (i : ℕ) (d : Stored) → i < length kept → get_or (rows_in lists kept) i [] ≡ operations_stored lists (get_or kept i d)
  row_at [] i d h = absurd (omega arith)
  row_at (s ∷ kept) zero d h = refl
  row_at (s ∷ kept) (suc i) d h = row_at kept i d (omega arith)

  pub row_past : (kept : List Stored) (i : ℕ) → length kept ≤ i → get_or (rows_in lists kept) i [] ≡ []
  row_past [] i h = refl
  row_past (s ∷ kept) zero h = absurd (omega arith)
  row_past (s ∷ kept) (suc i) h = row_past kept i (omega arith)

  pub within_rows : (kept : List Stored) (row at : ℕ) → at < length (get_or (rows_in lists kept) row []) → row < length kept
  within_rows [] row at h = absurd (omega (arith, h))
  within_rows (s ∷ kept) zero at h = omega arith
  within_rows (s ∷ kept) (suc row) at h = let r = within_rows kept row at h in omega (arith, r)

  pub rows_length : (kept : List Stored) → length (rows_in lists kept) ≡ length kept
  rows_length [] = refl
  rows_length (s ∷ kept) = ap suc (rows_length kept)

  rows_set : (kept : List Stored) (k : ℕ) (now : Stored) → rows_in lists (set kept k now) ≡ set (rows_in lists kept) k (operations_stored lists now)
  rows_set [] k now = refl
  rows_set (s ∷ kept) zero now = refl
  rows_set (s ∷ kept) (suc k) now = ap (λ rs. operations_stored lists s ∷ rs) (rows_set kept k now)

  -- a row with one operation more

  longer_keeps : (rs : List (List Operation)) (k row at : ℕ) (op : Operation) → k < length rs → at < length (get_or rs row [])
      → (at < length (get_or (set rs k (get_or rs k [] ++ op ∷ [])) row []))
      × (get_or (get_or (set rs k (get_or rs k [] ++ op ∷ [])) row []) at nothing ≡ get_or (get_or rs row []) at nothing)
  longer_keeps [] k row at op h l = absurd (omega arith)
  longer_keeps (xs ∷ rs) zero zero at op h l = let n = length-append xs (op ∷ []) in (omega (arith, n, l), get_or-append xs (op ∷ []) nothing at l)
  longer_keeps (xs ∷ rs) zero (suc row) at op h l = (l, refl)
  longer_keeps (xs ∷ rs) (suc k) zero at op h l = (l, refl)
  longer_keeps (xs ∷ rs) (suc k) (suc row) at op h l = longer_keeps rs k row at op (omega arith) l

  longer_has : (rs : List (List Operation)) (k : ℕ) (op : Operation) → k < length rs
      → (length (get_or rs k []) < length (get_or (set rs k (get_or rs k [] ++ op ∷ [])) k []))
      × (get_or (get_or (set rs k (get_or rs k [] ++ op ∷ [])) k []) (length (get_or rs k [])) nothing ≡ op)
  longer_has [] k op h = absurd (omega arith)
  longer_has (xs ∷ rs) zero op h = let n = length-append xs (op ∷ []) in (omega (arith, n), get_or-append_seam xs op [] nothing)
  longer_has (xs ∷ rs) (suc k) op h = longer_has rs k op (omega arith)

  longer : (kept : List Stored) (k : ℕ) (was now : Stored) (op : Operation) → k < length kept → was ≡ get_or kept k was → operations_stored lists now ≡ operations_stored lists was ++ op ∷ []
      → rows_in lists (set kept k now) ≡ set (rows_in lists kept) k (get_or (rows_in lists kept) k [] ++ op ∷ [])
  longer kept k was now op h w e =
      rows_set kept k now ∙ ap (set (rows_in lists kept) k) (e ∙ ap (λ s. operations_stored lists s ++ op ∷ []) w ∙ ap (λ xs. xs ++ op ∷ []) (sym (row_at kept k was h)))

  pub taken_keeps : (kept : List Stored) (k : ℕ) (was now : Stored) (op : Operation) → k < length kept → was ≡ get_or kept k was → operations_stored lists now ≡ operations_stored lists was ++ op ∷ []
      → KeepsPlaces (rows_in lists kept) (rows_in lists (set kept k now))
  taken_keeps kept k was now op h w e = λ place l.
      let rs = rows_in lists kept in
      let n = rows_length kept in
      subst (λ news. StandsAt news (op_at rs place) place) (sym (longer kept k was now op h w e)) (longer_keeps rs k place.row place.at op (omega (arith, n, h)) l)

  pub taken_has : (kept : List Stored) (k at : ℕ) (was now : Stored) (op : Operation) → k < length kept → was ≡ get_or kept k was → operations_stored lists now ≡ operations_stored lists was ++ op ∷ []
      → at ≡ length (operations_stored lists was) → StandsAt (rows_in lists (set kept k now)) op (record { row = k; at = at })
  taken_has kept k at was now op h w e f =
      let rs = rows_in lists kept in
      let n = rows_length kept in
      let there : at ≡ length (get_or rs k []) = f ∙ ap (λ s. length (operations_stored lists s)) w ∙ ap length (sym (row_at kept k was h)) in
      subst (λ a. StandsAt (rows_in lists (set kept k now)) op (record { row = k; at = a })) (sym there)
      (subst (λ news. StandsAt news op (record { row = k; at = length (get_or rs k []) }))
      (sym (longer kept k was now op h w e)) (longer_has rs k op (omega (arith, n, h))))

  -- the place of that one alone is new

  less_or_last : (at n : ℕ) → at < n + 1 → (at < n) ⊎ (at ≡ n)
  less_or_last at n l = by (nat_lt at n) refl
    where
      by : (b : Bool) → nat_lt at n ≡ b → (at < n) ⊎ (at ≡ n)
      by true e = inl (grind (arith, nat_tests, e))
      by false e = let k : n ≤ at = grind (arith, nat_tests, e) in inr (omega (arith, k, l))

  longer_back : (rs : List (List Operation)) (k row at : ℕ) (op : Operation) → k < length rs → at < length (get_or (set rs k (get_or rs k [] ++ op ∷ [])) row [])
      → (at < length (get_or rs row [])) ⊎ ((row ≡ k) × (at ≡ length (get_or rs k [])))
  longer_back [] k row at op h l = absurd (omega (arith, h))
  longer_back (xs ∷ rs) zero zero at op h l =
      let n = length-append xs (op ∷ []) in
      elim (less_or_last at (length xs) (omega (arith, n, l))) [ inl m ↦ inl m | inr e ↦ inr (refl, e) ]
  longer_back (xs ∷ rs) zero (suc row) at op h l = inl l
  longer_back (xs ∷ rs) (suc k) zero at op h l = inl l
  longer_back (xs ∷ rs) (suc k) (suc row) at op h l = elim (longer_back rs k row at op (omega (arith, h)) l) [ inl m ↦ inl m | inr e ↦ inr (ap suc e.0, e.1) ]

  longer_one : (rs : List (List Operation)) (k : ℕ) (op : Operation) → k < length rs
      → IsOnlyNew rs (set rs k (get_or rs k [] ++ op ∷ [])) (record { row = k; at = length (get_or rs k []) })
  longer_one rs k op h = (
    (λ l. omega (arith, l)),
    (λ other l. elim (longer_back rs k other.row other.at op h l) [ inl m ↦ inl m | inr e ↦ inr (λ j. record { row = e.0 j; at = e.1 j }) ]),
  )

  pub taken_one : (kept : List Stored) (k at : ℕ) (was now : Stored) (op : Operation) → k < length kept → was ≡ get_or kept k was → operations_stored lists now ≡ operations_stored lists was ++ op ∷ []
      → at ≡ length (operations_stored lists was) → IsOnlyNew (rows_in lists kept) (rows_in lists (set kept k now)) (record { row = k; at = at })
  taken_one kept k at was now op h w e f =
      let rs = rows_in lists kept in
      let n = rows_length kept in
      let there : at ≡ length (get_or rs k []) = f ∙ ap (λ s. length (operations_stored lists s)) w ∙ ap length (sym (row_at kept k was h)) in
      subst (λ a. IsOnlyNew rs (rows_in lists (set kept k now)) (record { row = k; at = a })) (sym there)
      (subst (λ news. IsOnlyNew rs news (record { row = k; at = length (get_or rs k []) })) (sym (longer kept k was now op h w e)) (longer_one rs k op (omega (arith, n, h))))

  -- a row more

  more_keeps : (rs : List (List Operation)) (xs : List Operation) (row at : ℕ) → at < length (get_or rs row [])
      → (at < length (get_or (rs ++ xs ∷ []) row [])) × (get_or (get_or (rs ++ xs ∷ []) row []) at nothing ≡ get_or (get_or rs row []) at nothing)
  more_keeps [] xs row at l = absurd (omega (arith, l))
  more_keeps (ys ∷ rs) xs zero at l = (l, refl)
  more_keeps (ys ∷ rs) xs (suc row) at l = more_keeps rs xs row at l

  begun : (kept : List Stored) (new : Stored) (op : Operation) → operations_stored lists new ≡ op ∷ [] → rows_in lists (kept ++ new ∷ []) ≡ rows_in lists kept ++ (op ∷ []) ∷ []
  begun kept new op e = map-append (operations_stored lists) kept (new ∷ []) ∙ ap (λ xs. rows_in lists kept ++ xs ∷ []) e

  pub begun_keeps : (kept : List Stored) (new : Stored) (op : Operation) → operations_stored lists new ≡ op ∷ [] → KeepsPlaces (rows_in lists kept) (rows_in lists (kept ++ new ∷ []))
  begun_keeps kept new op e = λ place l.
      let rs = rows_in lists kept in
      subst (λ news. StandsAt news (op_at rs place) place) (sym (begun kept new op e)) (more_keeps rs (op ∷ []) place.row place.at l)

  pub begun_has : (kept : List Stored) (new : Stored) (op : Operation) → operations_stored lists new ≡ op ∷ []
      → StandsAt (rows_in lists (kept ++ new ∷ [])) op (record { row = length kept; at = 0 })
  begun_has kept new op e =
      let rs = rows_in lists kept in
      let last : get_or (rs ++ (op ∷ []) ∷ []) (length kept) [] ≡ op ∷ [] = ap (λ i. get_or (rs ++ (op ∷ []) ∷ []) i []) (sym (rows_length kept)) ∙ get_or-append_seam rs (op ∷ []) [] [] in
      subst (λ news. StandsAt news op (record { row = length kept; at = 0 })) (sym (begun kept new op e))
      (let n = ap length last in omega (arith, n), ap (λ xs. get_or xs 0 nothing) last)

  more_back : (rs : List (List Operation)) (xs : List Operation) (row at : ℕ) → at < length (get_or (rs ++ xs ∷ []) row [])
      → (at < length (get_or rs row [])) ⊎ ((row ≡ length rs) × (at < length xs))
  more_back [] xs zero at l = inr (refl, l)
  more_back [] xs (suc row) at l = absurd (omega (arith, l))
  more_back (ys ∷ rs) xs zero at l = inl l
  more_back (ys ∷ rs) xs (suc row) at l = elim (more_back rs xs row at l) [ inl m ↦ inl m | inr e ↦ inr (ap suc e.0, e.1) ]

  pub begun_one : (kept : List Stored) (new : Stored) (op : Operation) → operations_stored lists new ≡ op ∷ []
      → IsOnlyNew (rows_in lists kept) (rows_in lists (kept ++ new ∷ [])) (record { row = length kept; at = 0 })
  begun_one kept new op e =
      let rs = rows_in lists kept in
      let n = rows_length kept in
      subst (λ news. IsOnlyNew rs news (record { row = length kept; at = 0 })) (sym (begun kept new op e)) (
        (λ l. let w = within_rows kept (length kept) 0 l in omega (arith, w)),
        (λ other l. elim (more_back rs (op ∷ []) other.row other.at l) [
          | inl m ↦ inl m
          | inr m ↦ let at : other.at ≡ 0 = omega (arith, m.1) in let row : other.row ≡ length kept = m.0 ∙ n in inr (λ j. record { row = row j; at = at j })
        ]),
      )
