-- What the crate sees of a block. No public clause cites this module.
use Rattle.std.specs.Prelude.{ℕ, ◌≡◌, List, [], ◌∷◌, ◌++◌, take, drop, slice_index_or, slice_set, refl}
use Rattle.std.specs.Coded.{Coded, code_by, coded×, coded_ℕ, coded_list}

-- entries, in room for so many
pub record Row (E : Type 0) : Type 0 where
  pub items : List E
  pub capacity : ℕ

module _ {E : Type 0} where
  abbrev pub row : List E → ℕ → Row E
  row es n = record { items = es; capacity = n }

  abbrev pub row_items : Row E → List E
  row_items r = r.items

  abbrev pub row_at : List (Row E) → ℕ → Row E
  row_at rs i = slice_index_or rs i (row [] 0)

  -- rs with the entries es in the row at i
  abbrev pub with_items : List (Row E) → ℕ → List E → List (Row E)
  with_items rs i es = slice_set rs i (row es (row_at rs i).capacity)

  -- the entries of the row at a after the first k have gone to the end of the row at b
  abbrev pub with_tail_moved : List (Row E) → ℕ → ℕ → ℕ → List (Row E)
  with_tail_moved rs a k b = with_items (with_items rs a (take k (row_at rs a).items)) b ((row_at rs b).items ++ drop k (row_at rs a).items)

  -- rows without entries, each with room for n
  abbrev pub AreEmpty : ℕ → List (Row E) → Type 0
  AreEmpty n [] = Unit {0}
  AreEmpty n (r ∷ rs) = (r ≡ row [] n) × AreEmpty n rs

abbrev pub row_code : {E : Type 0} → Coded E → Coded (Row E)
row_code {E} c = code_by (List E × ℕ) (coded× (coded_list c) coded_ℕ) (λ r. (r.items, r.capacity)) (λ p. row p.0 p.1) (λ _. refl)
