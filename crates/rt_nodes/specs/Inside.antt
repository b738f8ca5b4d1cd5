-- How a `NodeMem` keeps its nodes. No public clause cites this module.
use Rattle.std.specs.Prelude.{◌≡◌, ℕ, ◌+◌, ◌≤◌, ◌^◌, List, [], ◌∷◌, length, vec_len, vec_capacity}
use Rattle.std.specs.Global.{Vec}
use Rattle.rt_nodes.specs.Rows.{Row, AreEmpty}

-- a row with room for n entries, and with no more
pub record IsRow {E : Type 0} (n : ℕ) (r : Row E) : Type 0 where
  pub room : r.capacity ≡ n
  pub fits : length r.items ≤ n

abbrev pub AreRows : {E : Type 0} → ℕ → List (Row E) → Type 0
AreRows n [] = Unit {0}
AreRows n (r ∷ rs) = IsRow n r × AreRows n rs

-- each node has a header and a row; the spare rows find room among them, and ids
pub record IsMemory {H E : Type 0} (cap : ℕ) (heads : Vec H) (rows spare : Vec (Row E)) : Type 0 where
  pub same : vec_len rows ≡ vec_len heads
  pub heads_room : vec_len heads + vec_len spare ≤ vec_capacity heads
  pub rows_room : vec_len rows + vec_len spare ≤ vec_capacity rows
  pub named : vec_len heads + vec_len spare ≤ 2 ^ 32
  pub rows_fit : AreRows cap rows.items
  pub spare_empty : AreEmpty cap spare.items
