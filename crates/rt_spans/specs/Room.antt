-- How far blocks that are kept in reserve go.
use Rattle.std.specs.Prelude.{ℕ, ◌+◌, ◌-◌, ◌*◌, ◌≤◌, ◌⊎◌, List, [], ◌∷◌, vec_len}
use Rattle.rt_spans.specs.declared.block.Block.{Block}

-- By how much blocks are more than half full; the last one, where text is typed, counts whole. An entry that is put in adds at
-- most 1 to it, and a full block that becomes two takes 64 off.
abbrev pub debt : {V : Type 0} → List (Block V) → ℕ
debt [] = 0
debt (b ∷ []) = vec_len b.rest
debt (b ∷ c ∷ bs) = (vec_len b.rest - 64) + debt (c ∷ bs)

-- So many entries can be put in, and there is a spare block whenever one is full: either one for each entry, or enough for the
-- blocks that can fill up at all.
abbrev pub Affords : ℕ → ℕ → ℕ → Type 0
Affords spare debt entries = (entries ≤ spare) ⊎ (debt + entries ≤ 64 * spare)
