-- Places in blocks.
use Rattle.std.specs.Prelude.{ℕ, ◌+◌, ◌-◌, ◌*◌, ◌/◌, ◌^◌, ◌<◌, ◌≤◌, max, min, Bool, List, [], ◌∷◌, length, take, slice_index_or, vec_len}
use Rattle.std.specs.List.{flat_map, list_all}
use Rattle.rt_rows.specs.declared.rows.RowPlace.{RowPlace}
use Rattle.rt_oplog.specs.declared.block.Block.{Block}
use Rattle.rt_oplog.specs.declared.runs.TheConstants.{HALF, MOST}
use Rattle.rt_oplog.specs.Runs.{places_in}

abbrev pub places_of_block : Block → List RowPlace
places_of_block b = places_in b.runs.items

-- the places of all blocks, one block after another
abbrev pub places_in_blocks : List Block → List RowPlace
places_in_blocks blocks = flat_map {X = Block} {A = RowPlace} places_of_block blocks

-- how many places stand in front of a block
abbrev pub places_before : List Block → ℕ → ℕ
places_before blocks block = length (places_in_blocks (take block blocks))

-- how many runs all blocks have
abbrev pub runs_of : List Block → ℕ
runs_of [] = 0
runs_of (b ∷ bs) = vec_len b.runs + runs_of bs

-- all places of a block pass a test
abbrev pub all_pass : (RowPlace → Bool) → Block → Bool
all_pass p b = list_all p (places_of_block b)

-- each block but the last one is half full at least
abbrev pub AreHalfFull : List Block → Type 0
AreHalfFull [] = Unit {0}
AreHalfFull (b ∷ bs) = (0 < length bs → HALF ≤ vec_len b.runs) × AreHalfFull bs

-- the last block has no room for two more runs, if there is one
abbrev pub IsFull : List Block → Type 0
IsFull blocks = (d : Block) → 0 < length blocks → MOST < vec_len (slice_index_or blocks (length blocks - 1) d).runs + 2

-- So many places can be put in beside `len` others, which are in so many runs: one for each block to be, or as many as all
-- blocks hold where each is half full and each place makes two more runs.
abbrev pub room_of : ℕ → ℕ → ℕ → ℕ → ℕ
room_of spare blocks runs len = min (max spare ((HALF * (blocks + spare) - runs) / 2)) ((2 ^ 64 - 1 - len) / 2)
