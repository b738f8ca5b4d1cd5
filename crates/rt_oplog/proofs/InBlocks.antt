-- Places in blocks, as one list.
use Rattle.rt_rows.specs.declared.rows.RowPlace.{RowPlace}
use Rattle.std.proofs.Common.{◌≡◌, ℕ, zero, suc, ◌+◌, ◌-◌, ◌<◌, ◌≤◌, Bool, true, false, List, [], ◌∷◌, ◌++◌, length, get_or, take, sym, ap, subst, ◌∙◌, arith, None}
use Rattle.std.specs.Prelude.{slice_get, Some}
use Rattle.std.specs.List.{AllByRecursion, list_all}
use Rattle.std.specs.List.Sorted.{IsPartitionedBy}
use Rattle.std.proofs.lemmas.Option.{get_or_from_slice_get, slice_get_within}
use Rattle.rt_stamps.specs.declared.stamp.Stamp.{Stamp}
use Rattle.rt_oplog.specs.declared.block.Block.{Block}
use Rattle.rt_ops.specs.Operations.{Operation}
use Rattle.rt_oplog.specs.Logs.{IsFalling, IsLog}
use Rattle.rt_oplog.specs.Kept.{newest_first, leading, is_earlier}
use Rattle.rt_oplog.specs.Runs.{places_in}
use Rattle.rt_oplog.specs.Blocks.{all_pass, places_in_blocks, places_before, places_of_block}
use Rattle.rt_oplog.proofs.InRuns.{some_of_runs}
use Rattle.rt_oplog.proofs.InParts as parts

-- a block has places
pub some_of_block : (b : Block) → 0 < length (places_of_block b)
some_of_block b = some_of_runs b.runs.items (omega (arith, b.some, b.runs.ok.0))

pub any_default : {X : Type 0} (xs : List X) (i : ℕ) (x y : X) → i < length xs → get_or xs i x ≡ get_or xs i y
any_default xs i x y l = parts.any_default xs i x y l

-- the first place that fails a test stands in the first block of which not all pass

pub leading_at : (p : RowPlace → Bool) (bs : List Block) (i : ℕ) (b : Block) → i ≡ leading (all_pass p) bs → i < length bs → b ≡ get_or bs i b
    → leading p (places_in_blocks bs) ≡ places_before bs i + leading p (places_in b.runs.items)
leading_at p bs i b e l g = parts.leading_at places_of_block p bs i b e l g

pub leading_within : (p : RowPlace → Bool) (bs : List Block) (i : ℕ) (b : Block) → i ≡ leading (all_pass p) bs → i < length bs → b ≡ get_or bs i b
    → leading p (places_in b.runs.items) < length (places_in b.runs.items)
leading_within p bs i b e l g = parts.leading_within places_of_block p bs i b e l g

pub places_next : (bs : List Block) (i : ℕ) (b : Block) → i < length bs → b ≡ get_or bs i b → places_in_blocks (take (i + 1) bs) ≡ places_in_blocks (take i bs) ++ places_in b.runs.items
places_next bs i b l e = parts.places_next places_of_block bs i b l e

pub falling_block : (ops : List (List Operation)) (bs : List Block) (i : ℕ) (b : Block) → i < length bs → b ≡ get_or bs i b → IsFalling (newest_first ops (places_in_blocks bs)) → IsFalling (newest_first ops (places_in b.runs.items))
falling_block ops bs i b l e h = parts.falling_part places_of_block ops bs i b l e h

-- the search among blocks goes by their last places

-- the operation of a block's last place is before a stamp
abbrev pub last_earlier : List (List Operation) → Stamp → Block → Bool
last_earlier ops stamp b = parts.last_earlier places_of_block ops stamp b

pub last_leading : (ops : List (List Operation)) (stamp : Stamp) (bs : List Block) → IsFalling (newest_first ops (places_in_blocks bs)) → leading (last_earlier ops stamp) bs ≡ leading (all_pass (is_earlier ops stamp)) bs
last_leading ops stamp bs f = parts.last_leading places_of_block some_of_block ops stamp bs f

pub last_parted : (ops : List (List Operation)) (stamp : Stamp) (bs : List Block) → IsFalling (newest_first ops (places_in_blocks bs)) → IsPartitionedBy (last_earlier ops stamp) bs
last_parted ops stamp bs f = parts.last_parted places_of_block some_of_block ops stamp bs f

-- the last block's last place tells whether all operations are before a stamp
pub last_of_all : (ops : List (List Operation)) (stamp : Stamp) (bs : List Block) (b : Block) → IsFalling (newest_first ops (places_in_blocks bs)) → slice_get bs (length bs - 1) ≡ Some b
    → last_earlier ops stamp b ≡ list_all (all_pass (is_earlier ops stamp)) bs
last_of_all ops stamp bs b f e =
    let l = slice_get_within bs (length bs - 1) b e in
    ap (last_earlier ops stamp) (sym (get_or_from_slice_get bs (length bs - 1) b b e)) ∙ parts.last_of_all places_of_block some_of_block ops stamp bs b (omega (arith, l)) f

pub not_all_earlier : (ops : List (List Operation)) (stamp : Stamp) (bs : List Block) (i : ℕ) → list_all (all_pass (is_earlier ops stamp)) bs ≡ false
    → i ≡ leading (all_pass (is_earlier ops stamp)) bs → i < length bs
not_all_earlier ops stamp bs i h e = omega (arith, e, parts.leading_fails (all_pass (is_earlier ops stamp)) bs h)

pub all_earlier : (ops : List (List Operation)) (stamp : Stamp) (bs : List Block) → list_all (all_pass (is_earlier ops stamp)) bs ≡ true
    → leading (is_earlier ops stamp) (places_in_blocks bs) ≡ length (places_in_blocks bs)
all_earlier ops stamp bs h = parts.all_earlier places_of_block (is_earlier ops stamp) bs h

-- a place of a block, in the one list

pub place_at : (bs : List Block) (i at : ℕ) (place : RowPlace) (b : Block) → i < length bs → b ≡ get_or bs i b → at < length (places_in b.runs.items) → place ≡ get_or (places_in b.runs.items) at place
    → slice_get (places_in_blocks bs) (places_before bs i + at) ≡ Some place
place_at bs i at place b l e w r = parts.place_at places_of_block bs i at place b l e w r

-- a block's places are fewer than those from it on
pub places_up_to : (bs : List Block) (i : ℕ) (b : Block) → i < length bs → b ≡ get_or bs i b → places_before bs (i + 1) ≡ places_before bs i + length (places_in b.runs.items)
places_up_to bs i b l e = parts.places_up_to places_of_block bs i b l e

-- what holds at a place of the list whatever stands in its stead holds of what stands there
pub of_block : {X : Type 0} (P : X → Type 0) (bs : List X) (i : ℕ) (b : X) → b ≡ get_or bs i b → ((d : X) → P (get_or bs i d)) → P b
of_block P bs i b e h = subst P (sym e) (h b)

pub none_past : {X : Type 0} (xs : List X) (i : ℕ) → slice_get xs i ≡ None → length xs ≤ i
none_past [] i e = omega arith
none_past (x ∷ xs) zero e = absurd (cc e)
none_past (x ∷ xs) (suc i) e = let r = none_past xs i e in omega (arith, r)

-- what holds of all places, of one block

pub all_block : (P : RowPlace → Type 0) (bs : List Block) (i : ℕ) (b : Block) → i < length bs → b ≡ get_or bs i b → AllByRecursion P (places_in_blocks bs) → AllByRecursion P (places_in b.runs.items)
all_block P bs i b l e h = parts.all_part places_of_block P bs i b l e h

pub log_block : (ops : List (List Operation)) (bs : List Block) (i : ℕ) (b : Block) → i < length bs → b ≡ get_or bs i b → IsLog (newest_first ops (places_in_blocks bs)) → IsLog (newest_first ops (places_in b.runs.items))
log_block ops bs i b l e h = parts.log_part places_of_block ops bs i b l e h
