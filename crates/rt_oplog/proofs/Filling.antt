-- A place put into blocks.
use Rattle.rt_rows.specs.declared.rows.RowPlace.{RowPlace}
use Rattle.std.proofs.Common.{◌≡◌, ℕ, zero, suc, ◌+◌, ◌-◌, ◌*◌, ◌<◌, ◌≤◌, List, [], ◌∷◌, ◌++◌, length, get_or, take, set, refl, sym, ap, subst, ◌∙◌, arith, vec_len, length-append}
use Rattle.std.specs.List.{AllByRecursion, insert}
use Rattle.std.proofs.lemmas.List.{length-set, take_more}
use Rattle.rt_oplog.specs.declared.block.Block.{Block}
use Rattle.rt_oplog.specs.declared.runs.TheConstants.{HALF, MOST}
use Rattle.rt_oplog.specs.Runs.{places_in}
use Rattle.rt_oplog.specs.Blocks.{AreHalfFull, IsFull, places_in_blocks, places_of_block, places_before, room_of, runs_of}
use Rattle.rt_oplog.proofs.InBlocks.{any_default}
use Rattle.rt_oplog.proofs.InRuns.{each_places}
use Rattle.rt_oplog.proofs.InParts as parts

-- a place put into one block
pub put_blocks : (bs : List Block) (i : ℕ) (b new : Block) (at : ℕ) (place : RowPlace) → i < length bs → b ≡ get_or bs i b → at ≤ length (places_in b.runs.items) → places_in new.runs.items ≡ insert (places_in b.runs.items) at place
    → places_in_blocks (set bs i new) ≡ insert (places_in_blocks bs) (places_before bs i + at) place
put_blocks bs i b new at place l e w n = parts.put_part places_of_block bs i b new at place l e w n

-- one block becomes two
pub split_blocks : (bs : List Block) (i : ℕ) (b front back : Block) → i < length bs → b ≡ get_or bs i b → places_in b.runs.items ≡ places_in front.runs.items ++ places_in back.runs.items
    → places_in_blocks (insert (set bs i front) (suc i) back) ≡ places_in_blocks bs
split_blocks bs i b front back l e n = parts.split_part places_of_block bs i b front back l e n

pub split_front : (bs : List Block) (i : ℕ) (front back : Block) → i < length bs → take i (insert (set bs i front) (suc i) back) ≡ take i bs
split_front [] i front back l = absurd (omega arith)
split_front (c ∷ bs) zero front back l = refl
split_front (c ∷ bs) (suc i) front back l = ap (λ xs. c ∷ xs) (split_front bs i front back (omega arith))

pub split_one : (bs : List Block) (i : ℕ) (front back d : Block) → i < length bs → get_or (insert (set bs i front) (suc i) back) i d ≡ front
split_one [] i front back d l = absurd (omega arith)
split_one (c ∷ bs) zero front back d l = refl
split_one (c ∷ bs) (suc i) front back d l = split_one bs i front back d (omega arith)

pub split_other : (bs : List Block) (i : ℕ) (front back d : Block) → i < length bs → get_or (insert (set bs i front) (suc i) back) (suc i) d ≡ back
split_other [] i front back d l = absurd (omega arith)
split_other (c ∷ bs) zero front back d l = refl
split_other (c ∷ bs) (suc i) front back d l = split_other bs i front back d (omega arith)

-- how many runs there are

pub runs_put : (bs : List Block) (i : ℕ) (b new : Block) → i < length bs → b ≡ get_or bs i b → vec_len new.runs ≤ vec_len b.runs + 2 → runs_of (set bs i new) ≤ runs_of bs + 2
runs_put [] i b new l e g = absurd (omega arith)
runs_put (c ∷ bs) zero b new l e g = let m = ap (λ (x : Block). vec_len x.runs) e in omega (arith, m, g)
runs_put (c ∷ bs) (suc i) b new l e g = let r = runs_put bs i b new (omega arith) e g in omega (arith, r)

pub runs_split : (bs : List Block) (i : ℕ) (b front back : Block) → i < length bs → b ≡ get_or bs i b → vec_len front.runs + vec_len back.runs ≡ vec_len b.runs
    → runs_of (insert (set bs i front) (suc i) back) ≡ runs_of bs
runs_split [] i b front back l e g = absurd (omega arith)
runs_split (c ∷ bs) zero b front back l e g = let m = ap (λ (x : Block). vec_len x.runs) e in omega (arith, m, g)
runs_split (c ∷ bs) (suc i) b front back l e g = let r = runs_split bs i b front back (omega arith) e g in omega (arith, r)

pub runs_append : (bs cs : List Block) → runs_of (bs ++ cs) ≡ runs_of bs + runs_of cs
runs_append [] cs = omega arith
runs_append (b ∷ bs) cs = let r = runs_append bs cs in omega (arith, r)

pub runs_next : (bs : List Block) (i : ℕ) (b : Block) → i < length bs → b ≡ get_or bs i b → runs_of (take (i + 1) bs) ≡ runs_of (take i bs) + vec_len b.runs
runs_next bs i b l e = let m = runs_append (take i bs) (b ∷ []) in ap runs_of (take_more bs i b l ∙ ap (λ x. take i bs ++ x ∷ []) (sym e)) ∙ omega (arith, m)

pub runs_front : (bs : List Block) (n : ℕ) → runs_of (take n bs) ≤ runs_of bs
runs_front bs zero = omega arith
runs_front [] (suc n) = omega arith
runs_front (b ∷ bs) (suc n) = let r = runs_front bs n in omega (arith, r)

-- each run has a place
pub runs_few : (bs : List Block) → runs_of bs ≤ length (places_in_blocks bs)
runs_few [] = omega arith
runs_few (b ∷ bs) = omega (arith, runs_few bs, each_places b.runs.items, b.runs.ok.0, length-append (places_in b.runs.items) (places_in_blocks bs))

-- blocks stay half full

pub half_put : (bs : List Block) (i : ℕ) (b new : Block) → AreHalfFull bs → b ≡ get_or bs i b → vec_len b.runs ≤ vec_len new.runs → AreHalfFull (set bs i new)
half_put [] i b new h e g = tt
half_put (c ∷ bs) zero b new h e g = (λ l. let k = h.0 l in let m = ap (λ (x : Block). vec_len x.runs) e in omega (arith, k, m, g), h.1)
half_put (c ∷ bs) (suc i) b new h e g = (λ l. let n = length-set bs i new in h.0 (omega (arith, l, n)), half_put bs i b new h.1 e g)

pub half_split : (bs : List Block) (i : ℕ) (front back : Block) → AreHalfFull bs → i < length bs → HALF ≤ vec_len front.runs → HALF ≤ vec_len back.runs → AreHalfFull (insert (set bs i front) (suc i) back)
half_split [] i front back h l f g = absurd (omega arith)
half_split (c ∷ bs) zero front back h l f g = (λ _. f, (λ _. g, h.1))
half_split (c ∷ bs) (suc i) front back h l f g = (λ _. h.0 (omega (arith, l)), half_split bs i front back h.1 (omega arith) f g)

-- a block behind full ones
pub half_more : (bs : List Block) (new : Block) → AreHalfFull bs → IsFull bs → AreHalfFull (bs ++ new ∷ [])
half_more [] new h f = (λ l. absurd (omega arith), tt)
half_more (c ∷ []) new h f = (λ _. let k = f c (omega arith) in omega (arith, k), (λ l. absurd (omega arith), tt))
half_more (c ∷ e ∷ bs) new h f = (λ _. h.0 (omega arith), half_more (e ∷ bs) new h.1 (λ d l. subst (λ n. MOST < vec_len (get_or (c ∷ e ∷ bs) n d).runs + 2) (back (length bs)) (f d (omega arith))))
  where
    back : (n : ℕ) → suc (suc n) - 1 ≡ suc (suc n - 1)
    back n = omega arith

-- so there are blocks for all runs

runs_of_half : (bs : List Block) → AreHalfFull bs → HALF * length bs < runs_of bs + HALF
runs_of_half [] h = omega arith
runs_of_half (c ∷ []) h = omega (arith, c.some)
runs_of_half (c ∷ e ∷ bs) h =
    let r = runs_of_half (e ∷ bs) h.1 in
    let k = h.0 (omega arith) in
    omega (arith, r, k)

pub runs_of_full : (bs : List Block) (i : ℕ) (b : Block) → AreHalfFull bs → i < length bs → b ≡ get_or bs i b → MOST < vec_len b.runs + 2 → HALF * length bs ≤ runs_of bs
runs_of_full [] i b h l e f = absurd (omega arith)
runs_of_full (c ∷ bs) zero b h l e f =
    let r = runs_of_half bs h.1 in
    let k = ap (λ (x : Block). vec_len x.runs) e in
    omega (arith, r, k, f)
runs_of_full (c ∷ bs) (suc i) b h l e f =
    let r = runs_of_full bs i b h.1 (omega arith) e f in
    let k = h.0 (omega (arith, l)) in
    omega (arith, r, k)

-- where all blocks are full, there is a block to be
pub some_spare : (spare blocks runs len : ℕ) → 0 < room_of spare blocks runs len → HALF * blocks ≤ runs → 0 < spare
some_spare spare blocks runs len r h = omega (arith, r, h)

pub runs_of_all : (bs : List Block) → AreHalfFull bs → IsFull bs → HALF * length bs ≤ runs_of bs
runs_of_all [] h f = omega arith
runs_of_all (c ∷ bs) h f =
    let b = get_or (c ∷ bs) (length (c ∷ bs) - 1) c in
    runs_of_full (c ∷ bs) (length (c ∷ bs) - 1) b h (omega arith) (any_default (c ∷ bs) (length (c ∷ bs) - 1) c b (omega arith)) (f c (omega arith))

-- spare blocks

pub all_take : {X : Type 0} (P : X → Type 0) (xs : List X) (n : ℕ) → AllByRecursion P xs → AllByRecursion P (take n xs)
all_take P [] zero h = tt
all_take P [] (suc n) h = tt
all_take P (x ∷ xs) zero h = tt
all_take P (x ∷ xs) (suc n) h = (h.0, all_take P xs n h.1)

pub all_more : {X : Type 0} (P : X → Type 0) (xs : List X) (x : X) → AllByRecursion P xs → P x → AllByRecursion P (xs ++ x ∷ [])
all_more P [] x h p = (p, tt)
all_more P (y ∷ xs) x h p = (h.0, all_more P xs x h.1 p)
