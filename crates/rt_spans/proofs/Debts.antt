-- By how much blocks are more than half full.
use Rattle.std.proofs.Common.{◌≡◌, ℕ, zero, suc, ◌+◌, ◌-◌, ◌*◌, ◌<◌, ◌≤◌, ◌⊎◌, inl, inr, ◌==◌, Bool, true, false, cond, List, [], ◌∷◌, length, get_or, ap, refl, arith, set, vec_len}
use Rattle.std.proofs.lemmas.Bool.Decides.{nat_tests}
use Rattle.std.specs.List.{insert, AllByRecursion}
use Rattle.rt_spans.specs.declared.block.Block.{Block}
use Rattle.rt_spans.specs.Blocks.{BlockHasRoom}
use Rattle.rt_spans.specs.Room.{Affords, debt}

-- a block that has more entries by so many
pub debt_more : {V : Type 0} (bs : List (Block V)) (i : ℕ) (b new : Block V) (k : ℕ) → i < length bs → b ≡ get_or bs i b → vec_len new.rest ≤ vec_len b.rest + k → debt (set bs i new) ≤ debt bs + k
debt_more [] i b new k l e h = absurd (omega (arith, l))
debt_more {V} (x ∷ []) zero b new k l e h =
    let q : vec_len b.rest ≡ vec_len x.rest = ap (λ (v : Block V). vec_len v.rest) e in omega (arith, h, q)
debt_more (x ∷ []) (suc i) b new k l e h = absurd (omega (arith, l))
debt_more {V} (x ∷ y ∷ xs) zero b new k l e h =
    let q : vec_len b.rest ≡ vec_len x.rest = ap (λ (v : Block V). vec_len v.rest) e in omega (arith, h, q)
debt_more (x ∷ y ∷ xs) (suc zero) b new k l e h =
    omega (arith, debt_more (y ∷ xs) zero b new k (omega arith) e h)
debt_more (x ∷ y ∷ xs) (suc (suc i)) b new k l e h =
    omega (arith, debt_more (y ∷ xs) (suc i) b new k (omega (arith, l)) e h)

-- where a full block is split: in halves, or anywhere behind that if it is the last
pub record SplitsAt (place blocks middle : ℕ) : Type 0 where
  pub low : 64 ≤ middle
  pub high : middle ≤ 126
  pub where_it_is : (suc place ≡ blocks) ⊎ (middle ≡ 64)

pub splits_at : (place blocks middle : ℕ) → middle ≡ cond (place + 1 == blocks) 126 64 → SplitsAt place blocks middle
splits_at place blocks middle h = by (place + 1 == blocks) refl h where
  by : (b : Bool) → (place + 1 == blocks) ≡ b → middle ≡ cond b 126 64 → SplitsAt place blocks middle
  by true e k = record { low = omega (arith, k); high = omega (arith, k); where_it_is = inl (grind (arith, nat_tests)) }
  by false e k = record { low = omega (arith, k); high = omega (arith, k); where_it_is = inr k }

-- where a block is split, seen from behind the first block
behind_first : (i n m : ℕ) → SplitsAt (suc i) (suc (suc n)) m → SplitsAt i (suc n) m
behind_first i n m s = record {
  low = s.low;
  high = s.high;
  where_it_is = elim s.where_it_is as (λ _. (suc i ≡ suc n) ⊎ (m ≡ 64)) [ inl last ↦ inl (omega (arith, last)) | inr half ↦ inr half ];
}

-- a full block that becomes two
pub debt_split : {V : Type 0} (bs : List (Block V)) (i : ℕ) (b left right : Block V) (middle : ℕ) → i < length bs → b ≡ get_or bs i b → vec_len b.rest ≡ 128 → vec_len left.rest ≡ middle → vec_len right.rest + middle + 1 ≡ 128 → SplitsAt i (length bs) middle → debt (insert (set bs i left) (suc i) right) + 64 ≤ debt bs
debt_split [] i b left right middle l e f p q s = absurd (omega (arith, l))
debt_split {V} (x ∷ []) zero b left right middle l e f p q s =
    let w : vec_len b.rest ≡ vec_len x.rest = ap (λ (v : Block V). vec_len v.rest) e in
    omega (arith, f, p, q, s.low, s.high, w)
debt_split (x ∷ []) (suc i) b left right middle l e f p q s = absurd (omega (arith, l))
debt_split {V} (x ∷ y ∷ xs) zero b left right middle l e f p q s =
    let w : vec_len b.rest ≡ vec_len x.rest = ap (λ (v : Block V). vec_len v.rest) e in
    elim s.where_it_is as (λ _. debt (left ∷ right ∷ y ∷ xs) + 64 ≤ debt (x ∷ y ∷ xs)) [
      | inl last ↦ absurd (omega (arith, last))
      | inr half ↦ omega (arith, f, p, q, half, w)
    ]
debt_split (x ∷ y ∷ xs) (suc zero) b left right middle l e f p q s =
    omega (arith, debt_split (y ∷ xs) zero b left right middle (omega arith) e f p q (behind_first zero (length xs) middle s))
debt_split (x ∷ y ∷ xs) (suc (suc i)) b left right middle l e f p q s =
    omega (arith, debt_split (y ∷ xs) (suc i) b left right middle (omega (arith, l)) e f p q (behind_first (suc i) (length xs) middle s))

-- blocks that have room
pub debt_bound : {V : Type 0} (bs : List (Block V)) → AllByRecursion BlockHasRoom bs → debt bs ≤ 64 * length bs + 64
debt_bound [] h = omega arith
debt_bound (b ∷ []) h = omega (arith, h.0.0)
debt_bound (b ∷ c ∷ bs) h = omega (arith, h.0.0, debt_bound (c ∷ bs) h.1)

-- one entry after another
pub spare_left : (spare debt spare_new debt_new : ℕ) → Affords spare debt 2 → spare ≤ spare_new + 1 → debt_new + 64 * spare ≤ debt + 1 + 64 * spare_new → 0 < spare_new
spare_left spare debt spare_new debt_new a l d = elim a as (λ _. 0 < spare_new) [
  | inl s ↦ omega (arith, s, l)
  | inr s ↦ omega (arith, s, d)
]

pub spare_first : (spare debt : ℕ) → Affords spare debt 2 → 0 < spare
spare_first spare debt a = elim a as (λ _. 0 < spare) [ inl s ↦ omega (arith, s) | inr s ↦ omega (arith, s) ]

-- two entries are enough, where more are
pub affords_two : (spare debt entries : ℕ) → 2 ≤ entries → Affords spare debt entries → Affords spare debt 2
affords_two spare debt entries l a = elim a as (λ _. Affords spare debt 2) [ inl s ↦ inl (omega (arith, s, l)) | inr s ↦ inr (omega (arith, s, l)) ]

pub affords_rest : (spare debt spare_new debt_new entries : ℕ) → 2 ≤ entries → Affords spare debt entries → spare ≤ spare_new + 2 → debt_new + 64 * spare ≤ debt + 2 + 64 * spare_new → Affords spare_new debt_new (entries - 2)
affords_rest spare debt spare_new debt_new entries m a l d = elim a as (λ _. Affords spare_new debt_new (entries - 2)) [
  | inl s ↦ inl (omega (arith, s, l))
  | inr s ↦ inr (omega (arith, s, d, m))
]

-- a lesser debt
pub affords_less : (spare debt less entries : ℕ) → less ≤ debt → Affords spare debt entries → Affords spare less entries
affords_less spare debt less entries l a = elim a as (λ _. Affords spare less entries) [ inl s ↦ inl s | inr s ↦ inr (omega (arith, s, l)) ]
