-- Whether an entry has a key.
use Rattle.std.proofs.Common.{◌≡◌, ℕ, suc, ◌+◌, ◌<◌, ◌≤◌, inl, inr, Bool, List, ◌∷◌, ◌++◌, length, get_or, take, drop, true, false, not, refl, sym, subst, arith}
use Rattle.rt_spans.specs.declared.entry.SpanEntry.{SpanEntry}
use Rattle.rt_spans.specs.declared.block.Block.{Block}
use Rattle.rt_spans.specs.Spans.{AreRisingBy, AreRisingFrom, Has, IsEntryAt, entry_key}
use Rattle.rt_spans.specs.Blocks.{PartsAt, in_block, in_blocks, head_key}
use Rattle.rt_spans.proofs.Cutting.{cut_has, has_back, has_front, has_here, none_below}
use Rattle.rt_spans.proofs.Painting.{ahead, has_split}
use Rattle.rt_spans.proofs.Parts.{around_block, heads_above}

-- the last entry that doesn't come after a stamp has its key
pub has_when : {V : Type 0} (k : ℕ) (h : SpanEntry V) (items : List (SpanEntry V)) (place : ℕ) (e : SpanEntry V) → PartsAt entry_key k items place → entry_key h ≤ k → IsEntryAt (h ∷ items) place e → k ≤ entry_key e → Has k (h ∷ items)
has_when k h items place e p l at m = cut_has k (h ∷ items) (h ∷ items) (has_here k h items place e p l at m)

-- or none has
pub none_here : {V : Type 0} (k : ℕ) (h : SpanEntry V) (items : List (SpanEntry V)) (place : ℕ) (e : SpanEntry V) → AreRisingFrom 0 (h ∷ items) → PartsAt entry_key k items place → IsEntryAt (h ∷ items) place e → entry_key e < k → Has k (h ∷ items) → ⊥
none_here k h items place e r p at l m =
    elim (has_split k (take place (h ∷ items)) (e ∷ drop (suc place) (h ∷ items)) (subst (λ v. Has k v) at m)) as (λ _. ⊥) [
      | inl f ↦ omega (arith, l, ahead 0 k (take place (h ∷ items)) e (drop (suc place) (h ∷ items)) (subst (λ v. AreRisingFrom 0 v) at r) f)
      | inr b ↦ elim b as (λ _. ⊥) [
        | inl is ↦ omega (arith, is, l)
        | inr t ↦ omega (arith, none_below (k + 1) k (drop place items) p.back t)
      ]
    ]

-- a block's entries are among those of all
pub has_among : {V : Type 0} (k : ℕ) (bs : List (Block V)) (i : ℕ) (b : Block V) → i < length bs → b ≡ get_or bs i b → Has k (in_block b) → Has k (in_blocks bs)
has_among k bs i b l e m =
    subst (λ v. Has k v) (sym (around_block bs i b l e)) (has_back k (in_blocks (take i bs)) (in_block b ++ in_blocks (drop (suc i) bs)) (has_front k (in_block b) (in_blocks (drop (suc i) bs)) m))

-- where each block begins after a stamp, no entry has its key
pub none_among : {V : Type 0} (k : ℕ) (bs : List (Block V)) (place : ℕ) → AreRisingFrom 0 (in_blocks bs) → PartsAt head_key k bs place → place ≡ 0 → Has k (in_blocks bs) → ⊥
none_among k bs place h p e m =
    omega (arith, none_below (k + 1) k (in_blocks bs) (heads_above 0 (k + 1) bs h (subst (λ v. AreRisingBy head_key (k + 1) (drop v bs)) e p.back)) m)

pub is_false : (b : Bool) → not b ≡ true → b ≡ false
is_false true e = absurd cc
is_false false e = refl

pub is_true : (b : Bool) → (b ≡ true → ⊥) → not b ≡ true
is_true true n = absurd (n refl)
is_true false n = refl

pub either : {P : Type 0} (b : Bool) → (b ≡ true → P) → (b ≡ false → P) → P
either true t f = t refl
either false t f = f refl
