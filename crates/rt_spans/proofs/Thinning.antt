-- Whole blocks between two stamps, taken away.
use Rattle.std.proofs.Common.{◌≡◌, ℕ, zero, suc, ◌+◌, ◌-◌, ◌<◌, ◌≤◌, ◌⊎◌, inl, inr, nat_le, nat_lt, ◌&&◌, List, [], ◌∷◌, ◌++◌, length, get_or, take, drop, cond, refl, sym, ap, subst, ◌∙◌, arith, Option, Some, None, append_assoc, vec_len}
use Rattle.std.specs.List.{AllByRecursion}
use Rattle.std.proofs.lemmas.Bool.{cases_lt}
use Rattle.std.proofs.lemmas.List.{take-append-drop}
use Rattle.std.proofs.lemmas.List.Concat.{flat_map-append}
use Rattle.rt_spans.specs.declared.entry.SpanEntry.{SpanEntry}
use Rattle.rt_spans.specs.declared.block.Block.{Block}
use Rattle.rt_spans.specs.Spans.{AreRisingFrom, Has, PaintsOver, Thinned, ThinsOut, entry_key, value_at, value_from, entry_value}
use Rattle.rt_spans.specs.Blocks.{PartsAt, PartsBelow, head_key, in_block, in_blocks}
use Rattle.rt_spans.specs.Room.{debt}
use Rattle.rt_spans.proofs.Ranks.{is_le, is_lt}
use Rattle.rt_spans.proofs.Rising.{front, lower, skip}
use Rattle.rt_spans.proofs.Values.{value_front}
use Rattle.rt_spans.proofs.Parts.{each_append, each_drop, each_take, heads_above}
use Rattle.rt_spans.proofs.Cutting.{has_back, has_front, none_below}
use Rattle.rt_spans.proofs.Painting.{ahead, both, has_split}

-- WHAT HOLDS THEN

-- where an entry doesn't come after a stamp, what holds before the list says nothing
value_skip : {V : Type 0} (before other : Option V) (s low k : ℕ) (ys : List (SpanEntry V)) → AreRisingFrom low ys → Has k ys → k ≤ s → value_from before s ys ≡ value_from other s ys
value_skip before other s low k [] h m l = absurd m
value_skip before other s low k (y ∷ ys) h m l =
    let first : entry_key y ≤ s = omega (arith, l, none_below (entry_key y) k (y ∷ ys) (omega arith, h.1) m) in
    ap (λ v. cond v (value_from (entry_value y) s ys) before) (is_le (entry_key y) s first) ∙ sym (ap (λ v. cond v (value_from (entry_value y) s ys) other) (is_le (entry_key y) s first))

value_over : {V : Type 0} (before : Option V) (s low k : ℕ) (xs ys : List (SpanEntry V)) → AreRisingFrom low (xs ++ ys) → Has k ys → k ≤ s → value_from before s (xs ++ ys) ≡ value_from None s ys
value_over before s low k [] ys h m l = value_skip before None s low k ys h m l
value_over before s low k (x ∷ xs) ys h m l =
    ap (λ v. cond v (value_from (entry_value x) s (xs ++ ys)) before) (is_le (entry_key x) s (omega (arith, l, none_below (entry_key x + 1) k (xs ++ ys) h.1 (has_back k xs ys m)))) ∙ value_over (entry_value x) s (entry_key x + 1) k xs ys h.1 m l

rising_thinned : {V : Type 0} (low : ℕ) (xs gone ys : List (SpanEntry V)) → AreRisingFrom low (xs ++ (gone ++ ys)) → AreRisingFrom low (xs ++ ys)
rising_thinned low [] gone ys h = skip entry_key low gone ys h
rising_thinned low (x ∷ xs) gone ys h = (h.0, rising_thinned (entry_key x + 1) xs gone ys h.1)

pub thins_rising : {V : Type 0} (first end low : ℕ) (old new : List (SpanEntry V)) → ThinsOut first end old new → AreRisingFrom low old → AreRisingFrom low new
thins_rising first end low old new t h = elim t as (λ _. AreRisingFrom low new) [
  | inl same ↦ subst (λ v. AreRisingFrom low v) (sym same) h
  | inr p ↦ subst (λ v. AreRisingFrom low v) (sym p.is) (rising_thinned low p.front p.gone p.back (subst (λ v. AreRisingFrom low v) p.was h))
]

pub thins_keeps : {V : Type 0} (first end q : ℕ) (old new : List (SpanEntry V)) → ThinsOut first end old new → (q ≤ first) ⊎ (end ≤ q) → Has q old → Has q new
thins_keeps {V} first end q old new t o h = elim t as (λ _. Has q new) [
  | inl same ↦ subst (λ v. Has q v) (sym same) h
  | inr p ↦ subst (λ v. Has q v) (sym p.is) (kept p)
]
  where
    kept : (p : Thinned first end old new) → Has q (p.front ++ p.back)
    kept p = elim (has_split q p.front (p.gone ++ p.back) (subst (λ v. Has q v) p.was h)) as (λ _. Has q (p.front ++ p.back)) [
      | inl f ↦ has_front q p.front p.back f
      | inr r ↦ elim (has_split q p.gone p.back r) as (λ _. Has q (p.front ++ p.back)) [
        | inl g ↦ absurd (elim o as (λ _. ⊥) [
          | inl l ↦ omega (arith, l, none_below (first + 1) q p.gone (front entry_key (first + 1) p.gone p.back p.above) g)
          | inr l ↦ omega (arith, l, p.below q g)
        ])
        | inr b ↦ has_back q p.front p.back b
      ]
    ]

thins_value : {V : Type 0} (first end s : ℕ) (old new : List (SpanEntry V)) → ThinsOut first end old new → AreRisingFrom 0 old → Has end old → (s < first) ⊎ (end ≤ s) → value_at s new ≡ value_at s old
thins_value {V} first end s old new t h m o = elim t as (λ _. value_at s new ≡ value_at s old) [
  | inl same ↦ ap (λ v. value_at s v) same
  | inr p ↦ elim o as (λ _. value_at s new ≡ value_at s old) [ inl early ↦ before p early | inr late ↦ after p late ]
]
  where
    before : (p : Thinned first end old new) → s < first → value_at s new ≡ value_at s old
    before p early =
        ap (λ v. value_at s v) p.is ∙ (value_front None s p.front p.back (lower entry_key (s + 1) (first + 1) p.back (omega (arith, early)) (skip entry_key (first + 1) p.gone p.back p.above)) ∙ (sym (value_front None s p.front (p.gone ++ p.back) (lower entry_key (s + 1) (first + 1) (p.gone ++ p.back) (omega (arith, early)) p.above)) ∙ sym (ap (λ v. value_at s v) p.was)))

    after : (p : Thinned first end old new) → end ≤ s → value_at s new ≡ value_at s old
    after p late =
        let rising : AreRisingFrom 0 (p.front ++ (p.gone ++ p.back)) = subst (λ v. AreRisingFrom 0 v) p.was h in
        let whole : old ≡ (p.front ++ p.gone) ++ p.back = p.was ∙ sym (append_assoc p.front p.gone p.back) in
        ap (λ v. value_at s v) p.is ∙ (value_over None s 0 end p.front p.back (rising_thinned 0 p.front p.gone p.back rising) (p.ends m) late ∙ (sym (value_over None s 0 end (p.front ++ p.gone) p.back (subst (λ v. AreRisingFrom 0 v) whole h) (p.ends m) late) ∙ sym (ap (λ v. value_at s v) whole)))

-- thinned out, and then painted
pub painted_within : {V : Type 0} (first end : ℕ) (value : V) (old mid new : List (SpanEntry V)) → ThinsOut first end old mid → AreRisingFrom 0 old → Has end old → PaintsOver first end value mid new → PaintsOver first end value old new
painted_within {V} first end value old mid new t h m o = record {
  values = λ s. o.values s ∙ same s;
  rising = o.rising;
  keeps = λ q w k. o.keeps q w (thins_keeps first end q old mid t w k);
}
  where
    same : (s : ℕ) → cond (nat_le first s && nat_lt s end) (Some value) (value_at s mid) ≡ cond (nat_le first s && nat_lt s end) (Some value) (value_at s old)
    same s = elim (cases_lt s first) as (λ _. Goal) [
      | inl less ↦ ap (λ v. cond (nat_le first s && nat_lt s end) (Some value) v) (thins_value first end s old mid t h m (inl less))
      | inr more ↦ elim (cases_lt s end) as (λ _. Goal) [
        | inl less ↦ let inside = both _ _ (is_le first s more) (is_lt s end less) in ap (λ b. cond b (Some value) (value_at s mid)) inside ∙ sym (ap (λ b. cond b (Some value) (value_at s old)) inside)
        | inr late ↦ ap (λ v. cond (nat_le first s && nat_lt s end) (Some value) v) (thins_value first end s old mid t h m (inr late))
      ]
    ]
      where
        Goal : Type 0
        Goal = cond (nat_le first s && nat_lt s end) (Some value) (value_at s mid) ≡ cond (nat_le first s && nat_lt s end) (Some value) (value_at s old)

-- WHOLE BLOCKS

between : {X : Type 0} (xs : List X) (i j : ℕ) → i ≤ j → (mid : List X) × (drop i xs ≡ mid ++ drop j xs)
between xs zero j l = (take j xs, sym (take-append-drop j xs))
between [] (suc i) zero l = absurd (omega (arith, l))
between [] (suc i) (suc j) l = ([], refl)
between (x ∷ xs) (suc i) zero l = absurd (omega (arith, l))
between (x ∷ xs) (suc i) (suc j) l = between xs i j (omega (arith, l))

drop_here : {X : Type 0} (xs : List X) (j : ℕ) (d : X) → j < length xs → drop j xs ≡ get_or xs j d ∷ drop (suc j) xs
drop_here [] j d l = absurd (omega (arith, l))
drop_here (x ∷ xs) zero d l = refl
drop_here (x ∷ xs) (suc j) d l = drop_here xs j d (omega (arith, l))

pub thins_blocks : {V : Type 0} (first end from to last : ℕ) (bs : List (Block V)) → AreRisingFrom 0 (in_blocks bs) → PartsAt head_key first bs from → PartsBelow head_key end bs to → last ≡ to - 1 → from < last → Thinned first end (in_blocks bs) (in_blocks (take from bs ++ drop last bs))
thins_blocks {V} first end from to last bs h p q is less = by bs refl where
  by : (all : List (Block V)) → all ≡ bs → Thinned first end (in_blocks bs) (in_blocks (take from bs ++ drop last bs))
  by [] e = absurd (omega (arith, ap length e, p.within, q.within, is, less))
  by (d ∷ ds) e = record {
    front = in_blocks (take from bs);
    gone = in_blocks mid.0;
    back = in_blocks (drop last bs);
    was = was;
    is = flat_map-append in_block (take from bs) (drop last bs);
    above = subst (λ v. AreRisingFrom (first + 1) v) behind (heads_above 0 (first + 1) (drop from bs) (skip entry_key 0 (in_blocks (take from bs)) (in_blocks (drop from bs)) (subst (λ v. AreRisingFrom 0 v) (parts from) h)) p.back);
    below = λ k m. omega (arith, low, before k (subst (λ v. Has k v) (sym (flat_map-append in_block (take from bs) mid.0)) (has_back k (in_blocks (take from bs)) (in_blocks mid.0) m)));
    ends = ends;
  }
    where
      mid : (mid : List (Block V)) × (drop from bs ≡ mid ++ drop last bs)
      mid = between bs from last (omega (arith, less))

      parts : (i : ℕ) → in_blocks bs ≡ in_blocks (take i bs) ++ in_blocks (drop i bs)
      parts i = ap in_blocks (sym (take-append-drop i bs)) ∙ flat_map-append in_block (take i bs) (drop i bs)

      behind : in_blocks (drop from bs) ≡ in_blocks mid.0 ++ in_blocks (drop last bs)
      behind = ap in_blocks mid.1 ∙ flat_map-append in_block mid.0 (drop last bs)

      was : in_blocks bs ≡ in_blocks (take from bs) ++ (in_blocks mid.0 ++ in_blocks (drop last bs))
      was = parts from ∙ ap (λ v. in_blocks (take from bs) ++ v) behind

      b : Block V
      b = get_or bs last d

      low : head_key b < end
      low = q.front last d (omega (arith, is, less))

      next : in_blocks (drop last bs) ≡ b.head ∷ (b.rest.items ++ in_blocks (drop (suc last) bs))
      next = ap in_blocks (drop_here bs last d (omega (arith, q.within, is, less)))

      joined : in_blocks bs ≡ in_blocks (take from bs ++ mid.0) ++ b.head ∷ (b.rest.items ++ in_blocks (drop (suc last) bs))
      joined = was ∙ (sym (append_assoc (in_blocks (take from bs)) (in_blocks mid.0) (in_blocks (drop last bs))) ∙ (ap (λ v. v ++ in_blocks (drop last bs)) (sym (flat_map-append in_block (take from bs) mid.0)) ∙ ap (λ v. in_blocks (take from bs ++ mid.0) ++ v) next))

      before : (k : ℕ) → Has k (in_blocks (take from bs ++ mid.0)) → k < head_key b
      before k m = ahead 0 k (in_blocks (take from bs ++ mid.0)) b.head (b.rest.items ++ in_blocks (drop (suc last) bs)) (subst (λ v. AreRisingFrom 0 v) joined h) m

      ends : Has end (in_blocks bs) → Has end (in_blocks (drop last bs))
      ends m = elim (has_split end (in_blocks (take from bs ++ mid.0)) (b.head ∷ (b.rest.items ++ in_blocks (drop (suc last) bs))) (subst (λ v. Has end v) joined m)) as (λ _. Has end (in_blocks (drop last bs))) [
        | inl f ↦ absurd (omega (arith, low, before end f))
        | inr r ↦ subst (λ v. Has end v) (sym next) r
      ]

-- HOW MUCH IS LEFT

pub each_left : {X : Type 0} (P : X → Type 0) (xs : List X) (i j : ℕ) → AllByRecursion P xs → AllByRecursion P (take i xs ++ drop j xs)
each_left P xs i j h = each_append P (take i xs) (drop j xs) (each_take P xs i h) (each_drop P xs j h)

debt_cons : {V : Type 0} (x : Block V) (ys : List (Block V)) → 0 < length ys → debt (x ∷ ys) ≡ (vec_len x.rest - 64) + debt ys
debt_cons x [] h = absurd (omega (arith, h))
debt_cons x (y ∷ ys) h = refl

some_left : {X : Type 0} (xs ys : List X) (j : ℕ) → j < length ys → 0 < length (xs ++ drop j ys)
some_left (x ∷ xs) ys j l = omega arith
some_left [] [] j l = absurd (omega (arith, l))
some_left [] (y ∷ ys) zero l = omega arith
some_left [] (y ∷ ys) (suc j) l = some_left [] ys j (omega (arith, l))

debt_drop : {V : Type 0} (bs : List (Block V)) (j : ℕ) → j < length bs → debt (drop j bs) ≤ debt bs
debt_drop bs zero l = omega arith
debt_drop [] (suc j) l = absurd (omega (arith, l))
debt_drop (x ∷ []) (suc j) l = absurd (omega (arith, l))
debt_drop (x ∷ y ∷ xs) (suc j) l = omega (arith, debt_drop (y ∷ xs) j (omega (arith, l)))

pub debt_less : {V : Type 0} (bs : List (Block V)) (i j : ℕ) → i ≤ j → j < length bs → debt (take i bs ++ drop j bs) ≤ debt bs
debt_less bs zero j o l = debt_drop bs j l
debt_less [] (suc i) j o l = absurd (omega (arith, l))
debt_less (x ∷ xs) (suc i) zero o l = absurd (omega (arith, o))
debt_less (x ∷ xs) (suc i) (suc j) o l =
    omega (arith, debt_cons x (take i xs ++ drop j xs) (some_left (take i xs) xs j (omega (arith, l))), debt_cons x xs (omega (arith, l)), debt_less xs i j (omega (arith, o)) (omega (arith, l)))

pub some_entry : {V : Type 0} (k : ℕ) (bs : List (Block V)) → Has k (in_blocks bs) → 0 < length bs
some_entry k [] h = absurd h
some_entry k (b ∷ bs) h = omega arith
