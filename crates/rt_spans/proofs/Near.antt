-- Spans that are set near an entry.
use Rattle.std.proofs.Common.{◌≡◌, ℕ, zero, suc, ◌+◌, ◌<◌, ◌≤◌, inl, inr, List, [], ◌∷◌, ◌++◌, length, get_or, take, drop, refl, sym, ap, subst, ◌∙◌, arith, append_assoc, set, ◌-◌, vec_len}
use Rattle.rt_spans.specs.declared.entry.SpanEntry.{SpanEntry}
use Rattle.rt_spans.specs.declared.block.Block.{Block}
use Rattle.rt_spans.specs.Spans.{AreRisingBy, AreRisingFrom, EndsAt, Has, IsPartedAt, IsEntryAt, IsNear, Painted, PaintsOver, Repainted, SetsOver, entry_value, holding, entry_key}
use Rattle.rt_spans.specs.Blocks.{IsNearIn, PartsAt, in_block, in_blocks, head_key}
use Rattle.rt_spans.proofs.Rising.{behind, lower, skip, tail_at}
use Rattle.rt_spans.proofs.Values.{cut_out}
use Rattle.rt_spans.proofs.Cutting.{cut_has, cut_rising, cut_within, has_back, has_front, join_above, key_until, more, regroup, there}
use Rattle.rt_spans.proofs.Painting.{begins, over}
use Rattle.rt_spans.proofs.Loops.{over_cuts}
use Rattle.rt_spans.proofs.Parts.{above_after, around, around_block, around_new, heads_rising}

-- A greater bound of what stands behind so many elements, if the next one keeps to it.
pub rising_from : {X : Type 0} (f : X → ℕ) (low high : ℕ) (xs : List X) (i : ℕ) → AreRisingBy f low xs → ((d : X) → i < length xs → high ≤ f (get_or xs i d)) → AreRisingBy f high (drop i xs)
rising_from f low high [] zero h n = tt
rising_from f low high [] (suc i) h n = tt
rising_from f low high (x ∷ xs) zero h n = (n x (omega arith), h.1)
rising_from f low high (x ∷ xs) (suc i) h n =
    rising_from f (f x + 1) high xs i h.1 (λ d l. n d (omega (arith, l)))

pub near_found : {V : Type 0} (k end : ℕ) (h : SpanEntry V) (items : List (SpanEntry V)) (place : ℕ) (e : SpanEntry V) → AreRisingFrom 0 (h ∷ items) → PartsAt entry_key k items place → entry_key h ≤ k → IsEntryAt (h ∷ items) place e → k ≤ entry_key e → ((d : SpanEntry V) → suc place < length items → end + 1 ≤ entry_key (get_or items (suc place) d)) → IsNear k end (h ∷ items) place
near_found k end h items place e r p l at m n = record {
  entry = e;
  is = at;
  at = omega (arith, m, key_until k h items place e p l (there (h ∷ items) place e at));
  above = rising_from entry_key (entry_key h + 1) (end + 1) items (suc place) r.1 n;
}

set_at : {X : Type 0} (xs : List X) (i : ℕ) (x : X) → i < length xs → set xs i x ≡ take i xs ++ x ∷ drop (suc i) xs
set_at [] i x l = absurd (omega (arith, l))
set_at (y ∷ xs) zero x l = refl
set_at (y ∷ xs) (suc i) x l = ap (λ v. y ∷ v) (set_at xs i x (omega (arith, l)))

-- an entry is put in behind that at a place
pub ends_inserted : {V : Type 0} (first end : ℕ) (h : SpanEntry V) (items now : List (SpanEntry V)) (place : ℕ) (e last : SpanEntry V) → AreRisingFrom 0 (h ∷ items) → first < end → IsNear first end (h ∷ items) place → IsEntryAt (h ∷ items) place e → entry_key last ≡ end → entry_value last ≡ entry_value e → ((d : SpanEntry V) → place < length items → end + 1 ≤ entry_key (get_or items place d)) → now ≡ take place items ++ last ∷ drop place items → EndsAt end (h ∷ items) (h ∷ now) place
ends_inserted {V} first end h items now place e last r less n at is same next made = record {
  gone = [];
  last = last;
  back = drop place items;
  is = ap (λ v. h ∷ v) made;
  at = is;
  above = above;
  cut = inr (record {
    front = take place (h ∷ items);
    entry = e;
    part = last;
    back = drop place items;
    was = at;
    is = more (h ∷ items) place e (last ∷ drop place items) at;
    same = same;
    at = is;
    before = omega (arith, less, n.at, there_same);
    above = above;
  });
}
  where
    above : AreRisingFrom (end + 1) (drop place items)
    above = rising_from entry_key (entry_key h + 1) (end + 1) items place r.1 next

    there_same : entry_key e ≡ entry_key n.entry
    there_same = ap (λ (v : SpanEntry V). entry_key v) (there (h ∷ items) place e at) ∙ sym (at_same (h ∷ items) place e n.entry n.is) where
      at_same : (xs : List (SpanEntry V)) (p : ℕ) (d other : SpanEntry V) → IsEntryAt xs p other → entry_key other ≡ entry_key (get_or xs p d)
      at_same [] zero d other w = absurd cc
      at_same [] (suc p) d other w = absurd cc
      at_same (x ∷ xs) zero d other w = cc
      at_same (x ∷ xs) (suc p) d other w =
          let q : xs ≡ take p xs ++ other ∷ drop (suc p) xs = cc in at_same xs p d other q

-- the next entry begins there
pub ends_there : {V : Type 0} (first end : ℕ) (h : SpanEntry V) (items : List (SpanEntry V)) (place : ℕ) (next : SpanEntry V) → IsNear first end (h ∷ items) place → place < length items → next ≡ get_or items place next → entry_key next ≡ end → EndsAt end (h ∷ items) (h ∷ items) place
ends_there {V} first end h items place next n l e is = record {
  gone = [];
  last = next;
  back = drop (suc place) items;
  is = whole;
  at = is;
  above = n.above;
  cut = inl (subst (λ v. Has end v) (sym whole) (has_back end (take (suc place) (h ∷ items)) (next ∷ drop (suc place) items) (inl is)), sym whole);
}
  where
    whole : h ∷ items ≡ take (suc place) (h ∷ items) ++ next ∷ drop (suc place) items
    whole = ap (λ v. h ∷ v) (cut_out items place next l ∙ ap (λ v. take place items ++ v ∷ drop (suc place) items) (sym e))

-- the next entry, which came before, is moved there
pub ends_moved : {V : Type 0} (first end : ℕ) (h : SpanEntry V) (items now : List (SpanEntry V)) (place : ℕ) (next last : SpanEntry V) → IsNear first end (h ∷ items) place → place < length items → next ≡ get_or items place next → entry_key next < end → entry_key last ≡ end → entry_value last ≡ entry_value next → now ≡ set items place last → EndsAt end (h ∷ items) (h ∷ now) place
ends_moved {V} first end h items now place next last n l e less is same made = record {
  gone = next ∷ [];
  last = last;
  back = drop (suc place) items;
  is = ap (λ v. h ∷ v) (made ∙ set_at items place last l);
  at = is;
  above = n.above;
  cut = inr (record {
    front = take (suc place) (h ∷ items);
    entry = next;
    part = last;
    back = drop (suc place) items;
    was = ap (λ v. h ∷ v) (cut_out items place next l ∙ ap (λ v. take place items ++ v ∷ drop (suc place) items) (sym e));
    is = refl;
    same = same;
    at = is;
    before = less;
    above = n.above;
  });
}

-- one place has one element
pub one_entry : {X : Type 0} (xs : List X) (i : ℕ) (a b : X) → a ≡ get_or xs i a → b ≡ get_or xs i b → i < length xs → a ≡ b
one_entry [] i a b p q l = absurd (omega (arith, l))
one_entry (x ∷ xs) zero a b p q l = p ∙ sym q
one_entry (x ∷ xs) (suc i) a b p q l = one_entry xs i a b p q (omega (arith, l))

get_more : {V : Type 0} (xs : List (SpanEntry V)) (p : ℕ) (e : SpanEntry V) (ys : List (SpanEntry V)) (d : SpanEntry V) → IsEntryAt xs p e → get_or (take p xs ++ e ∷ ys) p d ≡ e
get_more [] zero e ys d h = absurd cc
get_more [] (suc p) e ys d h = absurd cc
get_more (x ∷ xs) zero e ys d h = refl
get_more (x ∷ xs) (suc p) e ys d h =
    let q : xs ≡ take p xs ++ e ∷ drop (suc p) xs = cc in get_more xs p e ys d q

set_more : {V : Type 0} (xs : List (SpanEntry V)) (p : ℕ) (e : SpanEntry V) (ys : List (SpanEntry V)) (x : SpanEntry V) → IsEntryAt xs p e → set (take p xs ++ e ∷ ys) p x ≡ take p xs ++ x ∷ ys
set_more [] zero e ys x h = absurd cc
set_more [] (suc p) e ys x h = absurd cc
set_more (y ∷ xs) zero e ys x h = refl
set_more (y ∷ xs) (suc p) e ys x h =
    let q : xs ≡ take p xs ++ e ∷ drop (suc p) xs = cc in ap (λ v. y ∷ v) (set_more xs p e ys x q)

-- and then the entry at the place gets a value
pub repainted : {V : Type 0} (first end : ℕ) (value : V) (old mid new : List (SpanEntry V)) (place : ℕ) → first < end → IsNear first end old place → EndsAt end old mid place → ((e : SpanEntry V) → e ≡ get_or mid place e → new ≡ set mid place (holding value e)) → Repainted first end value old new
repainted {V} first end value old mid new place less n m made = record {
  parted = take (suc place) old ++ (m.gone ++ m.last ∷ m.back);
  cut = m.cut;
  painted = record {
    front = take place old;
    entry = n.entry;
    gone = m.gone;
    back = m.last ∷ m.back;
    was = more old place n.entry (m.gone ++ m.last ∷ m.back) n.is;
    is = made n.entry here ∙ (ap (λ v. set v place (holding value n.entry)) whole ∙ set_more old place n.entry (m.last ∷ m.back) (holding value n.entry) n.is);
    at = n.at;
    above = (omega (arith, m.at), subst (λ v. AreRisingFrom (v + 1) m.back) (sym m.at) m.above);
    ends = λ _. inl m.at;
  };
}
  where
    whole : mid ≡ take place old ++ n.entry ∷ (m.last ∷ m.back)
    whole = m.is ∙ more old place n.entry (m.last ∷ m.back) n.is

    here : n.entry ≡ get_or mid place n.entry
    here = sym (ap (λ v. get_or v place n.entry) whole ∙ get_more old place n.entry (m.last ∷ m.back) n.entry n.is)

-- what is left of a list begins with the element at the place
behind_place : {V : Type 0} (xs : List (SpanEntry V)) (i : ℕ) (next : SpanEntry V) → i < length xs → next ≡ get_or xs i next → drop i xs ≡ next ∷ drop (suc i) xs
behind_place [] i next l e = absurd (omega (arith, l))
behind_place (x ∷ xs) zero next l e = ap (λ v. v ∷ xs) (sym e)
behind_place (x ∷ xs) (suc i) next l e = behind_place xs i next (omega (arith, l)) e

-- an entry that ends already where it shall gets a value
pub painted_there : {V : Type 0} (first end : ℕ) (value : V) (h : SpanEntry V) (items new : List (SpanEntry V)) (place : ℕ) (e next : SpanEntry V) → AreRisingFrom 0 (h ∷ items) → place < length items → IsEntryAt (h ∷ items) place e → entry_key e ≡ first → next ≡ get_or items place next → entry_key next ≡ end → ((d : SpanEntry V) → d ≡ get_or (h ∷ items) place d → new ≡ set (h ∷ items) place (holding value d)) → Painted first end value (h ∷ items) new
painted_there {V} first end value h items new place e next r l is at ends until made = record {
  front = take place (h ∷ items);
  entry = e;
  gone = [];
  back = drop place items;
  was = is;
  is = made e (there (h ∷ items) place e is) ∙ set_at (h ∷ items) place (holding value e) (omega (arith, l));
  at = at;
  above = subst (λ v. AreRisingFrom end v) (sym rest) (omega (arith, until), subst (λ (v : SpanEntry V). AreRisingFrom (entry_key v + 1) (drop (suc place) items)) (sym ends) (tail_at entry_key (entry_key h + 1) items place next r.1 l));
  ends = λ _. subst (λ v. Has end v) (sym rest) (inl until);
}
  where
    rest : drop place items ≡ next ∷ drop (suc place) items
    rest = behind_place items place next l ends

-- the entry behind another one has its key
pub has_next : {V : Type 0} (k : ℕ) (h : SpanEntry V) (items : List (SpanEntry V)) (place : ℕ) (next : SpanEntry V) → place < length items → next ≡ get_or items place next → entry_key next ≡ k → Has k (h ∷ items)
has_next k h items place next l is at =
    subst (λ v. Has k v) (sym (around (h ∷ items) (suc place) next (omega (arith, l)) is)) (has_back k (take (suc place) (h ∷ items)) (next ∷ drop (suc (suc place)) (h ∷ items)) (inl at))

-- AMONG OTHER BLOCKS

painted_within : {V : Type 0} (first end : ℕ) (value : V) (before old new after : List (SpanEntry V)) → AreRisingFrom 0 (before ++ (old ++ after)) → AreRisingFrom end after → Has end old → Painted first end value old new → PaintsOver first end value (before ++ (old ++ after)) (before ++ (new ++ after))
painted_within {V} first end value before old new after h a m p =
    subst (λ v. PaintsOver first end value (before ++ (old ++ after)) v) (sym is) (subst (λ v. PaintsOver first end value v (xs ++ holding value p.entry ∷ (p.back ++ after))) (sym was) (subst (λ v. PaintsOver first end value (xs ++ p.entry ∷ (p.gone ++ v)) (xs ++ holding value p.entry ∷ v)) (sym start.2) (over first end value xs p.entry p.gone start.0 start.1 (subst (λ v. AreRisingFrom 0 (xs ++ p.entry ∷ (p.gone ++ v))) start.2 rising) p.at start.3)))
  where
    xs : List (SpanEntry V)
    xs = before ++ p.front

    was : before ++ (old ++ after) ≡ xs ++ p.entry ∷ (p.gone ++ (p.back ++ after))
    was = ap (λ v. before ++ (v ++ after)) p.was ∙ (regroup before p.front p.entry (p.gone ++ p.back) after ∙ ap (λ v. xs ++ p.entry ∷ v) (append_assoc p.gone p.back after))

    is : before ++ (new ++ after) ≡ xs ++ holding value p.entry ∷ (p.back ++ after)
    is = ap (λ v. before ++ (v ++ after)) p.is ∙ regroup before p.front (holding value p.entry) p.back after

    rising : AreRisingFrom 0 (xs ++ p.entry ∷ (p.gone ++ (p.back ++ after)))
    rising = subst (λ v. AreRisingFrom 0 v) was h

    above : AreRisingFrom end (p.back ++ after)
    above = join_above (entry_key p.entry + 1) end p.back after (skip entry_key (entry_key p.entry + 1) p.gone (p.back ++ after) (behind entry_key 0 xs p.entry (p.gone ++ (p.back ++ after)) rising)) p.above a

    start : (y : SpanEntry V) × (ys : List (SpanEntry V)) × (p.back ++ after ≡ y ∷ ys) × (entry_key y ≡ end)
    start = begins end (p.back ++ after) above (has_front end p.back after (p.ends m))

-- what stands behind a list with a key comes after it
beyond_key : {V : Type 0} (low k : ℕ) (xs ys : List (SpanEntry V)) → AreRisingFrom low (xs ++ ys) → Has k xs → AreRisingFrom k ys
beyond_key low k [] ys h m = absurd m
beyond_key low k (x ∷ xs) ys h m = elim m as (λ _. AreRisingFrom k ys) [
  | inl is ↦ lower entry_key k (entry_key x + 1) ys (omega (arith, is)) (skip entry_key (entry_key x + 1) xs ys h.1)
  | inr t ↦ beyond_key (entry_key x + 1) k xs ys h.1 t
]

-- a block in which both ends stand
pub painted_block : {V : Type 0} (first end : ℕ) (value : V) (bs : List (Block V)) (i : ℕ) (b new : Block V) → i < length bs → b ≡ get_or bs i b → AreRisingFrom 0 (in_blocks bs) → Has end (in_block b) → Painted first end value (in_block b) (in_block new) → PaintsOver first end value (in_blocks bs) (in_blocks (set bs i new))
painted_block {V} first end value bs i b new l e h m p =
    subst (λ v. PaintsOver first end value (in_blocks bs) v) (sym (around_new bs i new l)) (subst (λ v. PaintsOver first end value v (before ++ (in_block new ++ after))) (sym whole) (painted_within first end value before (in_block b) (in_block new) after rising (beyond_key 0 end (in_block b) after (skip entry_key 0 before (in_block b ++ after) rising) m) m p))
  where
    before : List (SpanEntry V)
    before = in_blocks (take i bs)

    after : List (SpanEntry V)
    after = in_blocks (drop (suc i) bs)

    whole : in_blocks bs ≡ before ++ (in_block b ++ after)
    whole = around_block bs i b l e

    rising : AreRisingFrom 0 (before ++ (in_block b ++ after))
    rising = subst (λ v. AreRisingFrom 0 v) whole h

pub set_blocks : {V : Type 0} (first end : ℕ) (value : V) (bs : List (Block V)) (i : ℕ) (b new : Block V) → i < length bs → b ≡ get_or bs i b → AreRisingFrom 0 (in_blocks bs) → AreRisingBy head_key (end + 1) (drop (suc i) bs) → Repainted first end value (in_block b) (in_block new) → SetsOver first end value (in_blocks bs) (in_blocks (set bs i new))
set_blocks {V} first end value bs i b new l e h a r =
    subst (λ v. SetsOver first end value (in_blocks bs) v) (sym (around_new bs i new l)) (subst (λ v. SetsOver first end value v (before ++ (in_block new ++ after))) (sym whole) (record {
      painted = over_cuts first end value _ one one _ cut (inl (has_back first before (r.parted ++ after) (has_front first r.parted after begins_old), refl)) (painted_within first end value before r.parted (in_block new) after (cut_rising end 0 _ one cut rising) (lower entry_key end (end + 1) after (omega arith) beyond) (cut_has end _ _ r.cut) r.painted);
      begins = has_back first before (in_block new ++ after) (has_front first (in_block new) after (subst (λ v. Has first v) (sym r.painted.is) (has_back first r.painted.front (holding value r.painted.entry ∷ r.painted.back) (inl r.painted.at))));
      ends = has_back end before (in_block new ++ after) (has_front end (in_block new) after (subst (λ v. Has end v) (sym r.painted.is) (has_back end r.painted.front (holding value r.painted.entry ∷ r.painted.back) (inr (r.painted.ends (cut_has end _ _ r.cut))))));
    }))
  where
    before : List (SpanEntry V)
    before = in_blocks (take i bs)

    after : List (SpanEntry V)
    after = in_blocks (drop (suc i) bs)

    one : List (SpanEntry V)
    one = before ++ (r.parted ++ after)

    whole : in_blocks bs ≡ before ++ (in_block b ++ after)
    whole = around_block bs i b l e

    rising : AreRisingFrom 0 (before ++ (in_block b ++ after))
    rising = subst (λ v. AreRisingFrom 0 v) whole h

    beyond : AreRisingFrom (end + 1) after
    beyond = above_after (end + 1) bs i b l e h a

    cut : IsPartedAt end (before ++ (in_block b ++ after)) one
    cut = cut_within end 0 before (in_block b) r.parted after r.cut rising beyond

    begins_old : Has first r.parted
    begins_old = subst (λ v. Has first v) (sym r.painted.was) (has_back first r.painted.front (r.painted.entry ∷ (r.painted.gone ++ r.painted.back)) (inl r.painted.at))

-- a block that is near, with the blocks behind it
pub near_in : {V : Type 0} (first end : ℕ) (bs : List (Block V)) (place entry : ℕ) (b : Block V) → AreRisingFrom 0 (in_blocks bs) → 0 < place → place ≤ length bs → b ≡ get_or bs (place - 1) b → ((d : Block V) → place < length bs → end + 1 ≤ head_key (get_or bs place d)) → vec_len b.rest < 127 → entry ≤ vec_len b.rest → IsNear first end (in_block b) entry → IsNearIn first end bs (place - 1) entry
near_in {V} first end bs place entry b h some within e next few inside n = record {
  within = omega (arith, some, within);
  near = λ d is. subst (λ v. IsNear first end (in_block v) entry) (same d is) n;
  few = λ d is. subst (λ (v : Block V). vec_len v.rest < 127) (same d is) few;
  place = λ d is. subst (λ (v : Block V). entry ≤ vec_len v.rest) (same d is) inside;
  later = subst (λ v. AreRisingBy head_key (end + 1) (drop v bs)) back (rising_from head_key 0 (end + 1) bs place (heads_rising 0 bs h) next);
}
  where
    back : place ≡ suc (place - 1)
    back = omega (arith, some)

    same : (d : Block V) → d ≡ get_or bs (place - 1) d → b ≡ d
    same d is = one_entry bs (place - 1) b d e is (omega (arith, some, within))

-- where a value is painted an entry begins at the first key
pub has_begin : {V : Type 0} (first end : ℕ) (value : V) (old new : List (SpanEntry V)) → Painted first end value old new → Has first old
has_begin first end value old new p = subst (λ v. Has first v) (sym p.was) (has_back first p.front (p.entry ∷ (p.gone ++ p.back)) (inl p.at))
