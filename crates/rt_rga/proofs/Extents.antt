-- From which stamp to which spans go, and what lies between.
use Rattle.std.proofs.Common.{◌≡◌, ◌∙◌, ℕ, ◌-◌, ◌&&◌, ◌||◌, not, Bool, Bor, true, false, List, [], ◌∷◌, Option, None, Some, ap, arith, cond, refl, sym, subst, length, slice_get}
use Rattle.std.specs.List.{list_all}
use Rattle.std.specs.Prelude.{if◌then◌else◌}
use Rattle.std.specs.Map.{update}
use Rattle.std.specs.Str.{bytes_eq}
use Rattle.std.proofs.lemmas.Bool.{and_parts}
use Rattle.std.proofs.lemmas.Bool.Decides.{nat_tests}
use Rattle.indexmap.specs.IndexMap.{IndexMap, get_by}
use Rattle.rt_stamps.specs.declared.limits.TheConstants.{MOST_SPANS}
use Rattle.rt_stamps.specs.declared.stamp.Span.{Span}
use Rattle.rt_stamps.specs.declared.stamp.Stamp.{Stamp}
use Rattle.rt_stamps.specs.Spans.{each_next, is_clear_of, is_in_span, is_span}
use Rattle.rt_ops.specs.Operations.{Name}
use Rattle.rt_ops.specs.Rules.{are_spans, is_within}
use Rattle.rt_store.specs.Spans.{is_in_spans, last_stamp, precedes}
use Rattle.rt_rga.specs.declared.extent.Extent.{Extent}
use Rattle.rt_rga.specs.Extents.{IsAdded, covers, covers_under, extent_of, is_apart_from, joined_extents, joined_if_apart, last_span, may_cover}
use Rattle.rt_rga.proofs.Skipping.{split}
use Rattle.rt_tags.proofs.Places.{name_itself, same_name}

-- SPANS THAT ARE SORTED

-- spans of which each is clear of the next
abbrev AreClear : List Span → Type 0
AreClear spans = (list_all is_span spans ≡ true) × (each_next is_clear_of spans ≡ true)

clear_of_rules : (spans : List Span) → are_spans spans ≡ true → AreClear spans
clear_of_rules spans h =
    let p = and_parts (is_within 1 MOST_SPANS (length spans)) (list_all is_span spans && each_next is_clear_of spans) h in
    and_parts (list_all is_span spans) (each_next is_clear_of spans) p.1

rest_clear : (a z : Span) (spans : List Span) → AreClear (a ∷ z ∷ spans) → AreClear (z ∷ spans)
rest_clear a z spans h = ((and_parts (is_span a) (list_all is_span (z ∷ spans)) h.0).1, (and_parts (is_clear_of a z) (each_next is_clear_of (z ∷ spans)) h.1).1)

next_clear : (a z : Span) (spans : List Span) → AreClear (a ∷ z ∷ spans) → is_clear_of a z ≡ true
next_clear a z spans h = (and_parts (is_clear_of a z) (each_next is_clear_of (z ∷ spans)) h.1).0

first_span : (a : Span) (spans : List Span) → AreClear (a ∷ spans) → is_span a ≡ true
first_span a spans h = (and_parts (is_span a) (list_all is_span spans) h.0).0

abbrev first_stamp : Span → Stamp
first_stamp span = record { count = span.first; site = span.site }

only : (b : Bool) → (b || false) ≡ true → b ≡ true
only b h = grind (arith, h)

-- no stamp of a span comes before its first, or after its last
not_before : (a : Span) (s : Stamp) → is_in_span a s ≡ true → precedes s (first_stamp a) ≡ false
not_before a s h = grind (arith, nat_tests)

not_after : (a : Span) (s : Stamp) → is_in_span a s ≡ true → precedes (last_stamp a) s ≡ false
not_after a s h = grind (arith, nat_tests)

before_next : (a z : Span) (s : Stamp) → is_clear_of a z ≡ true → is_span a ≡ true → precedes s (first_stamp z) ≡ false → precedes s (first_stamp a) ≡ false
before_next a z s c f h = grind (arith, nat_tests)

after_next : (a z : Span) (s : Stamp) → is_clear_of a z ≡ true → is_span z ≡ true → precedes (last_stamp a) s ≡ false → precedes (last_stamp z) s ≡ false
after_next a z s c f h = grind (arith, nat_tests)

-- none of some spans' stamps comes before the first of the first one
from_first : (a : Span) (spans : List Span) (s : Stamp) → AreClear (a ∷ spans) → is_in_spans (a ∷ spans) s ≡ true → precedes s (first_stamp a) ≡ false
from_first a [] s h k = not_before a s (only (is_in_span a s) k)
from_first a (z ∷ spans) s h k = split (is_in_span a s) (λ e. not_before a s e)
    (λ e. before_next a z s (next_clear a z spans h) (first_span a (z ∷ spans) h)
    (from_first z spans s (rest_clear a z spans h) (ap (λ b. b || is_in_spans (z ∷ spans) s) (sym e) ∙ k)))

-- what doesn't come after the first of them doesn't come after the last
up_to_last : (a : Span) (spans : List Span) (s : Stamp) → AreClear (a ∷ spans) → precedes (last_stamp a) s ≡ false → precedes (last_stamp (last_span a spans)) s ≡ false
up_to_last a [] s h k = k
up_to_last a (z ∷ spans) s h k =
    let clear = rest_clear a z spans h in
    up_to_last z spans s clear (after_next a z s (next_clear a z spans h) (first_span z spans clear) k)

within_last : (a : Span) (spans : List Span) (s : Stamp) → AreClear (a ∷ spans) → is_in_spans (a ∷ spans) s ≡ true → precedes (last_stamp (last_span a spans)) s ≡ false
within_last a [] s h k = not_after a s (only (is_in_span a s) k)
within_last a (z ∷ spans) s h k = split (is_in_span a s) (λ e. up_to_last a (z ∷ spans) s h (not_after a s e))
    (λ e. within_last z spans s (rest_clear a z spans h) (ap (λ b. b || is_in_spans (z ∷ spans) s) (sym e) ∙ k))

-- which stands last
pub got_last : (span : Span) (spans : List Span) (last : Span) → slice_get (span ∷ spans) (length spans) ≡ Some last → last_span span spans ≡ last
got_last span [] last e = grind (arith, e)
got_last span (next ∷ spans) last e = got_last next spans last e

pub got_extent : (spans : List Span) (first last : Span) → slice_get spans 0 ≡ Some first → slice_get spans (length spans - 1) ≡ Some last
    → Some (record { first = first_stamp first; last = last_stamp last }) ≡ extent_of spans
got_extent [] first last e f = grind (arith, e)
got_extent (a ∷ spans) first last e f =
    let one : a ≡ first = grind (arith, e) in
    let other : last_span a spans ≡ last = got_last a spans last (ap (slice_get (a ∷ spans)) less ∙ f) in
    λ i. Some (record { first = first_stamp (sym one i); last = last_stamp (sym other i) })
  where
    less : length spans ≡ length (a ∷ spans) - 1
    less = grind arith

-- so the extent of spans covers their stamps
pub covered : (spans : List Span) (extent : Extent) (s : Stamp) → are_spans spans ≡ true → extent_of spans ≡ Some extent → is_in_spans spans s ≡ true → covers extent s ≡ true
covered [] extent s r e k = absurd (cc k)
covered (a ∷ spans) extent s r e k =
    let clear = clear_of_rules (a ∷ spans) r in
    subst (λ (o : Option Extent). may_cover o s ≡ true) e
    (λ i. not (from_first a spans s clear k i) && not (within_last a spans s clear k i))

-- WHAT ONE OR ANOTHER COVERS

-- what comes not before one of two comes not before the earlier one
not_before_one : (a b s : Stamp) (c : Bool) → precedes b a ≡ c → precedes s a ≡ false → precedes s (if c then b else a) ≡ false
not_before_one a b s true e h = grind (arith, nat_tests)
not_before_one a b s false e h = h

not_before_other : (a b s : Stamp) (c : Bool) → precedes b a ≡ c → precedes s b ≡ false → precedes s (if c then b else a) ≡ false
not_before_other a b s true e h = h
not_before_other a b s false e h = grind (arith, nat_tests)

-- what comes not after one of two comes not after the later one
not_after_one : (a b s : Stamp) (c : Bool) → precedes a b ≡ c → precedes a s ≡ false → precedes (if c then b else a) s ≡ false
not_after_one a b s true e h = grind (arith, nat_tests)
not_after_one a b s false e h = h

not_after_other : (a b s : Stamp) (c : Bool) → precedes a b ≡ c → precedes b s ≡ false → precedes (if c then b else a) s ≡ false
not_after_other a b s true e h = h
not_after_other a b s false e h = grind (arith, nat_tests)

neither : (a b : Bool) → (not a && not b) ≡ true → (a ≡ false) × (b ≡ false)
neither a b h = (grind (arith, h), grind (arith, h))

-- so two that are joined cover what one of them does
in_both : (a b : Extent) (s : Stamp) → (covers a s || covers b s) ≡ true → covers (joined_extents a b) s ≡ true
in_both a b s h = split (covers a s)
    (λ t. let out = neither (precedes s a.first) (precedes a.last s) t in
    λ i. not (not_before_one a.first b.first s (precedes b.first a.first) refl out.0 i) && not (not_after_one a.last b.last s (precedes a.last b.last) refl out.1 i))
    (λ f. let out = neither (precedes s b.first) (precedes b.last s) (ap (λ x. x || covers b s) (sym f) ∙ h) in
    λ i. not (not_before_other a.first b.first s (precedes b.first a.first) refl out.0 i) && not (not_after_other a.last b.last s (precedes a.last b.last) refl out.1 i))

-- what doesn't come after one stamp comes before a later one
passed : (p q s : Stamp) → precedes p q ≡ true → precedes p s ≡ false → precedes s q ≡ true
passed p q s h k = grind (arith, nat_tests)

not_both : (p q x1 x2 y1 y2 : Bool) → (p || q) ≡ true → (p ≡ true → x2 ≡ false → y1 ≡ true) → (q ≡ true → y2 ≡ false → x1 ≡ true)
    → ((not x1 && not x2) && (not y1 && not y2)) ≡ false
not_both p q true x2 y1 y2 h f g = refl
not_both p q false true y1 y2 h f g = refl
not_both p q false false true y2 h f g = refl
not_both p q false false false true h f g = refl
not_both true q false false false false h f g = absurd (cc (f refl refl))
not_both false true false false false false h f g = absurd (cc (g refl refl))
not_both false false false false false false h f g = absurd (cc h)

-- no stamp is covered by two that are apart
disjoint : (a b : Extent) (s : Stamp) → is_apart_from a b ≡ true → (covers a s && covers b s) ≡ false
disjoint a b s h = not_both (precedes a.last b.first) (precedes b.last a.first) (precedes s a.first) (precedes a.last s) (precedes s b.first) (precedes b.last s) h
    (λ e k. passed a.last b.first s e k)
    (λ e k. passed b.last a.first s e k)

-- what is joined with another one that it is apart from, or stands alone
pub both_clear : (a : Extent) (other : Option Extent) (both : Extent) → joined_if_apart a other ≡ Some both
    → ((s : Stamp) → (covers a s && may_cover other s) ≡ false) × ((s : Stamp) → (covers a s || may_cover other s) ≡ true → covers both s ≡ true)
both_clear a None both e =
    (λ s. none (covers a s), λ s h. subst (λ (o : Option Extent). may_cover o s ≡ true) e (only (covers a s) h))
  where
    none : (b : Bool) → (b && false) ≡ false
    none b = grind arith
both_clear a (Some b) both e = split (is_apart_from a b)
    (λ t. let is : Some (joined_extents a b) ≡ Some both = ap (λ c. if c then Some (joined_extents a b) else None) (sym t) ∙ e in
    (λ s. disjoint a b s t, λ s h. subst (λ (o : Option Extent). may_cover o s ≡ true) is (in_both a b s h)))
    (λ f. absurd (cc (ap (λ c. if c then Some (joined_extents a b) else None) (sym f) ∙ e)))

-- UNDER A NAME

-- spans that an extent covers are added where that is put, with the one that was there, under their name
pub put_there : {S : Type 0} (spans : List Span) (name : Name) (old new : IndexMap (Bor (List ℕ)) Extent S) (extent both : Extent)
    → ((s : Stamp) → is_in_spans spans s ≡ true → covers extent s ≡ true)
    → joined_if_apart extent (get_by (λ key. bytes_eq name key.now) old) ≡ Some both
    → ((other : Name) → get_by (λ k. bytes_eq other k.now) new ≡ update bytes_eq (λ n. get_by (λ k. bytes_eq n k.now) old) name (Some both) other)
    → IsAdded spans name old new
put_there spans name old new extent both within clear updates = record {
  disjoint = λ s. separate (is_in_spans spans s) (covers extent s) (covers_under old name s) (within s) (beside.0 s);
  added = λ s i. at name s ∙ ap (λ b. may_cover (cond b (Some both) (get_by (λ k. bytes_eq name k.now) old)) s) (name_itself name)
      ∙ beside.1 s (ap (λ b. b || covers_under old name s) (within s i));
  kept = λ other s r. split (bytes_eq name other)
      (λ t. at other s ∙ ap (λ b. may_cover (cond b (Some both) (get_by (λ k. bytes_eq other k.now) old)) s) t
      ∙ beside.1 s (second (covers extent s) (covers_under old name s) (ap (λ n. covers_under old n s) (same_name name other t) ∙ r)))
      (λ f. at other s ∙ ap (λ b. may_cover (cond b (Some both) (get_by (λ k. bytes_eq other k.now) old)) s) f ∙ r);
}
  where
    beside : ((s : Stamp) → (covers extent s && covers_under old name s) ≡ false) × ((s : Stamp) → (covers extent s || covers_under old name s) ≡ true → covers both s ≡ true)
    beside = both_clear extent (get_by (λ key. bytes_eq name key.now) old) both clear

    at : (other : Name) (s : Stamp) → covers_under new other s ≡ may_cover (cond (bytes_eq name other) (Some both) (get_by (λ k. bytes_eq other k.now) old)) s
    at other s = ap (λ (o : Option Extent). may_cover o s) (updates other)

    separate : (b x y : Bool) → (b ≡ true → x ≡ true) → (x && y) ≡ false → (b && y) ≡ false
    separate false x y f h = refl
    separate true x y f h = sym (ap (λ z. z && y) (f refl)) ∙ h

    second : (a b : Bool) → b ≡ true → (a || b) ≡ true
    second a b h = grind (arith, h)
