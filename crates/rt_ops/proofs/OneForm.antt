-- Spans that keep the rules and have the same stamps are the same spans.
use Rattle.std.proofs.Common.{◌≡◌, ◌+◌, ◌<◌, ◌==◌, ◌&&◌, ◌||◌, nat_le, nat_lt, Bool, true, false, List, [], ◌∷◌, length, refl, sym, ap, ◌∙◌, arith}
use Rattle.std.specs.List.{list_all, list_any}
use Rattle.std.proofs.lemmas.Bool.{and_parts, or_left}
use Rattle.std.proofs.lemmas.Bool.Decides.{nat_tests}
use Rattle.rt_stamps.specs.declared.limits.TheConstants.{MOST_SPANS}
use Rattle.rt_stamps.specs.declared.stamp.Span.{Span}
use Rattle.rt_stamps.specs.declared.stamp.Stamp.{Stamp}
use Rattle.rt_stamps.specs.Spans.{each_next, is_clear_of, is_in_span, is_span}
use Rattle.rt_ops.specs.Rules.{are_spans, is_within}

abbrev has : List Span → Stamp → Bool
has spans stamp = list_any (λ span. is_in_span span stamp) spans

abbrev AreClear : List Span → Type 0
AreClear spans = (list_all is_span spans ≡ true) × (each_next is_clear_of spans ≡ true)

split : {A : Type 0} (b : Bool) → (b ≡ true → A) → (b ≡ false → A) → A
split true f g = f refl
split false f g = g refl

rest_clear : (a : Span) (spans : List Span) → AreClear (a ∷ spans) → AreClear spans
rest_clear a [] h = (refl, refl)
rest_clear a (z ∷ spans) h = ((and_parts (is_span a) (list_all is_span (z ∷ spans)) h.0).1, (and_parts (is_clear_of a z) (each_next is_clear_of (z ∷ spans)) h.1).1)

first_span : (a : Span) (spans : List Span) → AreClear (a ∷ spans) → is_span a ≡ true
first_span a spans h = (and_parts (is_span a) (list_all is_span spans) h.0).0

-- ---- the stamps behind _ a span, with at least one count between

abbrev is_past : Span → Stamp → Bool
is_past a s = nat_lt a.site s.site || ((a.site == s.site) && nat_lt (a.last + 1) s.count)

past_next : (a z : Span) (s : Stamp) → is_clear_of a z ≡ true → is_in_span z s ≡ true → is_past a s ≡ true
past_next a z s h k = grind (arith, nat_tests)

past_more : (a z : Span) (s : Stamp) → is_clear_of a z ≡ true → is_span z ≡ true → is_past z s ≡ true → is_past a s ≡ true
past_more a z s h f k = grind (arith, nat_tests)

past_all : (a : Span) (spans : List Span) (s : Stamp) → AreClear (a ∷ spans) → has spans s ≡ true → is_past a s ≡ true
past_all a [] s h k = absurd (cc k)
past_all a (z ∷ spans) s h k =
    let clear = (and_parts (is_clear_of a z) (each_next is_clear_of (z ∷ spans)) h.1).0 in
    let rest = rest_clear a (z ∷ spans) h in
    split (is_in_span z s)
    (λ e. past_next a z s clear e)
    (λ e. past_more a z s clear (first_span z spans rest) (past_all z spans s rest (ap (λ b. b || has spans s) (sym e) ∙ k)))

past_is_out : (a : Span) (s : Stamp) → is_past a s ≡ true → is_in_span a s ≡ true → ⊥
past_is_out a s h k = grind (arith, nat_tests)

not_in_rest : (a : Span) (spans : List Span) (s : Stamp) → AreClear (a ∷ spans) → is_in_span a s ≡ true → has spans s ≡ false
not_in_rest a spans s h k = split (has spans s) (λ e. absurd (past_is_out a s (past_all a spans s h e) k)) (λ e. e)

-- ---- the first span

abbrev is_from : Span → Stamp → Bool
is_from a s = nat_lt a.site s.site || ((a.site == s.site) && nat_le a.first s.count)

from_in : (a : Span) (s : Stamp) → is_in_span a s ≡ true → is_from a s ≡ true
from_in a s h = grind (arith, nat_tests)

from_past : (a : Span) (s : Stamp) → is_span a ≡ true → is_past a s ≡ true → is_from a s ≡ true
from_past a s f h = grind (arith, nat_tests)

from_first : (a : Span) (spans : List Span) (s : Stamp) → AreClear (a ∷ spans) → has (a ∷ spans) s ≡ true → is_from a s ≡ true
from_first a spans s h k = split (is_in_span a s)
    (λ e. from_in a s e)
    (λ e. from_past a s (first_span a spans h) (past_all a spans s h (ap (λ b. b || has spans s) (sym e) ∙ k)))

abbrev first_stamp : Span → Stamp
first_stamp a = record { count = a.first; site = a.site }

first_in : (a : Span) → is_span a ≡ true → is_in_span a (first_stamp a) ≡ true
first_in a h = grind (arith, nat_tests)

has_first : (a : Span) (spans : List Span) → AreClear (a ∷ spans) → has (a ∷ spans) (first_stamp a) ≡ true
has_first a spans h = or_left (is_in_span a (first_stamp a)) (has spans (first_stamp a)) (first_in a (first_span a spans h))

both_first : (a b : Span) → is_from a (first_stamp b) ≡ true → is_from b (first_stamp a) ≡ true → (a.site ≡ b.site) × (a.first ≡ b.first)
both_first a b h k = (grind (arith, nat_tests), grind (arith, nat_tests))

-- the stamp behind _ a span's last one
abbrev next_of : Span → Stamp
next_of a = record { count = a.last + 1; site = a.site }

next_in : (a b : Span) → a.site ≡ b.site → a.first ≡ b.first → is_span a ≡ true → a.last < b.last → is_in_span b (next_of a) ≡ true
next_in a b e f h l = grind (arith, nat_tests)

next_out : (a : Span) → is_in_span a (next_of a) ≡ false
next_out a = grind (arith, nat_tests)

next_not_past : (a : Span) → is_past a (next_of a) ≡ false
next_not_past a = grind (arith, nat_tests)

not_longer : (a b : Span) (one other : List Span) → AreClear (a ∷ one) → ((s : Stamp) → has (a ∷ one) s ≡ has (b ∷ other) s) → a.site ≡ b.site → a.first ≡ b.first → a.last < b.last → ⊥
not_longer a b one other h same e f l =
    let t = next_of a in
    let theirs : has (b ∷ other) t ≡ true = or_left (is_in_span b t) (has other t) (next_in a b e f (first_span a one h) l) in
    let mine : has one t ≡ true = ap (λ b. b || has one t) (sym (next_out a)) ∙ same t ∙ theirs in
    let past : is_past a t ≡ true = past_all a one t h mine in
    cc (sym past ∙ next_not_past a)

same_last : (a b : Span) (one other : List Span) → AreClear (a ∷ one) → AreClear (b ∷ other) → ((s : Stamp) → has (a ∷ one) s ≡ has (b ∷ other) s) → a.site ≡ b.site → a.first ≡ b.first → a.last ≡ b.last
same_last a b one other h k same e f = split (nat_lt a.last b.last)
    (λ l. absurd (not_longer a b one other h same e f (grind (arith, nat_tests))))
    (λ l. split (nat_lt b.last a.last)
    (λ m. absurd (not_longer b a other one k (λ s. sym (same s)) (sym e) (sym f) (grind (arith, nat_tests))))
    (λ m. grind (arith, nat_tests)))

same_span : (a b : Span) (one other : List Span) → AreClear (a ∷ one) → AreClear (b ∷ other) → ((s : Stamp) → has (a ∷ one) s ≡ has (b ∷ other) s) → a ≡ b
same_span a b one other h k same =
    let first = both_first a b
    (from_first a one (first_stamp b) h (same (first_stamp b) ∙ has_first b other k))
    (from_first b other (first_stamp a) k (sym (same (first_stamp a)) ∙ has_first a one h)) in
    let last : a.last ≡ b.last = same_last a b one other h k same first.0 first.1 in
    λ i. record { site = first.0 i; first = first.1 i; last = last i }

-- ---- all of them

one_form : (one other : List Span) → AreClear one → AreClear other → ((s : Stamp) → has one s ≡ has other s) → one ≡ other
one_form [] [] h k same = refl
one_form [] (b ∷ other) h k same = absurd (cc (same (first_stamp b) ∙ has_first b other k))
one_form (a ∷ one) [] h k same = absurd (cc (sym (same (first_stamp a)) ∙ has_first a one h))
one_form (a ∷ one) (b ∷ other) h k same =
    let e : a ≡ b = same_span a b one other h k same in
    let more : (s : Stamp) → has one s ≡ has other s = λ s. split (is_in_span a s)
    (λ i. not_in_rest a one s h i ∙ sym (not_in_rest b other s k (ap (λ x. is_in_span x s) (sym e) ∙ i)))
    (λ n. sym (ap (λ b. b || has one s) n) ∙ same s ∙ ap (λ x. is_in_span x s || has other s) (sym e) ∙ ap (λ b. b || has other s) n) in
    let rest : one ≡ other = one_form one other (rest_clear a one h) (rest_clear b other k) more in
    λ i. e i ∷ rest i

clear_of_rules : (spans : List Span) → are_spans spans ≡ true → AreClear spans
clear_of_rules spans h =
    let p = and_parts (is_within 1 MOST_SPANS (length spans)) (list_all is_span spans && each_next is_clear_of spans) h in
    and_parts (list_all is_span spans) (each_next is_clear_of spans) p.1

pub one_list_of_spans : (one other : List Span) → are_spans one ≡ true → are_spans other ≡ true → ((stamp : Stamp) → list_any (λ span. is_in_span span stamp) one ≡ list_any (λ span. is_in_span span stamp) other) → one ≡ other
one_list_of_spans one other h k same = one_form one other (clear_of_rules one h) (clear_of_rules other k) same
