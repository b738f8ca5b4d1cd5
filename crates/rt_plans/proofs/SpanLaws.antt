-- The longest runs of stamps, as spans.
use Rattle.std.proofs.Common.{◌≡◌, ℕ, suc, ◌+◌, ◌<◌, List, [], ◌∷◌, Bool, true, false, cond, not, ◌||◌, ◌&&◌, length, get_or, filter, refl, sym, ◌∙◌, ap, arith}
use Rattle.std.specs.Prelude.{nat_le}
use Rattle.std.specs.List.{list_all}
use Rattle.std.specs.List.Sorted.{IsPermutation}
use Rattle.std.proofs.lemmas.Bool.{or_from, and_from, and_parts, cond-true, cond-false}
use Rattle.std.proofs.lemmas.Bool.Decides.{nat_tests}
use Rattle.std.proofs.lemmas.List.Sums.{length-filter}
use Rattle.std.proofs.lemmas.List.Sorted.{list_any-IsPermutation, sum_by-IsPermutation}
use Rattle.rt_stamps.specs.declared.stamp.Span.{Span}
use Rattle.rt_stamps.specs.declared.stamp.Stamp.{Stamp}
use Rattle.rt_stamps.specs.Stamps.{is_same}
use Rattle.rt_store.specs.Cells.{is_in_span}
use Rattle.rt_stamps.specs.Spans.{span_of}
use Rattle.rt_plans.specs.NamedSpans.{attached, consecutive_spans}
use Rattle.rt_plans.specs.Removals.{span_count}
use Rattle.rt_store.specs.Spans.{each_next, first_in_span, is_among, is_clear_of, is_in_spans, is_span, last_stamp, next_stamp, precedes}
use Rattle.rt_store.proofs.Distinct.{split}

-- WHAT THE RUNS HOLD

forward_step : (b : Bool) (span next : Span) (spans : List Span) → is_same (first_in_span next) (next_stamp (last_stamp span)) ≡ b → is_span span ≡ true → is_span next && list_all is_span spans ≡ true
    → list_all is_span (cond b (record next { first = span.first } ∷ spans) (span ∷ next ∷ spans)) ≡ true
forward_step true span next spans e h k =
    let p = and_parts (is_span next) (list_all is_span spans) k in
    let n = p.0 in
    let both : nat_le span.first next.last ≡ true = grind (arith, nat_tests) in
    and_from _ _ both p.1
forward_step false span next spans e h k = and_from (is_span span) _ h k

forward_attached : (span : Span) (spans : List Span) → is_span span ≡ true → list_all is_span spans ≡ true → list_all is_span (attached span spans) ≡ true
forward_attached span [] h k = and_from (is_span span) _ h refl
forward_attached span (next ∷ spans) h k = forward_step (is_same (first_in_span next) (next_stamp (last_stamp span))) span next spans refl h k

pub one_span : (s : Stamp) → is_span (span_of s) ≡ true
one_span s = grind (arith, nat_tests)

-- each run goes forward
pub forward_runs : (ss : List Stamp) → list_all is_span (consecutive_spans ss) ≡ true
forward_runs [] = refl
forward_runs (s ∷ ss) = forward_attached (span_of s) (consecutive_spans ss) (one_span s) (forward_runs ss)

or_assoc : (a b c : Bool) → (a || b) || c ≡ a || (b || c)
or_assoc true b c = refl
or_assoc false b c = refl

-- two spans as one
pub joined_span : (span next : Span) (s : Stamp) → is_same (first_in_span next) (next_stamp (last_stamp span)) ≡ true → is_span span ≡ true → is_span next ≡ true
    → is_in_span (record next { first = span.first }) s ≡ is_in_span span s || is_in_span next s
joined_span span next s e h k = grind (arith, nat_tests)

held_step : (b : Bool) (span next : Span) (spans : List Span) (s : Stamp) → is_same (first_in_span next) (next_stamp (last_stamp span)) ≡ b → is_span span ≡ true → is_span next ≡ true
    → is_in_spans (cond b (record next { first = span.first } ∷ spans) (span ∷ next ∷ spans)) s ≡ is_in_span span s || is_in_spans (next ∷ spans) s
held_step true span next spans s e h k = ap (λ b. b || is_in_spans spans s) (joined_span span next s e h k) ∙ or_assoc (is_in_span span s) (is_in_span next s) (is_in_spans spans s)
held_step false span next spans s e h k = refl

held_attached : (span : Span) (spans : List Span) (s : Stamp) → is_span span ≡ true → list_all is_span spans ≡ true → is_in_spans (attached span spans) s ≡ is_in_span span s || is_in_spans spans s
held_attached span [] s h k = refl
held_attached span (next ∷ spans) s h k =
    held_step (is_same (first_in_span next) (next_stamp (last_stamp span))) span next spans s refl h (and_parts (is_span next) (list_all is_span spans) k).0

pub one_held : (s t : Stamp) → is_in_span (span_of s) t ≡ is_same s t
one_held s t = grind (arith, nat_tests)

-- the runs hold the stamps and no others
pub held_runs : (ss : List Stamp) (s : Stamp) → is_in_spans (consecutive_spans ss) s ≡ is_among ss s
held_runs [] s = refl
held_runs (t ∷ ss) s = held_attached (span_of t) (consecutive_spans ss) s (one_span t) (forward_runs ss) ∙ (λ i. one_held t s i || held_runs ss s i)

-- THE FIRST OF THE RUNS

-- spans begin with a stamp
abbrev pub Begins : Stamp → List Span → Type 0
Begins t spans = (y : Span) × (ys : List Span) × (spans ≡ y ∷ ys) × (y.site ≡ t.site) × (y.first ≡ t.count)

pub begins_attached : (t : Stamp) (spans : List Span) → Begins t (attached (span_of t) spans)
begins_attached t [] = (span_of t, [], refl, refl, refl)
begins_attached t (next ∷ spans) = split (is_same (first_in_span next) (next_stamp t))
    (λ e. let site : next.site ≡ t.site = grind (arith, nat_tests) in (record next { first = t.count }, spans, cond-true _ _ _ e, site, refl))
    (λ e. (span_of t, next ∷ spans, cond-false _ _ _ e, refl, refl))

-- HOW MANY RUNS

length_step : (b : Bool) (x y z : Span) (ys : List Span) → length (cond b (x ∷ ys) (z ∷ y ∷ ys)) ≡ cond b 0 1 + length (y ∷ ys)
length_step true x y z ys = omega arith
length_step false x y z ys = omega arith

length_attached : (s t : Stamp) (zs : List Span) → Begins t zs → length (attached (span_of s) zs) ≡ cond (is_same t (next_stamp s)) 0 1 + length zs
length_attached s t zs h =
    let y = h.0 in
    let ys = h.1 in
    let first : first_in_span y ≡ t = λ i. record { count = h.4 i; site = h.3 i } in
    ap (λ l. length (attached (span_of s) l)) h.2
    ∙ length_step (is_same (first_in_span y) (next_stamp s)) (record y { first = s.count }) y (span_of s) ys
    ∙ ap (λ q. cond (is_same q (next_stamp s)) 0 1 + length (y ∷ ys)) first
    ∙ ap (λ l. cond (is_same t (next_stamp s)) 0 1 + length l) (sym h.2)

after_trans : (s t : Stamp) (ss : List Stamp) → precedes s t ≡ true → list_all (precedes t) ss ≡ true → list_all (precedes s) ss ≡ true
after_trans s t [] h k = refl
after_trans s t (x ∷ ss) h k =
    let p = and_parts (precedes t x) (list_all (precedes t) ss) k in
    let q = p.0 in
    let far : precedes s x ≡ true = grind (arith, nat_tests) in
    and_from (precedes s x) _ far (after_trans s t ss h p.1)

pub all_after : (s : Stamp) (ss : List Stamp) → each_next precedes (s ∷ ss) ≡ true → list_all (precedes s) ss ≡ true
all_after s [] h = refl
all_after s (t ∷ ss) h =
    let p = and_parts (precedes s t) (each_next precedes (t ∷ ss)) h in
    and_from (precedes s t) _ p.0 (after_trans s t ss p.0 (all_after t ss p.1))

pub not_next : (s y : Stamp) → precedes s y ≡ true → is_same s (next_stamp y) ≡ false
not_next s y h = grind (arith, nat_tests)

pub self_not_next : (s : Stamp) → is_same s (next_stamp s) ≡ false
self_not_next s = grind (arith, nat_tests)

not_between : (s t x : Stamp) → precedes s t ≡ true → precedes t x ≡ true → is_same x (next_stamp s) ≡ false
not_between s t x h k = grind (arith, nat_tests)

pub none_between : (s t : Stamp) (ss : List Stamp) → precedes s t ≡ true → list_all (precedes t) ss ≡ true → is_among ss (next_stamp s) ≡ false
none_between s t [] h k = refl
none_between s t (x ∷ ss) h k =
    let p = and_parts (precedes t x) (list_all (precedes t) ss) k in
    or_from (is_same x (next_stamp s)) _ (not_between s t x h p.0) (none_between s t ss h p.1)

-- the last stamps of runs among some
abbrev pub lasts_of : List Stamp → List Stamp → List Stamp
lasts_of all ss = filter (λ x. not (is_among all (next_stamp x))) ss

pub lasts_same : (s : Stamp) (all ys : List Stamp) → list_all (precedes s) ys ≡ true → lasts_of (s ∷ all) ys ≡ lasts_of all ys
lasts_same s all [] h = refl
lasts_same s all (y ∷ ys) h =
    let p = and_parts (precedes s y) (list_all (precedes s) ys) h in
    let e = not_next s y p.0 in
    let rest = lasts_same s all ys p.1 in
    λ i. cond (not (e i || is_among all (next_stamp y))) (y ∷ rest i) (rest i)

pub length_lasts : (b : Bool) (x : Stamp) (l : List Stamp) → length (cond (not b) (x ∷ l) l) ≡ cond b 0 1 + length l
length_lasts true x l = omega arith
length_lasts false x l = omega arith

or_false : (b c : Bool) → c ≡ false → b || c ≡ b
or_false true c h = refl
or_false false c h = h

counted_more : (s t : Stamp) (ss : List Stamp) → each_next precedes (s ∷ t ∷ ss) ≡ true → span_count (s ∷ t ∷ ss) ≡ cond (is_same t (next_stamp s)) 0 1 + span_count (t ∷ ss)
counted_more s t ss h =
    let all = s ∷ t ∷ ss in
    let p = and_parts (precedes s t) (each_next precedes (t ∷ ss)) h in
    let next : is_among all (next_stamp s) ≡ is_same t (next_stamp s) =
    ap (λ b. b || is_among (t ∷ ss) (next_stamp s)) (self_not_next s) ∙ or_false (is_same t (next_stamp s)) _ (none_between s t ss p.0 (all_after t ss p.1)) in
    length_lasts (is_among all (next_stamp s)) s (lasts_of all (t ∷ ss))
    ∙ (λ i. cond (next i) 0 1 + length (lasts_same s (t ∷ ss) (t ∷ ss) (all_after s (t ∷ ss) h) i))

counted_one : (s : Stamp) → span_count (s ∷ []) ≡ 1
counted_one s = ap (λ b. length (cond (not (b || false)) (s ∷ []) [])) (self_not_next s)

-- there are as many runs as last stamps
pub counted_runs : (ss : List Stamp) → each_next precedes ss ≡ true → length (consecutive_spans ss) ≡ span_count ss
counted_runs [] h = refl
counted_runs (s ∷ []) h = sym (counted_one s)
counted_runs (s ∷ t ∷ ss) h =
    let p = and_parts (precedes s t) (each_next precedes (t ∷ ss)) h in
    length_attached s t (consecutive_spans (t ∷ ss)) (begins_attached t (consecutive_spans ss)) ∙ ap (λ n. cond (is_same t (next_stamp s)) 0 1 + n) (counted_runs (t ∷ ss) p.1) ∙ sym (counted_more s t ss h)

-- THEIR ORDER

next_alike : (y : Span) (ys : List Span) (first : ℕ) → each_next is_clear_of (y ∷ ys) ≡ true → each_next is_clear_of (record y { first = first } ∷ ys) ≡ true
next_alike y [] first h = refl
next_alike y (z ∷ zs) first h = h

clear_first : (s t : Stamp) (y : Span) → y.site ≡ t.site → y.first ≡ t.count → precedes s t ≡ true → is_same (first_in_span y) (next_stamp s) ≡ false → is_clear_of (span_of s) y ≡ true
clear_first s t y e f h k = grind (arith, nat_tests)

clear_attached : (s t : Stamp) (zs : List Span) → Begins t zs → precedes s t ≡ true → each_next is_clear_of zs ≡ true → each_next is_clear_of (attached (span_of s) zs) ≡ true
clear_attached s t zs h p k =
    let y = h.0 in
    let ys = h.1 in
    let rest : each_next is_clear_of (y ∷ ys) ≡ true = ap (each_next is_clear_of) (sym h.2) ∙ k in
    ap (λ l. each_next is_clear_of (attached (span_of s) l)) h.2
    ∙ split (is_same (first_in_span y) (next_stamp s))
    (λ e. ap (each_next is_clear_of) (cond-true _ _ _ e) ∙ next_alike y ys s.count rest)
    (λ e. ap (each_next is_clear_of) (cond-false _ _ _ e) ∙ and_from (is_clear_of (span_of s) y) _ (clear_first s t y h.3 h.4 p e) rest)

-- each run is clear of the next
pub clear_runs : (ss : List Stamp) → each_next precedes ss ≡ true → each_next is_clear_of (consecutive_spans ss) ≡ true
clear_runs [] h = refl
clear_runs (s ∷ []) h = refl
clear_runs (s ∷ t ∷ ss) h =
    let p = and_parts (precedes s t) (each_next precedes (t ∷ ss)) h in
    clear_attached s t (consecutive_spans (t ∷ ss)) (begins_attached t (consecutive_spans ss)) p.0 (clear_runs (t ∷ ss) p.1)

-- SORTING

-- a relation of each element and the next, by places
pub each_next_from : {X : Type 0} (e : X → X → Bool) (xs : List X) → ((k : ℕ) (d : X) → suc k < length xs → e (get_or xs k d) (get_or xs (suc k) d) ≡ true) → each_next e xs ≡ true
each_next_from e [] h = refl
each_next_from e (x ∷ []) h = refl
each_next_from e (x ∷ y ∷ xs) h =
    let rest : each_next e (y ∷ xs) ≡ true = each_next_from e (y ∷ xs) (λ k d l. h (suc k) d (omega arith)) in
    and_from (e x y) _ (h 0 x (omega arith)) rest

-- stamps in another order are as many runs
pub counted_alike : (xs ys : List Stamp) → IsPermutation xs ys → span_count xs ≡ span_count ys
counted_alike xs ys h =
    (λ i. length (filter (λ x. not (list_any-IsPermutation (λ other. is_same other (next_stamp x)) xs ys h i)) xs))
    ∙ length-filter (λ x. not (is_among ys (next_stamp x))) xs
    ∙ sym (sum_by-IsPermutation (λ x. cond (not (is_among ys (next_stamp x))) 1 0) xs ys h)
    ∙ sym (length-filter (λ x. not (is_among ys (next_stamp x))) ys)
