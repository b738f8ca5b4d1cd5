-- Stamps in spans, copied one by one.
use Rattle.std.proofs.Common.{◌≡◌, ◌∙◌, ℕ, zero, suc, ◌+◌, ◌-◌, ◌<◌, ◌≤◌, ◌++◌, List, [], ◌∷◌, map, length, drop, true, ap, sym, arith, add-one, append_assoc, append-nil, drop-cons, get_or}
use Rattle.std.proofs.lemmas.Bool.Decides.{nat_tests}
use Rattle.std.proofs.lemmas.Grind.{flat_map-append}
use Rattle.std.proofs.lemmas.Simd.{map-map}
use Rattle.std.proofs.lemmas.List.{map-append}
use Rattle.rt_stamps.specs.declared.stamp.Span.{Span}
use Rattle.rt_stamps.specs.declared.stamp.Stamp.{Stamp}
use Rattle.rt_ops.specs.Operations.{stamps_from, stamps_in, stamps_of_span}
use Rattle.rt_undo.specs.declared.action.RemovedSpan.{RemovedSpan}
use Rattle.rt_undo.specs.Actions.{Removed, removed_in, removed_of, removed_with, restamped_one}
use Rattle.rt_undo.specs.Copies.{is_behind_span}

at : ℕ → ℕ → Stamp
at site count = record { count = count; site = site }

-- one more stamp at the end
from_more : (site first n : ℕ) → stamps_from site first (suc n) ≡ stamps_from site first n ++ record { count = first + n; site = site } ∷ []
from_more site first zero =
    let e : first + 0 ≡ first = omega arith in
    ap (λ k. record { count = k; site = site } ∷ []) (sym e)
from_more site first (suc n) =
    let e : first + 1 + n ≡ first + suc n = omega arith in
    ap (λ l. record { count = first; site = site } ∷ l) (from_more site (first + 1) n ∙ ap (λ k. stamps_from site (first + 1) n ++ record { count = k; site = site } ∷ []) e)

-- a span of one stamp
pub of_one : (stamp : Stamp) → stamps_of_span (record { site = stamp.site; first = stamp.count; last = stamp.count }) ≡ stamp ∷ []
of_one stamp =
    let e : stamp.count + 1 - stamp.count ≡ suc zero = omega arith in
    ap (stamps_from stamp.site stamp.count) e

pub record Next (span : Span) (stamp : Stamp) : Type 0 where
  pub order : span.first ≤ span.last
  pub site : stamp.site ≡ span.site
  pub count : stamp.count ≡ span.last + 1

pub next_is : (span : Span) (stamp : Stamp) → is_behind_span span stamp ≡ true → Next span stamp
next_is span stamp e = record { order = grind (arith, nat_tests); site = grind (arith, nat_tests); count = grind (arith, nat_tests) }

-- a span with the next stamp
pub of_next : (span : Span) (stamp : Stamp) → is_behind_span span stamp ≡ true
    → stamps_of_span (record { site = stamp.site; first = span.first; last = stamp.count }) ≡ stamps_of_span span ++ stamp ∷ []
of_next span stamp e =
    let n = next_is span stamp e in
    let o = n.order in
    let k = n.count in
    let more : stamp.count + 1 - span.first ≡ suc (span.last + 1 - span.first) = omega arith in
    let last : span.first + (span.last + 1 - span.first) ≡ stamp.count = omega arith in
    ap (stamps_from stamp.site span.first) more
    ∙ from_more stamp.site span.first (span.last + 1 - span.first)
    ∙ (λ i. stamps_from (n.site i) span.first (span.last + 1 - span.first) ++ record { count = last i; site = stamp.site } ∷ [])

-- one more span
pub spans_more : (spans : List Span) (span : Span) → stamps_in (spans ++ span ∷ []) ≡ stamps_in spans ++ stamps_of_span span
spans_more spans span = flat_map-append stamps_of_span spans (span ∷ []) ∙ ap (λ l. stamps_in spans ++ l) (append-nil (stamps_of_span span))

-- a stamp is added to those of spans
pub pushed_next : (spans : List Span) (last : Span) (stamp : Stamp) → is_behind_span last stamp ≡ true
    → stamps_in (spans ++ record { site = stamp.site; first = last.first; last = stamp.count } ∷ []) ≡ stamps_in (spans ++ last ∷ []) ++ stamp ∷ []
pushed_next spans last stamp e =
    spans_more spans (record { site = stamp.site; first = last.first; last = stamp.count })
    ∙ ap (λ l. stamps_in spans ++ l) (of_next last stamp e)
    ∙ sym (append_assoc (stamps_in spans) (stamps_of_span last) (stamp ∷ []))
    ∙ ap (λ l. l ++ stamp ∷ []) (sym (spans_more spans last))

pub pushed_other : (spans : List Span) (stamp : Stamp)
    → stamps_in (spans ++ record { site = stamp.site; first = stamp.count; last = stamp.count } ∷ []) ≡ stamps_in spans ++ stamp ∷ []
pushed_other spans stamp =
    spans_more spans (record { site = stamp.site; first = stamp.count; last = stamp.count }) ∙ ap (λ l. stamps_in spans ++ l) (of_one stamp)

-- a stamp more of a span's
pub from_step : (f : Stamp → Stamp) (done : List Stamp) (site count last : ℕ) → count < last + 1
    → done ++ map f (stamps_from site count (last + 1 - count)) ≡ (done ++ f (record { count = count; site = site }) ∷ []) ++ map f (stamps_from site (count + 1) (last + 1 - (count + 1)))
from_step f done site count last l =
    let e : last + 1 - count ≡ suc (last + 1 - (count + 1)) = omega arith in
    ap (λ n. done ++ map f (stamps_from site count n)) e
    ∙ sym (append_assoc done (f (record { count = count; site = site }) ∷ []) (map f (stamps_from site (count + 1) (last + 1 - (count + 1)))))

-- removed characters of a span, under other stamps
removed_under : (f : Stamp → Stamp) (tags : ℕ) (stamps : List Stamp) → map (removed_with tags) (map f stamps) ≡ map (restamped_one {T = ℕ} f) (map (removed_with tags) stamps)
removed_under f tags stamps =
    map-map (removed_with tags) f stamps ∙ sym (map-map (restamped_one {T = ℕ} f) (removed_with tags) stamps)

pub removed_step : (f : Stamp → Stamp) (old new : List (Removed ℕ)) (removed : List RemovedSpan) (i : ℕ) (part : RemovedSpan) → i < length removed
    → part ≡ get_or removed i part → new ≡ old ++ map (removed_with part.state) (map f (stamps_of_span part.span))
    → new ++ map (restamped_one {T = ℕ} f) (removed_in (drop (i + 1) removed)) ≡ old ++ map (restamped_one {T = ℕ} f) (removed_in (drop i removed))
removed_step f old new removed i part l is e =
    let rest = removed_in (drop (i + 1) removed) in
    let here : drop i removed ≡ part ∷ drop (i + 1) removed = drop-cons removed i part l ∙ (λ j. sym is j ∷ drop (sym (add-one i) j) removed) in
    (λ j. e j ++ map (restamped_one {T = ℕ} f) rest)
    ∙ append_assoc old (map (removed_with part.state) (map f (stamps_of_span part.span))) (map (restamped_one {T = ℕ} f) rest)
    ∙ ap (λ l. old ++ (l ++ map (restamped_one {T = ℕ} f) rest)) (removed_under f part.state (stamps_of_span part.span))
    ∙ ap (λ l. old ++ l) (sym (map-append (restamped_one {T = ℕ} f) (removed_of part) rest))
    ∙ ap (λ l. old ++ map (restamped_one {T = ℕ} f) (removed_in l)) (sym here)
