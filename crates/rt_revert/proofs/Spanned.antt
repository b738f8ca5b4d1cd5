-- Removed characters in spans, one more at the end.
use Rattle.std.proofs.Common.{◌≡◌, ◌∙◌, ℕ, suc, zero, ◌+◌, ◌-◌, ◌≤◌, ◌++◌, List, [], ◌∷◌, map, true, ap, sym, arith, append_assoc, append-nil}
use Rattle.std.proofs.lemmas.Bool.Decides.{nat_tests}
use Rattle.std.proofs.lemmas.Grind.{flat_map-append}
use Rattle.std.proofs.lemmas.List.{map-append}
use Rattle.rt_stamps.specs.declared.stamp.Stamp.{Stamp}
use Rattle.rt_ops.specs.Operations.{stamps_from, stamps_of_span}
use Rattle.rt_undo.specs.declared.action.RemovedSpan.{RemovedSpan}
use Rattle.rt_undo.specs.Actions.{Removed, removed_in, removed_of, removed_with}
use Rattle.rt_revert.specs.Keeping.{continues_span}

abbrev pub one : Stamp → ℕ → Removed ℕ
one stamp state = record { stamp = stamp; tags = state }

-- a span of one stamp, and one with the next stamp
of_one : (stamp : Stamp) → stamps_of_span (record { site = stamp.site; first = stamp.count; last = stamp.count }) ≡ stamp ∷ []
of_one stamp =
    let e : stamp.count + 1 - stamp.count ≡ suc zero = omega arith in
    ap (stamps_from stamp.site stamp.count) e

from_more : (site first n : ℕ) → stamps_from site first (suc n) ≡ stamps_from site first n ++ record { count = first + n; site = site } ∷ []
from_more site first zero =
    let e : first + 0 ≡ first = omega arith in
    ap (λ k. record { count = k; site = site } ∷ []) (sym e)
from_more site first (suc n) =
    let e : first + 1 + n ≡ first + suc n = omega arith in
    ap (λ l. record { count = first; site = site } ∷ l) (from_more site (first + 1) n ∙ ap (λ k. stamps_from site (first + 1) n ++ record { count = k; site = site } ∷ []) e)

record Behind (part : RemovedSpan) (stamp : Stamp) (state : ℕ) : Type 0 where
  same : part.state ≡ state
  order : part.span.first ≤ part.span.last
  site : stamp.site ≡ part.span.site
  count : stamp.count ≡ part.span.last + 1

continues_behind : (part : RemovedSpan) (stamp : Stamp) (state : ℕ) → continues_span part stamp state ≡ true → Behind part stamp state
continues_behind part stamp state e = record { same = grind (arith, nat_tests); order = grind (arith, nat_tests); site = grind (arith, nat_tests); count = grind (arith, nat_tests) }

of_next : (part : RemovedSpan) (stamp : Stamp) (state : ℕ) → Behind part stamp state
    → stamps_of_span (record { site = stamp.site; first = part.span.first; last = stamp.count }) ≡ stamps_of_span part.span ++ stamp ∷ []
of_next part stamp state b =
    let span = part.span in
    let o = b.order in
    let k = b.count in
    let more : stamp.count + 1 - span.first ≡ suc (span.last + 1 - span.first) = omega arith in
    let last : span.first + (span.last + 1 - span.first) ≡ stamp.count = omega arith in
    ap (stamps_from stamp.site span.first) more
    ∙ from_more stamp.site span.first (span.last + 1 - span.first)
    ∙ (λ i. stamps_from (b.site i) span.first (span.last + 1 - span.first) ++ record { count = last i; site = stamp.site } ∷ [])

parts_more : (parts : List RemovedSpan) (part : RemovedSpan) → removed_in (parts ++ part ∷ []) ≡ removed_in parts ++ removed_of part
parts_more parts part = flat_map-append removed_of parts (part ∷ []) ∙ ap (λ l. removed_in parts ++ l) (append-nil (removed_of part))

pub pushed_behind : (parts : List RemovedSpan) (last : RemovedSpan) (stamp : Stamp) (state : ℕ) → continues_span last stamp state ≡ true
    → removed_in (parts ++ record { span = record { site = stamp.site; first = last.span.first; last = stamp.count }; state = state } ∷ [])
    ≡ removed_in (parts ++ last ∷ []) ++ one stamp state ∷ []
pushed_behind parts last stamp state e =
    let b = continues_behind last stamp state e in
    parts_more parts (record { span = record { site = stamp.site; first = last.span.first; last = stamp.count }; state = state })
    ∙ ap (λ l. removed_in parts ++ map (removed_with state) l) (of_next last stamp state b)
    ∙ ap (λ l. removed_in parts ++ l) (map-append (removed_with state) (stamps_of_span last.span) (stamp ∷ []))
    ∙ (λ i. removed_in parts ++ (map (removed_with (sym b.same i)) (stamps_of_span last.span) ++ one stamp state ∷ []))
    ∙ sym (append_assoc (removed_in parts) (removed_of last) (one stamp state ∷ []))
    ∙ ap (λ l. l ++ one stamp state ∷ []) (sym (parts_more parts last))

pub pushed_alone : (parts : List RemovedSpan) (stamp : Stamp) (state : ℕ)
    → removed_in (parts ++ record { span = record { site = stamp.site; first = stamp.count; last = stamp.count }; state = state } ∷ [])
    ≡ removed_in parts ++ one stamp state ∷ []
pushed_alone parts stamp state =
    parts_more parts (record { span = record { site = stamp.site; first = stamp.count; last = stamp.count }; state = state })
    ∙ ap (λ l. removed_in parts ++ map (removed_with state) l) (of_one stamp)
