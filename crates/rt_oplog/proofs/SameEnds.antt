-- The known ends of sites: one of them set, and two ways to keep them that say the same.
use Rattle.rt_rows.specs.declared.rows.RowPlace.{RowPlace}
use Rattle.std.proofs.Common.{◌≡◌, ℕ, List, ◌∙◌, ◌==◌, true, false, Some, None, ap, refl, arith, if◌then◌else◌}
use Rattle.std.proofs.lemmas.Bool.Decides.{nat_tests}
use Rattle.rt_stamps.specs.declared.stamp.Stamp.{Stamp}
use Rattle.rt_spans.specs.Shown.{SpanMapValue, value_of, is_in_span}
use Rattle.rt_ops.specs.Operations.{Operation}
use Rattle.rt_oplog.specs.declared.ends.Ends.{Ends}
use Rattle.rt_oplog.specs.Ends.{end_found, end_in, end_kept}
use Rattle.rt_oplog.specs.Kept.{IsLogInRows}
use Rattle.rt_oplog.proofs.Sets.{split}

-- a site's end is set, and those of the others stay
pub end_set : (old new : SpanMapValue ℕ) (site last : ℕ)
    → ((stamp : Stamp) → value_of new stamp ≡ (if is_in_span (record { site = site; first = 0; last = 0 }) stamp then Some last else value_of old stamp))
    → (s : ℕ) → end_kept new s ≡ (if site == s then last else end_kept old s)
end_set old new site last h s = ap end_found (h (record { count = 0; site = s })) ∙ split (site == s)
    (λ e. let k : (s == site) ≡ true = grind (arith, nat_tests, e) in rw (e, k) refl)
    (λ e. let k : (s == site) ≡ false = grind (arith, nat_tests, e) in rw (e, k) refl)

-- no site has an end
pub end_none : (ends : SpanMapValue ℕ) → ((stamp : Stamp) → value_of ends stamp ≡ None) → (s : ℕ) → end_kept ends s ≡ 0
end_none ends h s = ap end_found (h (record { count = 0; site = s }))

-- each site has its end
pub end_stays : (old new : SpanMapValue ℕ) → ((stamp : Stamp) → value_of new stamp ≡ value_of old stamp) → (s : ℕ) → end_kept new s ≡ end_kept old s
end_stays old new h s = ap end_found (h (record { count = 0; site = s }))

pub kept_same : (ops : List (List Operation)) (order : List RowPlace) (ends more : Ends) → ((s : ℕ) → end_in more s ≡ end_in ends s) → IsLogInRows ops order ends → IsLogInRows ops order more
kept_same ops order ends more e k = record { within = k.within; log = k.log; known = λ site. e site ∙ k.known site }
