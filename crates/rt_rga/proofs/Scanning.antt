-- A span is judged by its stamps up to the known end of its site: characters have no greater counts.
use Rattle.std.proofs.Common.{◌≡◌, ℕ, zero, suc, ◌+◌, ◌-◌, ◌<◌, ◌≤◌, Bool, true, false, not, refl, sym, ap, ◌∙◌, arith, List, ◌||◌, ◌&&◌, ◌==◌, nat_lt, nat_le, min}
use Rattle.std.proofs.lemmas.Bool.Decides.{nat_tests}
use Rattle.std.specs.List.{list_any, list_all}
use Rattle.rt_stamps.specs.declared.stamp.Span.{Span}
use Rattle.rt_stamps.specs.declared.stamp.Stamp.{Stamp}
use Rattle.rt_ops.specs.Operations.{Operation, Body, Insert, Delete, Tag, stamps_from, stamps_of_span}
use Rattle.rt_oplog.specs.Logs.{known_end}
use Rattle.rt_rga.specs.Histories.{has_character, is_known, may_name}
use Rattle.rt_rga.specs.Answers.{has_gap, can_never_be_known, up_to}
use Rattle.rt_rga.proofs.Skipping.{split}
use Rattle.rt_rga.proofs.Histories.{character_end}

abbrev gap_from : List Operation → ℕ → ℕ → ℕ → Bool
gap_from set site first n = list_any (λ s. not (has_character set s)) (stamps_from site first n)

-- one count past the end is no character
past_end : (set : List Operation) (site first : ℕ) → known_end set site < first → has_character set (record { count = first; site = site }) ≡ false
past_end set site first h = split (has_character set (record { count = first; site = site }))
    (λ e. absurd (let i : first ≤ known_end set site = character_end set (record { count = first; site = site }) e in omega arith))
    (λ e. e)

-- so a gap is one up to the end, or the span goes past it
gap_is : (set : List Operation) (site first n : ℕ) → gap_from set site first n ≡ gap_from set site first (min n (known_end set site + 1 - first)) || (nat_lt 0 n && nat_lt (known_end set site + 1) (first + n))
gap_is set site first zero = grind (arith, nat_tests)
gap_is set site first (suc n) = split (nat_le first (known_end set site))
    (λ e. let k : min (suc n) (known_end set site + 1 - first) ≡ suc (min n (known_end set site + 1 - (first + 1))) = shorter (known_end set site) first n (grind (arith, nat_tests, e)) in
    let i = gap_is set site (first + 1) n in
    let t = later (known_end set site) first n (grind (arith, nat_tests, e)) in
    ap (λ b. not (has_character set (record { count = first; site = site })) || b) i
    ∙ joined (not (has_character set (record { count = first; site = site }))) (gap_from set site (first + 1) (min n (known_end set site + 1 - (first + 1)))) (nat_lt 0 n && nat_lt (known_end set site + 1) (first + 1 + n)) (nat_lt 0 (suc n) && nat_lt (known_end set site + 1) (first + suc n)) t
    ∙ ap (λ m. gap_from set site first m || (nat_lt 0 (suc n) && nat_lt (known_end set site + 1) (first + suc n))) (sym k))
    (λ e. let l : known_end set site < first = grind (arith, nat_tests, e) in
    let p = past_end set site first l in
    let t : (nat_lt 0 (suc n) && nat_lt (known_end set site + 1) (first + suc n)) ≡ true = grind (arith, nat_tests) in
    let k : min (suc n) (known_end set site + 1 - first) ≡ 0 = omega arith in
    rw (p, t, k) refl)
  where
    shorter : (end first n : ℕ) → first ≤ end → min (suc n) (end + 1 - first) ≡ suc (min n (end + 1 - (first + 1)))
    shorter end first n h = omega arith

    later : (end first n : ℕ) → first ≤ end → (nat_lt 0 n && nat_lt (end + 1) (first + 1 + n)) ≡ (nat_lt 0 (suc n) && nat_lt (end + 1) (first + suc n))
    later end first n h = grind (arith, nat_tests)

    joined : (a b c d : Bool) → c ≡ d → (a || (b || c)) ≡ ((a || b) || d)
    joined a b c d h = grind (arith, h)

up_to_count : (first last end : ℕ) → min (last + 1 - first) (end + 1 - first) ≡ min last end + 1 - first
up_to_count first last end = omega arith

goes_past : (first last end : ℕ) → (nat_lt 0 (last + 1 - first) && nat_lt (end + 1) (first + (last + 1 - first))) ≡ (nat_le first last && nat_lt end last)
goes_past first last end = grind (arith, nat_tests)

pub gap_in : (set : List Operation) (span : Span) → has_gap set span ≡ has_gap set (up_to (known_end set span.site) span) || (nat_le span.first span.last && nat_lt (known_end set span.site) span.last)
gap_in set span =
    let end = known_end set span.site in
    gap_is set span.site span.first (span.last + 1 - span.first)
    ∙ ap (λ n. gap_from set span.site span.first n || (nat_lt 0 (span.last + 1 - span.first) && nat_lt (end + 1) (span.first + (span.last + 1 - span.first)))) (up_to_count span.first span.last end)
    ∙ ap (λ b. gap_from set span.site span.first (min span.last end + 1 - span.first) || b) (goes_past span.first span.last end)

-- what can never come to be a character: a gap up to the end, or any gap of the operation's own site
target_from : (set : List Operation) (op : Operation) (site first n : ℕ) → (site == 0) ≡ false
    → list_any (can_never_be_known set op) (stamps_from site first n) ≡ gap_from set site first (min n (known_end set site + 1 - first)) || ((site == op.site) && gap_from set site first n)
target_from set op site first zero z = grind (arith, nat_tests)
target_from set op site first (suc n) z = split (nat_le first (known_end set site))
    (λ e. let k : min (suc n) (known_end set site + 1 - first) ≡ suc (min n (known_end set site + 1 - (first + 1))) = shorter (known_end set site) first n (grind (arith, nat_tests, e)) in
    ap (λ b. head b) (target_from set op site (first + 1) n z)
    ∙ (rw (z, e) (within (has_character set (record { count = first; site = site })) (site == op.site) (gap_from set site (first + 1) (min n (known_end set site + 1 - (first + 1)))) (gap_from set site (first + 1) n)))
    ∙ ap (λ m. gap_from set site first m || ((site == op.site) && gap_from set site first (suc n))) (sym k))
    (λ e. let l : known_end set site < first = grind (arith, nat_tests, e) in
    let p = past_end set site first l in
    let k : min (suc n) (known_end set site + 1 - first) ≡ 0 = omega arith in
    let m : min n (known_end set site + 1 - (first + 1)) ≡ 0 = omega arith in
    ap (λ b. head b) (target_from set op site (first + 1) n z)
    ∙ ap (λ m. head (gap_from set site (first + 1) m || ((site == op.site) && gap_from set site (first + 1) n))) m
    ∙ (rw (z, e, p) (past (site == op.site) (gap_from set site (first + 1) n)))
    ∙ ap (λ m. gap_from set site first m || ((site == op.site) && gap_from set site first (suc n))) (sym k))
  where
    head : Bool → Bool
    head b = can_never_be_known set op (record { count = first; site = site }) || b

    shorter : (end first n : ℕ) → first ≤ end → min (suc n) (end + 1 - first) ≡ suc (min n (end + 1 - (first + 1)))
    shorter end first n h = omega arith

    within : (c own a b : Bool) → ((not c && (own || true)) || (a || (own && b))) ≡ ((not c || a) || (own && (not c || b)))
    within c own a b = grind arith

    past : (own b : Bool) → ((not false && (own || false)) || (false || (own && b))) ≡ (false || (own && (not false || b)))
    past own b = grind arith

pub target_in : (set : List Operation) (op : Operation) (span : Span) → (span.site == 0) ≡ false
    → list_any (can_never_be_known set op) (stamps_of_span span) ≡ has_gap set (up_to (known_end set span.site) span) || ((span.site == op.site) && has_gap set span)
target_in set op span z =
    target_from set op span.site span.first (span.last + 1 - span.first) z
    ∙ ap (λ n. gap_from set span.site span.first n || ((span.site == op.site) && has_gap set span)) (up_to_count span.first span.last (known_end set span.site))

-- what is known: no gap
not_named : (body : Body) (s : Stamp) → (s.site == 0) ≡ false → may_name body s ≡ false
not_named (Insert after tags text) s h = grind (arith, nat_tests)
not_named (Delete spans) s h = refl
not_named (Tag on name spans) s h = grind (arith, nat_tests)

known_step : (c m r : Bool) → m ≡ false → ((c || m) && not r) ≡ not (not c || r)
known_step c m r h = grind (arith, h)

known_from_gap : (set : List Operation) (body : Body) (site first n : ℕ) → (site == 0) ≡ false → list_all (is_known set body) (stamps_from site first n) ≡ not (gap_from set site first n)
known_from_gap set body site first zero z = refl
known_from_gap set body site first (suc n) z =
    ap (λ b. is_known set body (record { count = first; site = site }) && b) (known_from_gap set body site (first + 1) n z)
    ∙ known_step (has_character set (record { count = first; site = site })) (may_name body (record { count = first; site = site })) (gap_from set site (first + 1) n) (not_named body (record { count = first; site = site }) z)

pub known_in : (set : List Operation) (body : Body) (span : Span) → (span.site == 0) ≡ false → list_all (is_known set body) (stamps_of_span span) ≡ not (has_gap set span)
known_in set body span z = known_from_gap set body span.site span.first (span.last + 1 - span.first) z
