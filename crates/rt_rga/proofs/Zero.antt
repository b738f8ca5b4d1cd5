-- Spans of site 0.
use Rattle.std.proofs.Common.{zero, suc, ◌≡◌, ℕ, ◌+◌, ◌-◌, ◌≤◌, Bool, true, false, not, refl, ap, ◌∙◌, arith, List, ◌||◌, ◌&&◌, ◌==◌}
use Rattle.std.proofs.lemmas.Bool.Decides.{nat_tests}
use Rattle.std.specs.List.{list_any, list_all}
use Rattle.rt_stamps.specs.Spans.{is_span}
use Rattle.rt_stamps.specs.Stamps.{is_same}
use Rattle.rt_stamps.specs.declared.stamp.Span.{Span}
use Rattle.rt_stamps.specs.declared.stamp.Stamp.{Stamp}
use Rattle.rt_stamps.specs.declared.stamp.TheConstants.{FINAL}
use Rattle.rt_ops.specs.Operations.{Operation, Delete, Tag, Name, stamps_from, stamps_of_span}
use Rattle.rt_rga.specs.Histories.{IsHistory, has_character, is_known, may_name}
use Rattle.rt_rga.specs.Answers.{can_never_be_known}
use Rattle.rt_rga.proofs.Skipping.{split}
use Rattle.rt_rga.proofs.Histories.{character_site}

-- the stamps of a span are at least one
stamps_one : (span : Span) → is_span span ≡ true → stamps_of_span span ≡ stamps_from span.site span.first (suc (span.last - span.first))
stamps_one span h = ap (stamps_from span.site span.first) (more span.first span.last (grind (arith, nat_tests)))
  where
    more : (first last : ℕ) → first ≤ last → last + 1 - first ≡ suc (last - first)
    more first last l = omega arith

-- a test that only count 1 fails, or only count 1 passes
any_but_one : (p : Stamp → Bool) (site : ℕ) → ((count : ℕ) → p (record { count = count; site = site }) ≡ not (count == 1)) → (first n : ℕ)
    → list_any p (stamps_from site first (suc n)) ≡ not ((first == 1) && (n == 0))
any_but_one p site f first zero = let a = f first in grind (arith, a)
any_but_one p site f first (suc n) = let a = f first in let b = any_but_one p site f (first + 1) n in grind (arith, nat_tests, a, b)

all_but_one : (p : Stamp → Bool) (site : ℕ) → ((count : ℕ) → p (record { count = count; site = site }) ≡ (count == 1)) → (first n : ℕ)
    → list_all p (stamps_from site first (suc n)) ≡ ((first == 1) && (n == 0))
all_but_one p site f first zero = let a = f first in grind (arith, a)
all_but_one p site f first (suc n) = let a = f first in let b = all_but_one p site f (first + 1) n in grind (arith, nat_tests, a, b)

one_count : (first last : ℕ) → first ≤ last → ((first == 1) && (last - first == 0)) ≡ ((first == 1) && (last == 1))
one_count first last l = split (first == 1)
    (λ e. let a : first ≡ 1 = grind (arith, nat_tests) in let b : (last - first == 0) ≡ (last == 1) = same first last l a in ap (λ c. (first == 1) && c) b)
    (λ e. rw e refl)
  where
    same : (first last : ℕ) → first ≤ last → first ≡ 1 → (last - first == 0) ≡ (last == 1)
    same first last l a = grind (arith, nat_tests)

is_final : (count site : ℕ) → (site == 0) ≡ true → is_same (record { count = count; site = site }) FINAL ≡ (count == 1)
is_final count site z = grind (arith, nat_tests)

never_zero : (set : List Operation) (op : Operation) (s : Stamp) → (s.site == 0) ≡ true → can_never_be_known set op s ≡ not (may_name op.body s)
never_zero set op s z = rw z refl

-- A Delete never names a stamp of site 0.
pub zero_deleted : (set : List Operation) (op : Operation) (spans : List Span) (span : Span) → op.body ≡ Delete spans → (span.site == 0) ≡ true → is_span span ≡ true
    → list_any (can_never_be_known set op) (stamps_of_span span) ≡ true
zero_deleted set op spans span e z h =
    let s : Stamp = record { count = span.first; site = span.site } in
    let a : can_never_be_known set op s ≡ true = never_zero set op s z ∙ ap (λ b. not (may_name b s)) e in
    ap (list_any (can_never_be_known set op)) (stamps_one span h) ∙ first_of a
  where
    first_of : can_never_be_known set op (record { count = span.first; site = span.site }) ≡ true → list_any (can_never_be_known set op) (stamps_from span.site span.first (suc (span.last - span.first))) ≡ true
    first_of a = rw a refl

-- A Tag may name the final newline.
pub zero_tagged : (set : List Operation) (op : Operation) (on : Bool) (name : Name) (spans : List Span) (span : Span) → op.body ≡ Tag on name spans → (span.site == 0) ≡ true → is_span span ≡ true
    → list_any (can_never_be_known set op) (stamps_of_span span) ≡ not ((span.first == 1) && (span.last == 1))
zero_tagged set op on name spans span e z h =
    ap (list_any (can_never_be_known set op)) (stamps_one span h)
    ∙ any_but_one (can_never_be_known set op) span.site
    (λ count. never_zero set op (record { count = count; site = span.site }) z ∙ ap (λ b. not (may_name b (record { count = count; site = span.site }))) e ∙ ap not (is_final count span.site z)) span.first (span.last - span.first)
    ∙ ap not (one_count span.first span.last (grind (arith, nat_tests)))

-- and just that is known
pub zero_known : (set : List Operation) (on : Bool) (name : Name) (spans : List Span) (span : Span) → IsHistory set → (span.site == 0) ≡ true → is_span span ≡ true
    → list_all (is_known set (Tag on name spans)) (stamps_of_span span) ≡ ((span.first == 1) && (span.last == 1))
zero_known set on name spans span h z i =
    ap (list_all (is_known set (Tag on name spans))) (stamps_one span i)
    ∙ all_but_one (is_known set (Tag on name spans)) span.site
    (λ count. ap (λ b. b || is_same (record { count = count; site = span.site }) FINAL) (none count) ∙ is_final count span.site z) span.first (span.last - span.first)
    ∙ one_count span.first span.last (grind (arith, nat_tests))
  where
    none : (count : ℕ) → has_character set (record { count = count; site = span.site }) ≡ false
    none count = split (has_character set (record { count = count; site = span.site }))
        (λ e. let s = character_site set h (record { count = count; site = span.site }) e in absurd (grind (arith, nat_tests)))
        (λ e. e)
