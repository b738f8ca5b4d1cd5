-- The values of stamps.
use Rattle.std.proofs.Common.{◌≡◌, ℕ, ◌+◌, ◌/◌, ◌^◌, ◌<◌, ◌≤◌, ◌==◌, ◌&&◌, nat_le, nat_lt, Bool, true, false, cond, List, Option, Some, None, refl, sym, ap, ◌∙◌, arith}
use Rattle.std.proofs.lemmas.Bool.Decides.{nat_tests}
use Rattle.rt_stamps.specs.declared.stamp.Stamp.{Stamp}
use Rattle.rt_stamps.specs.declared.stamp.Span.{Span}
use Rattle.rt_spans.specs.declared.block.Block.{Block}
use Rattle.rt_spans.specs.declared.entry.SpanEntry.{SpanEntry}
use Rattle.rt_spans.specs.Blocks.{in_blocks}
use Rattle.rt_spans.specs.Ranks.{rank}
use Rattle.rt_spans.specs.Spans.{value_at}
use Rattle.rt_spans.specs.Shown.{SpanMapValue, is_in_span}

pub in_span : (site first last s c : ℕ) → c < 2 ^ 64 → first < 2 ^ 64 → last + 1 < 2 ^ 64 → (nat_le (rank site first) (rank s c) && nat_lt (rank s c) (rank site (last + 1))) ≡ ((s == site) && (nat_le first c && nat_le c last))
unfolding rank
in_span site first last s c h k l = grind (arith, nat_tests)

lt_of : (x y : ℕ) → nat_lt x y ≡ true → x < y
lt_of x y h = grind (arith, nat_tests)

ge_of : (x y : ℕ) → nat_lt x y ≡ false → y ≤ x
ge_of x y h = grind (arith, nat_tests)

outside : (span : Span) (stamp : Stamp) → span.last + 1 < 2 ^ 64 → 2 ^ 64 ≤ stamp.count → is_in_span span stamp ≡ false
outside span stamp l h = grind (arith, nat_tests)

pub set_values : {V : Type 0} (span : Span) (stamp : Stamp) (value : V) (old new : List (SpanEntry V)) (was : Option V) → ((s : ℕ) → value_at s new ≡ cond (nat_le (rank span.site span.first) s && nat_lt s (rank span.site (span.last + 1))) (Some value) (value_at s old)) → cond (nat_lt stamp.count (2 ^ 64)) (value_at (rank stamp.site stamp.count) old) None ≡ was → span.first < 2 ^ 64 → span.last + 1 < 2 ^ 64 → cond (nat_lt stamp.count (2 ^ 64)) (value_at (rank stamp.site stamp.count) new) None ≡ cond (is_in_span span stamp) (Some value) was
set_values {V} span stamp value old new was h w f l = by (nat_lt stamp.count (2 ^ 64)) refl w where
  n : ℕ
  n = rank stamp.site stamp.count

  by : (b : Bool) → nat_lt stamp.count (2 ^ 64) ≡ b → cond b (value_at n old) None ≡ was → cond b (value_at n new) None ≡ cond (is_in_span span stamp) (Some value) was
  by true e k =
      h n ∙ (ap (λ v. cond v (Some value) (value_at n old)) (in_span span.site span.first span.last stamp.site stamp.count (lt_of stamp.count (2 ^ 64) e) f l) ∙ ap (λ v. cond (is_in_span span stamp) (Some value) v) k)
  by false e k = k ∙ sym (ap (λ v. cond v (Some value) was) (outside span stamp l (ge_of stamp.count (2 ^ 64) e)))

-- a map with the same blocks looks the same
pub same_shown : {V : Type 0} (now old : List (Block V)) (left : ℕ) → now ≡ old → ◌≡◌ {A = SpanMapValue V} (record { entries = in_blocks now; room = left / 2 }) (record { entries = in_blocks old; room = left / 2 })
same_shown {V} now old left e = λ j. record { entries = in_blocks (e j); room = left / 2 }
