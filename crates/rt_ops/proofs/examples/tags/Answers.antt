use Rattle.std.proofs.Common.{◌≡◌, true, codes, refl}
use Rattle.std.proofs.Math.Utf8.{encode}
use Rattle.std.proofs.lemmas.Str.{is_utf8-from_IsUtf8}
use Rattle.std.specs.Str.{is_utf8}
use Rattle.rt_ops.proofs.examples.tags.Goals as goal

utf8_a : is_utf8 (codes "a") ≡ true
unfolding encode
utf8_a = is_utf8-from_IsUtf8 (codes "a") (codes "a", (refl, refl))

utf8_ab : is_utf8 (codes "ab") ≡ true
unfolding encode
utf8_ab = is_utf8-from_IsUtf8 (codes "ab") (codes "ab", (refl, refl))

utf8_b : is_utf8 (codes "b") ≡ true
unfolding encode
utf8_b = is_utf8-from_IsUtf8 (codes "b") (codes "b", (refl, refl))

pub returns-clause-rising : goal.returns-clause-rising
returns-clause-rising c = rw (utf8_a, utf8_ab, utf8_b) refl
