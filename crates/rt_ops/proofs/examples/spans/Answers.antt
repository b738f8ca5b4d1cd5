use Rattle.std.proofs.Common.{◌≡◌, true, codes, refl}
use Rattle.std.proofs.Math.Utf8.{encode}
use Rattle.std.proofs.lemmas.Str.{is_utf8-from_IsUtf8}
use Rattle.std.specs.Str.{is_utf8}
use Rattle.rt_ops.proofs.examples.spans.Goals as goal

utf8 : is_utf8 (codes "t") ≡ true
unfolding encode
utf8 = is_utf8-from_IsUtf8 (codes "t") (codes "t", (refl, refl))

pub returns-clause-tagged : goal.returns-clause-tagged
returns-clause-tagged c = rw utf8 refl
