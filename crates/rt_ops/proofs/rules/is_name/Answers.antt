use Rattle.std.proofs.Common.{◌≡◌, true, arith}
use Rattle.std.specs.Str.{is_utf8}
use Rattle.std.proofs.lemmas.Str.{is_utf8-from_IsUtf8}
use Rattle.std.proofs.lemmas.Bool.Decides.{nat_tests}
use Rattle.rt_ops.proofs.rules.is_name.Goals as goal

pub returns-then-is_name_length : goal.returns-then-is_name_length
returns-then-is_name_length c =
    let u : is_utf8 c.args.name.now ≡ true = is_utf8-from_IsUtf8 c.args.name.now c.utf8.name in
    grind (arith, nat_tests)
