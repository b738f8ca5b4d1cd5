use Rattle.std.proofs.Common.{Err}
use Rattle.std.specs.Str.Parse.{digits_value}
use Rattle.std.proofs.lemmas.Str.Parse.{parse_digits}
use Rattle.rt_requests.proofs.Numbers.{numbers, too_great}
use Rattle.rt_requests.proofs.limits.limit_at_line.Goals as goal

pub returns-in-Err : goal.returns-in-Err
returns-in-Err c =
    let refused = parse_digits numbers 64 c.args.digits.now (Err c.in-Err.field-0) c.in-Err.ensures.value.0 c.requires.digits in
    too_great (digits_value 10 c.args.digits.now) (λ h. refused (c.requires.some, h))
