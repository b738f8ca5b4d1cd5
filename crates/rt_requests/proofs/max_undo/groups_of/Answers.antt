use Rattle.std.proofs.Common.{ℕ, ◌-◌, ◌^◌, ◌∙◌, Err, Ok, ap, min}
use Rattle.std.specs.Str.Parse.{digits_value}
use Rattle.std.proofs.lemmas.Str.Parse.{parse_digits}
use Rattle.rt_requests.proofs.Groups.{all_digits, some_digits, too_many}
use Rattle.rt_requests.proofs.Numbers.{numbers}
use Rattle.rt_requests.proofs.max_undo.groups_of.Goals as goal

pub returns-in-Ok : goal.returns-in-Ok
returns-in-Ok c =
    let digits = c.args.digits.now in
    let read = parse_digits numbers {E = ℕ} 64 digits (Ok c.in-Ok.number) c.in-Ok.ensures.value.0 (all_digits digits c.requires) in
    c.min.ensures ∙ ap (λ n. min n (2 ^ 63 - 1)) read.1

pub returns-in-Err : goal.returns-in-Err
returns-in-Err c =
    let digits = c.args.digits.now in
    let refused = parse_digits numbers 64 digits (Err c.in-Err.field-0) c.in-Err.ensures.value.0 (all_digits digits c.requires) in
    too_many (digits_value 10 digits) (λ h. refused (some_digits digits c.requires, h))
