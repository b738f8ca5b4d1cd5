use Rattle.std.proofs.Common.{◌≡◌, ◌+◌, get_or, sym, take, true, ◌∙◌, arith}
use Rattle.std.proofs.lemmas.List.Sums.{prefix_len-drop_yes}
use Rattle.std.specs.Char.{is_ascii_digit}
use Rattle.std.specs.Str.Parse.{digits_value}
use Rattle.rt_index.specs.Expression.{kept}
use Rattle.rt_index.proofs.Digits.{number_more}
use Rattle.rt_index.proofs.reading.number_at.Goals as goal

pub loop-count-preserved : goal.loop-count-preserved
loop-count-preserved c =
    let t = c.args.text.now in
    let i = c.loop-count.count in
    let digit : is_ascii_digit (get_or t i 0) ≡ true = sym c.is_ascii_digit.ensures.value ∙ c.if-is_ascii_digit.true in
    let more = prefix_len-drop_yes is_ascii_digit t i 0 c.loop-count-test.true digit in
    let number = number_more t i digit c.loop-count-test.true in
    let e : c.with_digit-value.result ≡ kept (digits_value 10 (take (i + 1) t)) =
    omega (arith, number, c.loop-count.invariant.number, c.with_digit-value.ensures) in
    record {
      within = omega arith;
      digits = omega (arith, more, c.loop-count.invariant.digits);
      number = e;
    }
