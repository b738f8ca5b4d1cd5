use Rattle.std.proofs.Common.{◌≡◌, ◌≤◌, ◌+◌, ◌-◌, length, take, drop}
use Rattle.std.specs.Char.{is_ascii_digit}
use Rattle.std.specs.List.{prefix_len}
use Rattle.std.specs.Str.Parse.{digits_value}
use Rattle.rt_index.specs.Expression.{kept}
use Rattle.rt_index.proofs.reading.number_at.Given as goal

abbrev pub invariant-loop-count : goal.invariant-loop-count
invariant-loop-count l = record {
  within : l.count ≤ length l.text;
  digits : l.count + prefix_len is_ascii_digit (drop l.count l.text) ≡ prefix_len is_ascii_digit l.text;
  number : l.value ≡ kept (digits_value 10 (take l.count l.text));
}

abbrev pub decreases-loop-count : goal.decreases-loop-count
decreases-loop-count l = length l.text - l.count
