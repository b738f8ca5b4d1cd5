use Rattle.std.proofs.Common.{◌≡◌, ℕ, ◌-◌, ◌<◌, ◌≤◌, false, get_or}
use Rattle.rt_stamps.specs.Places.{is_newline}
use Rattle.rt_tagcmd.proofs.texts.line_len.Given as goal

abbrev pub invariant-loop-len : goal.invariant-loop-len
invariant-loop-len l = record {
  behind : l.start < l.len;
  within : l.len ≤ l.end;
  none : (k : ℕ) → l.start < k → k < l.len → is_newline (get_or l.chars (k - 1) 0) ≡ false;
}

abbrev pub decreases-loop-len : goal.decreases-loop-len
decreases-loop-len l = l.end - l.len
