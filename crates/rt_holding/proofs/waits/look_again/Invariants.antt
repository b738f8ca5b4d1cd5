use Rattle.std.proofs.Common.{◌≡◌, ◌||◌, true, vec_len}
use Rattle.rt_holding.specs.Kept.{Standing}
use Rattle.rt_holding.specs.Waits.{IsReady, is_due, is_place_in}
use Rattle.rt_holding.proofs.waits.look_again.Given as goal

abbrev pub invariant-loop-place : goal.invariant-loop-place
invariant-loop-place l = record {
  ready : IsReady 0 l.waits;
  keys : l.waits.keys ≡ l.initial.waits.keys;
  due : (p : Standing) → is_due p l.initial.waits.due ≡ true → is_due p l.waits.due ≡ true;
  again : (p : Standing) → is_place_in p l.initial.waits.again.items ≡ true → (is_place_in p l.waits.again.items || is_due p l.waits.due) ≡ true;
}

abbrev pub decreases-loop-place : goal.decreases-loop-place
decreases-loop-place l = vec_len l.waits.again
