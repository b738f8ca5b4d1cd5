use Rattle.std.proofs.Common.{◌≡◌, ◌⊎◌, length, true}
use Rattle.std.specs.BTreeSet.{contains}
use Rattle.rt_holding.specs.declared.waits.Key.{Key}
use Rattle.rt_holding.specs.Kept.{Standing}
use Rattle.rt_holding.specs.Waits.{IsReady, by_key, is_due}
use Rattle.rt_holding.specs.Waking.{IsAtEnd}
use Rattle.rt_holding.proofs.waking.pass_ends.Given as goal

abbrev pub invariant-loop-key : goal.invariant-loop-key
invariant-loop-key g l = record {
  ready : IsReady 0 l.waits;
  due : (p : Standing) → is_due p l.initial.waits.due ≡ true → is_due p l.waits.due ≡ true;
  alone : l.waits.keys.alone ≡ l.initial.waits.keys.alone;
  ends : l.waits.keys.ends ≡ l.initial.waits.keys.ends;
  each : (key : Key) → contains by_key l.initial.waits.keys.begun key ≡ true
      → (contains by_key l.waits.keys.begun key ≡ true) ⊎ (is_due key.place l.waits.due ≡ true) ⊎ IsAtEnd l.made_by (g.T.Taking.log l.site) l.ops l.initial.waits.keys.alone key;
}

abbrev pub decreases-loop-key : goal.decreases-loop-key
decreases-loop-key g l = length l.waits.keys.begun.keys
