use Rattle.std.proofs.Common.{◌≡◌, ◌⊎◌, ◌==◌, false, length, true}
use Rattle.std.specs.BTreeSet.{contains}
use Rattle.rt_holding.specs.declared.waits.Key.{Key}
use Rattle.rt_holding.specs.Kept.{Standing}
use Rattle.rt_holding.specs.Waits.{IsReady, by_key, is_due}
use Rattle.rt_holding.proofs.waking.wake_begun.Given as goal

abbrev pub invariant-loop-key : goal.invariant-loop-key
invariant-loop-key l = record {
  ready : IsReady 0 l.waits;
  due : (p : Standing) → is_due p l.initial.waits.due ≡ true → is_due p l.waits.due ≡ true;
  alone : l.waits.keys.alone ≡ l.initial.waits.keys.alone;
  ends : l.waits.keys.ends ≡ l.initial.waits.keys.ends;
  others : (key : Key) → (l.made_by == key.site) ≡ false → contains by_key l.waits.keys.begun key ≡ contains by_key l.initial.waits.keys.begun key;
  each : (key : Key) → contains by_key l.initial.waits.keys.begun key ≡ true → (contains by_key l.waits.keys.begun key ≡ true) ⊎ (is_due key.place l.waits.due ≡ true);
}

abbrev pub decreases-loop-key : goal.decreases-loop-key
decreases-loop-key l = length l.waits.keys.begun.keys
