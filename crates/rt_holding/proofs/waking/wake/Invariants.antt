use Rattle.std.proofs.Common.{◌≡◌, ◌⊎◌, ℕ, List, Some, length, true}
use Rattle.std.specs.BTreeMap.{get}
use Rattle.rt_ops.specs.Operations.{Operation}
use Rattle.rt_ops.specs.Rules.{keeps_rules}
use Rattle.rt_holding.specs.Kept.{Standing, by_stamp_and_arrival}
use Rattle.rt_holding.specs.Waits.{IsReady, is_due}
use Rattle.rt_holding.proofs.Waited.{IsResting}
use Rattle.rt_holding.proofs.waking.wake.Given as goal

abbrev pub invariant-loop-key : goal.invariant-loop-key
invariant-loop-key g l = record {
  ready : IsReady 0 l.waits;
  due : (p : Standing) → is_due p l.initial.waits.due ≡ true → is_due p l.waits.due ≡ true;
  asleep : (limit : ℕ) (older : List Operation) (p : Standing) (x : Operation) → get by_stamp_and_arrival l.ops p ≡ Some (Some x) → keeps_rules x.body ≡ true
      → (is_due p l.initial.waits.due ≡ true) ⊎ IsResting limit l.initial.waits.keys older (g.T.Taking.log l.site) p x
      → (is_due p l.waits.due ≡ true) ⊎ IsResting limit l.waits.keys older (g.T.Taking.log l.site) p x;
}

abbrev pub decreases-loop-key : goal.decreases-loop-key
decreases-loop-key g l = length l.waits.keys.alone.keys
