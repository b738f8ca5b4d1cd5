use Rattle.std.proofs.Common.{◌≡◌, ◌∙◌, Bool, cond, false, sym, true}
use Rattle.std.specs.BTreeMap.{is_at}
use Rattle.std.specs.BTreeSet.{contains}
use Rattle.rt_holding.specs.Waits.{by_key, key_at}
use Rattle.rt_holding.proofs.waits.drop_key.Goals as goal

pub returns-clause-less : goal.returns-clause-less
returns-clause-less c k h =
    there (is_at (by_key (key_at c.args.stamp c.args.place)) k) (contains by_key c.args.keys.now k) (sym (c.remove-was_there.ensures.updates.0 k) ∙ h)
  where
    there : (a b : Bool) → cond a false b ≡ true → b ≡ true
    there true b e = absurd (cc e)
    there false b e = e
