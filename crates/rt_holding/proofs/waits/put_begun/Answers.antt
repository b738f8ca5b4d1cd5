use Rattle.std.proofs.Common.{◌≡◌, ◌∙◌, Bool, cond, false, refl, true}
use Rattle.std.specs.BTreeMap.{is_at}
use Rattle.std.specs.BTreeSet.{contains}
use Rattle.rt_holding.specs.Waits.{by_key}
use Rattle.rt_holding.proofs.waits.put_begun.Goals as goal

pub returns-in-Ok-clause-more : goal.returns-in-Ok-clause-more
returns-in-Ok-clause-more c = record {
  alone = λ k h. h;
  begun = λ k h. c.in-Ok.ensures.updates.0 k ∙ either (is_at (by_key c.args.key) k) (contains by_key c.args.keys.now.begun k) h;
  ends = c.in_ok-note_end.ensures.more;
}
  where
    either : (a b : Bool) → b ≡ true → cond a true b ≡ true
    either true b e = refl
    either false b e = e
