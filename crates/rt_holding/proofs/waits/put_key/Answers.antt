use Rattle.std.proofs.Common.{◌≡◌, ◌∙◌, Bool, ap, cond, false, refl, true}
use Rattle.std.specs.BTreeMap.{is_at}
use Rattle.std.specs.BTreeSet.{contains}
use Rattle.rt_holding.specs.declared.waits.Keys.{Keys}
use Rattle.rt_holding.specs.Waits.{by_key, is_noted, key_at}
use Rattle.rt_holding.proofs.Standing.{other_key, own_key}
use Rattle.rt_holding.proofs.waits.put_key.Goals as goal

pub returns-in-Ok-clause-keyed : goal.returns-in-Ok-clause-keyed
returns-in-Ok-clause-keyed c =
    let put = key_at c.args.stamp c.args.place in
    let same = c.in_ok-make_room.ensures.keys in
    record {
      keys = record {
        alone = λ k n. c.in-Ok.ensures.updates.0 k ∙ (let e = other_key put k n in rw e refl) ∙ ap (λ (s : Keys). contains by_key s.alone k) same;
        begun = λ k n. ap (λ (s : Keys). contains by_key s.begun k) same;
        ends = λ site count n. ap (λ (s : Keys). is_noted s.ends site count) same ∙ n;
      };
      more = record {
        alone = λ k h. c.in-Ok.ensures.updates.0 k ∙ either (is_at (by_key put) k) (contains by_key c.make_room.new.waits.keys.alone k) (ap (λ (s : Keys). contains by_key s.alone k) same ∙ h);
        begun = λ k h. ap (λ (s : Keys). contains by_key s.begun k) same ∙ h;
        ends = λ site count n. ap (λ (s : Keys). is_noted s.ends site count) same ∙ n;
      };
      due = c.in_ok-make_room.ensures.due;
      again = c.in_ok-make_room.ensures.again;
    }
  where
    either : (a b : Bool) → b ≡ true → cond a true b ≡ true
    either true b e = refl
    either false b e = e

pub returns-in-Ok-clause-kept : goal.returns-in-Ok-clause-kept
returns-in-Ok-clause-kept c = c.in-Ok.ensures.updates.0 (key_at c.args.stamp c.args.place) ∙ (let e = own_key (key_at c.args.stamp c.args.place) in rw e refl)

pub returns-in_err-make_room-clause-ready : goal.returns-in_err-make_room-clause-ready
returns-in_err-make_room-clause-ready c = c.make_room.ensures.ready 1 c.requires
