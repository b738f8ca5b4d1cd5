use Rattle.std.proofs.Common.{◌≡◌, ◌∙◌, ◌⊎◌, ◌<◌, ◌≤◌, ℕ, ap, arith, cond, false, inl, inr, subst, sym, true}
use Rattle.std.proofs.lemmas.Bool.{cases_lt}
use Rattle.std.specs.BTreeMap.{get, is_at}
use Rattle.std.specs.BTreeSet.{BTreeSet, contains}
use Rattle.rt_stamps.specs.declared.stamp.Stamp.{Stamp}
use Rattle.rt_oplog.specs.Logs.{known_end}
use Rattle.rt_rga.proofs.Skipping.{split}
use Rattle.rt_holding.specs.declared.waits.Key.{Key}
use Rattle.rt_holding.specs.declared.waits.Keys.{Keys}
use Rattle.rt_holding.specs.Kept.{Standing, by_stamp_and_arrival}
use Rattle.rt_holding.specs.Waits.{IfIsThere, by_key, has_key, is_due, key_at, sleeps}
use Rattle.rt_holding.specs.Waking.{IsSeenTo, stamp_of_key}
use Rattle.rt_holding.proofs.Falling.{falls_to_rest}
use Rattle.rt_holding.proofs.Going.{or_left, or_right}
use Rattle.rt_holding.proofs.Sleeping.{more_at_rest, rests_on, seen_at_rest}
use Rattle.rt_holding.proofs.Standing.{key_equal, other_key, this_place}
use Rattle.rt_holding.proofs.Waited.{IsResting}
use Rattle.rt_holding.proofs.waking.wake.Goals as goal

pub loop-key-preserved : goal.loop-key-preserved
loop-key-preserved g c =
    let log = g.T.Taking.log c.args.site.now in
    let before = c.loop-key.invariant in
    let key = c.in-Some.key in
    let there = c.in-Some.ensures.some in
    let old = c.loop-key.waits.keys in
    let less = c.remove-was_there.new.self in
    let new = c.pass.new.waits.keys in
    let passed = there.passed in
    let known = c.known-known.ensures.known ∙ ap (known_end log) (sym there.of_site) in
    let more = c.pass.ensures.more in
    record {
      ready = c.pass.ensures.ready;
      due = λ p h. c.pass.ensures.due p (before.due p h);
      asleep = λ limit older p x f r s. elim (before.asleep limit older p x f r s) [
        | inl d ↦ inl (c.pass.ensures.due p d)
        | inr a ↦ split (is_at (by_stamp_and_arrival key.place) p)
            (λ t. let at = this_place key.place p t in
            let here : (is_due key.place c.pass.new.waits.due ≡ true) ⊎ IsSeenTo log new key x =
            subst (IfIsThere (λ y. (is_due key.place c.pass.new.waits.due ≡ true) ⊎ IsSeenTo log new key y)) (ap (get by_stamp_and_arrival c.args.ops.now) at ∙ f) c.pass.ensures.here in
            subst (λ (q : Standing). (is_due q c.pass.new.waits.due ≡ true) ⊎ IsResting limit new older log q x) at (elim here [
              | inl d ↦ inl d
              | inr seen ↦ inr (seen_at_rest old new older log key x r (omega (arith, passed, known)) (rest key old.alone less new.alone c.remove-was_there.ensures.updates.0 c.pass.ensures.alone)
                  more.begun more.ends seen limit (subst (λ (q : Standing). IsResting limit old older log q x) (sym at) a))
            ]))
            (λ t. inr (more_at_rest old new older log p x
            (λ st h. ap (λ s. contains by_key s (key_at st p)) c.pass.ensures.alone ∙ c.remove-was_there.ensures.updates.0 (key_at st p) ∙ other key (key_at st p) old.alone t h) more.begun more.ends limit a))
      ];
    }
  where
    rest : (key : Key) (old less new : BTreeSet Key) → ((k : Key) → contains by_key less k ≡ cond (is_at (by_key key) k) false (contains by_key old k))
        → new ≡ less → (st : Stamp) → has_key old key.place st ≡ true → (st ≡ stamp_of_key key) ⊎ (has_key new key.place st ≡ true)
    rest key old less new less_is same st h = split (is_at (by_key key) (key_at st key.place))
        (λ t. inl (sym (ap stamp_of_key (key_equal key (key_at st key.place) t))))
        (λ t. inr (ap (λ s. contains by_key s (key_at st key.place)) same ∙ less_is (key_at st key.place) ∙ (rw t h)))

    other : (key k : Key) (old : BTreeSet Key) → is_at (by_stamp_and_arrival key.place) k.place ≡ false → contains by_key old k ≡ true → cond (is_at (by_key key) k) false (contains by_key old k) ≡ true
    other key k old n h = let t = other_key key k n in rw t h

pub returns-clause-woken : goal.returns-clause-woken
returns-clause-woken g c =
    let log = g.T.Taking.log c.args.site.now in
    let last = c.loop-key.invariant in
    let known = c.known-known.ensures.known in
    let looked = c.look_through.ensures.looked in
    let ended = c.pass_ends.ensures.passed in
    record {
      due = λ p h. last.due p (ended.due p (looked.due p (c.look_again.ensures.due p h)));
      again = λ p h. last.due p (ended.due p (looked.due p (c.look_again.ensures.again p h)));
      asleep = λ limit older grown p x f r s. elim (last.asleep limit older p x f r (split (is_due p c.pass_ends.new.waits.due)
          (λ d. inl d)
          (λ n. inr (falls_to_rest c.args.made_by older log c.args.ops.now grown c.look_again.new.waits c.look_through.new.waits c.pass_ends.new.waits looked ended p x f n limit grown.history r
          (subst (λ (keys : Keys). sleeps limit keys older p x ≡ true) (sym c.look_again.ensures.keys) s))))) [
            | inl d ↦ or_left (is_due p c.loop-key.waits.due) (sleeps limit c.loop-key.waits.keys log p x) d
            | inr a ↦ or_right (is_due p c.loop-key.waits.due) (sleeps limit c.loop-key.waits.keys log p x)
                (rests_on c.loop-key.waits.keys c.args.made_by older log p x grown c.known-known.ensures.history (λ st h e. late (key_at st p) (known_end log c.args.made_by) h
                (λ l. c.in_default.ensures.none (key_at st p) e (omega (arith, l, known)))) limit a)
          ];
    }
  where
    late : (k : Key) (end : ℕ) → contains by_key c.loop-key.waits.keys.alone k ≡ true → (k.count ≤ end → contains by_key c.loop-key.waits.keys.alone k ≡ false) → end < k.count
    late k end h f = elim (cases_lt end k.count) [ inl l ↦ l | inr l ↦ absurd (let n = f l in cc (h, n)) ]
