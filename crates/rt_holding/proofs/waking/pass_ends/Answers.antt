use Rattle.std.proofs.Common.{◌≡◌, ◌∙◌, ap, arith, inl, inr, subst, true}
use Rattle.std.specs.BTreeMap.{get, is_at}
use Rattle.std.specs.BTreeSet.{BTreeSet, contains}
use Rattle.rt_rga.proofs.Skipping.{split}
use Rattle.rt_holding.specs.declared.waits.Key.{Key}
use Rattle.rt_holding.specs.declared.waits.Keys.{Keys}
use Rattle.rt_holding.specs.Kept.{by_stamp_and_arrival}
use Rattle.rt_holding.specs.Waiting.{targets}
use Rattle.rt_holding.specs.Waits.{IfIsThere, by_key, is_due}
use Rattle.rt_holding.specs.Waking.{IsAtEnd, IsStillWaiting}
use Rattle.rt_holding.proofs.Standing.{key_equal}
use Rattle.rt_holding.proofs.waking.pass_ends.Goals as goal

pub loop-key-preserved : goal.loop-key-preserved
loop-key-preserved g c =
    let log = g.T.Taking.log c.args.site.now in
    let ops = c.args.ops.now in
    let before = c.loop-key.invariant in
    let key = c.in-Some.key in
    let there = c.in-Some.ensures.some in
    let now = c.end_at.ensures in
    let passed = there.passed in
    let known = c.known-known.ensures.known in
    record {
      ready = now.ready;
      due = λ p h. now.due p (before.due p h);
      alone = ap (λ (s : Keys). s.alone) now.keys ∙ before.alone;
      ends = ap (λ (s : Keys). s.ends) now.keys ∙ before.ends;
      each = λ k h. elim (before.each k h) [
        | inl i ↦ split (is_at (by_key key) k)
            (λ t. let same = key_equal key k t in
            elim now.here [
              | inl d ↦ inr (inl (subst (λ (q : Key). is_due q.place c.end_at.new.waits.due ≡ true) same d))
              | inr w ↦ inr (inr (subst (IsAtEnd c.args.made_by log ops c.args.waits.now.keys.alone) same (record {
                site = there.of_site;
                passed = omega (arith, passed, known);
                waits = subst (λ (alone : BTreeSet Key). IfIsThere (λ op. IsStillWaiting log alone key (targets op.body)) (get by_stamp_and_arrival ops key.place)) before.alone w;
              })))
            ])
            (λ t. inl (ap (λ (s : Keys). contains by_key s.begun k) now.keys ∙ c.remove-was_there.ensures.updates.0 k ∙ (rw t i)))
        | inr i ↦ elim i [ inl d ↦ inr (inl (now.due k.place d)) | inr a ↦ inr (inr a) ]
      ];
    }
