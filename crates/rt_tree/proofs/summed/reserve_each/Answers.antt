use Rattle.std.proofs.Common.{◌≡◌, ◌≤◌, ◌∙◌, arith, refl, subst, sym}
use Rattle.std.specs.Prelude.{nat_lt}
use Rattle.std.proofs.lemmas.Bool.{ltb-false, ltb-true}
use Rattle.rt_store.proofs.Distinct.{split}
use Rattle.rt_tree.specs.Summaries.{room_at, summary_of}
use Rattle.rt_tree.proofs.Telling.{tells_same, tells_then}
use Rattle.rt_tree.proofs.summed.reserve_each.Goals as goal

pub loop-id-init : goal.loop-id-init
loop-id-init c = record { same = λ i. tells_same (summary_of c.args.each.now i); many = refl; done = λ i lt. absurd (omega (arith, lt)); kept = λ i. omega arith }

pub loop-id-preserved : goal.loop-id-preserved
loop-id-preserved c =
    let inv = c.loop-id.invariant in
    let old = c.loop-id.each in
    let now = c.reserve_at.new.each in
    record {
      same = λ i. tells_then (summary_of c.args.each.now i) (summary_of old i) (summary_of now i) (inv.same i) (c.reserve_at.ensures.same i);
      many = c.reserve_at.ensures.many ∙ inv.many;
      done = λ i lt. split (nat_lt i c.loop-id.id)
          (λ t. let d = inv.done i (ltb-true _ _ t) in let k = c.reserve_at.ensures.kept i in omega (arith, d, k))
          (λ f. let high = ltb-false i c.loop-id.id f in let same : i ≡ c.loop-id.id = omega (arith, lt, high) in subst (λ n. c.args.tags ≤ room_at now n) (sym same) c.in_ok-reserve_at.ensures.ok);
      kept = λ i. let a = inv.kept i in let b = c.reserve_at.ensures.kept i in omega (arith, a, b);
    }
