use Rattle.std.proofs.Common.{◌≡◌, ◌∙◌, ◌+◌, Some, ap, arith, length, reverse, subst, sym}
use Rattle.std.specs.Prelude.{slice_get}
use Rattle.std.proofs.lemmas.Iterator.Adapters.{YieldsList-from_vec}
use Rattle.std.proofs.lemmas.Iterator.Consumers.{YieldsList-end, YieldsList-turn}
use Rattle.std.proofs.lemmas.List.{length_push}
use Rattle.rt_ops.specs.Operations.{Operation}
use Rattle.rt_ops.specs.Views.{operation_in}
use Rattle.rt_peers.proofs.Noting.{IsOwnAt, all_own, one_more_own, own_change}
use Rattle.rt_peers.proofs.text.noting.told_from.Goals as goal

pub loop-change-preserved : goal.loop-change-preserved
loop-change-preserved c =
    let b = c.into_iter-change-iterator.ensures.into_iter_gives in
    let t = YieldsList-turn (YieldsList-from_vec {s = c.into_iter-change-iterator.result} c.args.changes.items b.0 (b.1 ∙ c.args.changes.ok.0))
    c.loop-change.yielded c.loop-change.change-iterator c.loop-change.yielded_by c.next.result c.next.new.self c.in-Some.change c.in-Some.is c.next.ensures.steps in
    let log = c.args.log.now.operations in
    let op = c.in-Ok.op in
    let is : op ≡ operation_in c.get.result = c.in-Ok.ensures.ok in
    let at : c.args.from + length c.loop-change.yielded ≡ c.loop-change.place = omega (arith, c.loop-change.invariant.at) in
    let found : slice_get (reverse log) (c.args.from + length c.loop-change.yielded) ≡ Some op =
    ap (slice_get (reverse log)) at ∙ c.get.ensures.is ∙ ap (λ (o : Operation). Some o) (sym is) in
    let own = own_change log c.args.changes.items c.args.from (length c.loop-change.yielded) op c.in-Some.change c.requires.many c.requires.newest t.0 t.1 found in
    record {
      at = let n = length_push c.loop-change.yielded c.in-Some.change in omega (arith, n, c.loop-change.invariant.at);
      told = one_more_own log c.args.from c.loop-change.place op c.in-Some.change c.in-Ok-of.to_tell c.loop-change.told.items c.push.new.self.items c.at.result
          (subst (λ n. IsOwnAt log n op c.in-Some.change) at own) (c.in-Ok-of.ensures.ok) c.at.ensures c.in-Ok-push.ensures.items c.loop-change.invariant.told;
    }

pub returns : goal.returns
returns c =
    let b = c.into_iter-change-iterator.ensures.into_iter_gives in
    let t = YieldsList-end (YieldsList-from_vec {s = c.into_iter-change-iterator.result} c.args.changes.items b.0 (b.1 ∙ c.args.changes.ok.0))
    c.loop-change.yielded c.loop-change.change-iterator c.loop-change.yielded_by c.next.result c.next.new.self c.in-None.is c.next.ensures.steps in
    all_own c.args.log.now.operations c.args.from c.loop-change.place c.loop-change.told.items (omega (arith, t.1, c.requires.many, c.loop-change.invariant.at)) c.loop-change.invariant.told
