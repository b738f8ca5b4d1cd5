use Rattle.std.proofs.Common.{◌≡◌, ◌∙◌, ◌++◌, ◌∷◌, [], ℕ, ap, map, subst, sym, take, false, None}
use Rattle.std.proofs.lemmas.List.{take_all}
use Rattle.std.specs.List.{list_any}
use Rattle.std.specs.BTreeMap.{get}
use Rattle.std.specs.Ordering.{nat_cmp}
use Rattle.rt_oplog.specs.Logs.{known_end}
use Rattle.rt_peers.specs.Lacking.{known_in}
use Rattle.rt_ops.specs.Views.{operation_in}
use Rattle.rt_peers.proofs.Lacking.{all_known, is_of, is_there, items_more, known_more, known_there, none_seen, only_more, only_there, reached}
use Rattle.rt_peers.proofs.sending.ends_of.Goals as goal
use Rattle.rt_peers.proofs.sending.ends_of.Goals.{then-not-contains_key+in_ok-insert, else-not-contains_key}

pub loop-op-preserved : goal.loop-op-preserved
loop-op-preserved c =
    let known = known_end c.args.log.now.operations in
    let seen = map operation_in (take c.loop-op.op-index c.deref-op-items.result.now) in
    let op = operation_in c.op-item.result in
    let site = c.site-site.result in
    let of = sym c.site-site.ensures in
    let more = items_more c.deref-op-items.result.now c.loop-op.op-index c.op-item.result c.loop-op-test.true c.op-item.is in
    let both : ((q : ℕ) → known_in c.if-not-contains_key.ends q ≡ reached (seen ++ op ∷ []) known q)
    × ((q : ℕ) → list_any (is_of q) (seen ++ op ∷ []) ≡ false → get nat_cmp c.if-not-contains_key.ends q ≡ None) = elim c.if-not-contains_key.branch [
      | then-not-contains_key+in_ok-insert w ↦ rw w.ends-is (
        λ q. known_more c.loop-op.ends w.insert.new.self site w.known.result known w.in_ok-insert.ensures.updates w.known.ensures seen op of q (c.loop-op.invariant.known q),
        λ q. only_more c.loop-op.ends w.insert.new.self site w.known.result w.in_ok-insert.ensures.updates seen op of q (c.loop-op.invariant.only q),
      )
      | else-not-contains_key w ↦ rw w.ends-is (
        λ q. known_there c.loop-op.ends site known (is_there c.loop-op.ends site c.contains_key.result c.contains_key.ensures w.if-not-contains_key.false) seen op of (c.loop-op.invariant.only site) q (c.loop-op.invariant.known q),
        λ q. only_there c.loop-op.ends seen op q (c.loop-op.invariant.only q),
      )
    ] in
    record {
      known = λ q. subst (λ ops. known_in c.if-not-contains_key.ends q ≡ reached ops known q) (sym more) (both.0 q);
      only = λ q. subst (λ ops. list_any (is_of q) ops ≡ false → get nat_cmp c.if-not-contains_key.ends q ≡ None) (sym more) (both.1 q);
    }

pub returns-clause-ok : goal.returns-clause-ok
returns-clause-ok c = λ q.
    let all = take_all c.loop-op.op-index c.deref-op-items.result.now c.loop-op-test.false in
    c.loop-op.invariant.known q
    ∙ ap (λ items. reached (map operation_in items) (known_end c.args.log.now.operations) q) (all ∙ c.deref-op-items.ensures.value)
    ∙ ap (λ ops. reached ops (known_end c.args.log.now.operations) q) c.in_ok-ops.ensures.operations
    ∙ all_known c.args.log.now.operations q

pub returns-clause-only : goal.returns-clause-only
returns-clause-only c = λ q z.
    let all = take_all c.loop-op.op-index c.deref-op-items.result.now c.loop-op-test.false in
    c.loop-op.invariant.only q
    (ap (λ items. list_any (is_of q) (map operation_in items)) (all ∙ c.deref-op-items.ensures.value)
    ∙ ap (list_any (is_of q)) c.in_ok-ops.ensures.operations
    ∙ none_seen c.args.log.now.operations c.soundness.ensures.log q z)
