use Rattle.std.proofs.Common.{ap, arith, subst}
use Rattle.std.proofs.lemmas.Result.{on_ok_weaker}
use Rattle.rt_tree.specs.declared.summary.Summary.{Summary}
use Rattle.rt_tree.specs.Summaries.{TellsAs, no_summary}
use Rattle.rt_tree.proofs.Passes.{get-any}
use Rattle.rt_tree.proofs.Telling.{set_own, set_room, set_tells}
use Rattle.rt_tree.proofs.summed.reserve_at.Goals as goal

pub returns-clause-same : goal.returns-clause-same
returns-clause-same c i =
    let each = c.args.each.now in
    let id = c.args.id in
    let now = c.reserve_in.new.summary in
    let same = get-any each id c.index-each-id.result no_summary c.requires in
    set_tells each id c.requires now (subst (λ s. TellsAs s now) same c.reserve_in.ensures.same) i

pub returns-clause-ok : goal.returns-clause-ok
returns-clause-ok c =
    let own = ap (λ (s : Summary). s.counts.capacity) (set_own c.args.each.now c.args.id c.requires c.reserve_in.new.summary) in
    on_ok_weaker c.reserve_in.result (λ ok. omega (arith, own, ok)) c.reserve_in.ensures.ok

pub returns-clause-kept : goal.returns-clause-kept
returns-clause-kept c i =
    let each = c.args.each.now in
    let id = c.args.id in
    let same = ap (λ (s : Summary). s.counts.capacity) (get-any each id c.index-each-id.result no_summary c.requires) in
    set_room each id c.requires c.reserve_in.new.summary (omega (arith, same, c.reserve_in.ensures.kept)) i
