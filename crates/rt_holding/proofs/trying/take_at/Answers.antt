use Rattle.std.proofs.Common.{◌≡◌, ◌∙◌, List, None, Some, ap, subst}
use Rattle.std.specs.BTreeMap.{insert_entry, is_at}
use Rattle.std.specs.Map.{remove_entry}
use Rattle.rt_ops.specs.Operations.{Operation}
use Rattle.rt_oplog.specs.Logs.{with_operation}
use Rattle.rt_rga.specs.Answers.{New, answer_within}
use Rattle.rt_holding.specs.Kept.{HeldEntry, by_stamp_and_arrival}
use Rattle.rt_holding.proofs.Standing.{set_twice}
use Rattle.rt_holding.proofs.Places.{back_at, out_of, puts, same_at, stands}
use Rattle.rt_holding.proofs.trying.take_at.Goals as goal

pub take-requires : goal.take-requires
take-requires g c =
    let same = same_at c.args.ops.now c.args.place c.requires.op c.take_out-op.result c.requires.there c.take_out-op.ensures.there in
    subst (λ (op : Operation). answer_within (g.T.Taking.limit c.args.site.now) op (g.T.Taking.log c.args.site.now) ≡ New) same c.requires.new

pub returns-in-Ok-clause-site : goal.returns-in-Ok-clause-site
returns-in-Ok-clause-site g c = λ op i. c.in-Ok.ensures.taken ∙ ap (λ (p : Operation). g.T.Taking.after p c.args.site.now) (same_at c.args.ops.now c.args.place _ op c.take_out-op.ensures.there i)

pub returns-in-Ok-clause-log : goal.returns-in-Ok-clause-log
returns-in-Ok-clause-log g c = λ op i. c.in-Ok.ensures.log ∙ ap (λ (p : Operation). with_operation p (g.T.Taking.log c.args.site.now)) (same_at c.args.ops.now c.args.place _ op c.take_out-op.ensures.there i)

pub returns-in-Ok-clause-out : goal.returns-in-Ok-clause-out
returns-in-Ok-clause-out g c =
    let place = c.args.place in
    c.remove-none.ensures.entries ∙ ap (remove_entry (is_at (by_stamp_and_arrival place))) c.take_out-op.ensures.entries
    ∙ out_of c.args.ops.now.entries place c.take_out-op.result c.take_out-op.ensures.there

pub returns-in-Ok-clause-by : goal.returns-in-Ok-clause-by
returns-in-Ok-clause-by g c = λ op i. c.site-by.ensures ∙ ap (λ (p : Operation). p.site) (same_at c.args.ops.now c.args.place _ op c.take_out-op.ensures.there i)

pub returns-in-Ok-clause-others : goal.returns-in-Ok-clause-others
returns-in-Ok-clause-others g c =
    set_twice c.args.ops.now c.take_out-op.new.ops c.remove-none.new.self c.args.place (Some None) None c.take_out-op.ensures.others c.remove-none.ensures.updates.0

pub returns-in-Err-clause-same_ops : goal.returns-in-Err-clause-same_ops
returns-in-Err-clause-same_ops g c =
    let place = c.args.place in
    let old = c.args.ops.now.entries in
    let there = c.take_out-op.ensures.there in
    let entries = c.take_out-op.ensures.entries in
    puts c.insert-none.result c.take_out-op.new.ops place None c.insert-none.new.self.entries (insert_entry by_stamp_and_arrival c.take_out-op.new.ops.entries place (Some c.in-Err.back))
    c.insert-none.ensures.entries c.insert-none.ensures.absent (stands c.take_out-op.new.ops old place c.take_out-op.result there entries)
    ∙ ap (λ (es : List HeldEntry). insert_entry by_stamp_and_arrival es place (Some c.in-Err.back)) entries
    ∙ ap (λ (op : Operation). insert_entry by_stamp_and_arrival (insert_entry by_stamp_and_arrival old place None) place (Some op)) c.in-Err.ensures.back
    ∙ back_at old place c.take_out-op.result there
