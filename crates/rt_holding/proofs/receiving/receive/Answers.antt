use Rattle.std.proofs.Common.{◌≡◌, ◌∙◌, ℕ, Option, Some, ap, arith, length, subst, sym}
use Rattle.rt_stamps.specs.declared.fault.Fault.{Fault}
use Rattle.rt_ops.specs.Operations.{Operation}
use Rattle.rt_ops.specs.Records.{TakesRecord}
use Rattle.rt_holding.specs.declared.receiving.Received.{Received}
use Rattle.rt_holding.specs.Receiving.{Receives, State}
use Rattle.rt_holding.proofs.Receptions.{fewer, none_offered, offered_length, offered_more, receives_front, receives_none, receives_until, receives_whole}
use Rattle.rt_holding.proofs.receiving.receive.Goals as goal

pub returns-in-Err-clause-receives : goal.returns-in-Err-clause-receives
returns-in-Err-clause-receives g c =
    let log = g.T.Taking.log in
    let limit = g.T.Taking.limit in
    let after = g.T.Taking.after in
    let start : State g.row.T.Denot = record { site = c.args.site.now; held = c.args.held.now.held } in
    let told : Option (Fault × ℕ) = Some (c.in-Err.fault, 0) in
    subst (λ (r : Received). Receives log limit after c.args.bytes.now start r start)
    (ap (λ (r : Received). record r { held = length start.held; fault = told }) (sym c.nothing-received.ensures.nothing) ∙ sym c.ended.ensures.ended)
    (receives_none log limit after c.args.bytes.now start c.in-Err.fault c.in-Err.ensures)

pub records-init : goal.records-init
records-init g c = record {
  offered = none_offered g.T.Taking.log g.T.Taking.limit g.T.Taking.after c.in-Ok.records (record { site = c.args.site.now; held = c.args.held.now.held })
      c.nothing-received.result c.in-Ok.ensures.1 c.nothing-received.ensures.nothing;
  bytes = c.in-Ok.ensures.0;
  most = c.nothing-received.ensures.most;
  tried = c.requires.tried;
}

pub returns-in-Err-next-clause-receives : goal.returns-in-Err-next-clause-receives
returns-in-Err-next-clause-receives g c =
    let log = g.T.Taking.log in
    let limit = g.T.Taking.limit in
    let after = g.T.Taking.after in
    let start : State g.row.T.Denot = record { site = c.args.site.now; held = c.args.held.now.held } in
    let now : State g.row.T.Denot = record { site = c.records.site; held = c.records.held.held } in
    let before = c.records.invariant in
    subst (λ (r : Received). Receives log limit after c.args.bytes.now start r now) (sym c.ended-in-Err-next.ensures.ended)
    (receives_front log limit after c.args.bytes.now c.records.records start c.records.received now c.in-Err-next.fault c.offset-offset.result before.bytes
    c.offset-offset.ensures.offset c.in-Err-next.ensures.err before.offered)

pub with-received-requires : goal.with-received-requires
with-received-requires g c =
    let before = c.records.invariant in
    let few = before.offered.few in
    let most = before.most in
    let ops = fewer c.records.records before.offered.ops before.offered.taken in
    let bytes = ap length before.bytes in
    let room = c.requires.bytes in
    let more = offered_length g.T.Taking.log g.T.Taking.limit g.T.Taking.after (g.T.Taking.limit c.records.site) c.in-Ok-Some.op c.in-Ok-offer.offered
    c.records.site c.records.held.held c.offer.new.site c.offer.new.self.held c.in-Ok-offer.ensures.offered in
    omega (arith, few, most, ops, bytes, room, more)

pub records-preserved : goal.records-preserved
records-preserved g c =
    let log = g.T.Taking.log in
    let limit = g.T.Taking.limit in
    let after = g.T.Taking.after in
    let op : Operation = c.in-Ok-Some.op in
    let start : State g.row.T.Denot = record { site = c.args.site.now; held = c.args.held.now.held } in
    let now : State g.row.T.Denot = record { site = c.records.site; held = c.records.held.held } in
    let mid : State g.row.T.Denot = record { site = c.offer.new.site; held = c.offer.new.self.held } in
    let before = c.records.invariant in
    let read : TakesRecord c.records.records op c.next.new.self = rw c.in-Ok-Some.field-0-is at c.in-Ok-Some.ensures.ok in
    let more = offered_more log limit after c.records.records c.next.new.self op c.in-Ok-offer.offered start c.records.received now mid read
    c.in-Ok-offer.ensures.reply c.in-Ok-offer.ensures.offered before.offered in
    rw c.with-received.ensures.counted (record {
      offered = more;
      bytes = read.bytes ∙ before.bytes;
      most = before.most;
      tried = c.offer.ensures.log;
    })

pub returns-in-Err-offer-clause-receives : goal.returns-in-Err-offer-clause-receives
returns-in-Err-offer-clause-receives g c =
    let log = g.T.Taking.log in
    let limit = g.T.Taking.limit in
    let after = g.T.Taking.after in
    let op : Operation = c.in-Ok-Some.op in
    let start : State g.row.T.Denot = record { site = c.args.site.now; held = c.args.held.now.held } in
    let now : State g.row.T.Denot = record { site = c.records.site; held = c.records.held.held } in
    let new : State g.row.T.Denot = record { site = c.offer.new.site; held = c.offer.new.self.held } in
    let before = c.records.invariant in
    let read : TakesRecord c.records.records op c.next.new.self = rw c.in-Ok-Some.field-0-is at c.in-Ok-Some.ensures.ok in
    let site = c.in-Err-offer.ensures.same_site in
    let held = c.in-Err-offer.ensures.same in
    let same : new ≡ now = λ k. record { site = site k; held = held k } in
    subst (λ (r : Received). Receives log limit after c.args.bytes.now start r new) (sym c.ended-in-Err-offer.ensures.ended)
    (receives_until log limit after c.args.bytes.now c.records.records c.next.new.self op start c.records.received now new c.in-Err-offer.refused c.offset-offset.result
    before.bytes c.offset-offset.ensures.offset read c.in-Err-offer.ensures.refused same before.offered)

pub returns-clause-receives : goal.returns-clause-receives
returns-clause-receives g c =
    let log = g.T.Taking.log in
    let limit = g.T.Taking.limit in
    let after = g.T.Taking.after in
    let start : State g.row.T.Denot = record { site = c.args.site.now; held = c.args.held.now.held } in
    let now : State g.row.T.Denot = record { site = c.records.site; held = c.records.held.held } in
    let before = c.records.invariant in
    let none = rw c.in-Ok-None.field-0-is at c.in-Ok-None.ensures.ok in
    subst (λ (r : Received). Receives log limit after c.args.bytes.now start r now) (sym c.ended-2.ensures.ended)
    (receives_whole log limit after c.args.bytes.now c.records.records start c.records.received now before.bytes none.0 before.offered)
