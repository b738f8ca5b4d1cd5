use Rattle.std.proofs.Common.{◌≡◌, ◌∙◌, ◌++◌, ℕ, List, ap, arith, length, refl, subst, sym}
use Rattle.std.proofs.lemmas.List.{length-map}
use Rattle.rt_store.specs.Shown.{shown}
use Rattle.rt_rga.specs.Replicas.{IsReplica}
use Rattle.std.specs.Prelude.{IfSome, reverse}
use Rattle.std.proofs.lemmas.Result.{err_from_is_err_and}
use Rattle.rt_ops.specs.Operations.{Operation}
use Rattle.rt_store.specs.declared.cell.Cell.{Cell}
use Rattle.rt_tags.specs.States.{KeepsIds, TagStates}
use Rattle.rt_tags.proofs.Keeping.{keeps_itself}
use Rattle.rt_rga.specs.Drafts.{with_operations}
use Rattle.rt_rga.specs.OneOrMany.{items_in}
use Rattle.rt_rga.specs.Kept.{ReplicaValue}
use Rattle.rt_rga.specs.Making.{AreNewest, fresh_cells}
use Rattle.rt_rga.specs.Noted.{AreNotedOf, AreNotes}
use Rattle.rt_rga.proofs.Noted.{in_front, noted_same}
use Rattle.rt_rga.proofs.Within.{same_value, within_later}
use Rattle.rt_rga.proofs.replica.Replica.make_all.Goals as goal

pub invariant_of-self-in_err-noted : goal.invariant_of-self-in_err-noted
invariant_of-self-in_err-noted g c =
    let v = c.self.inside in
    let kept : List (Cell ℕ) = g.S.TextStore.list v.store in
    record { within = within_later v.log.operations c.reserve.new.self.operations v.states c.change.new.states kept (g.S.TextStore.list c.change.new.store) v.clock v.limit c.reserve.ensures.same c.in_err-noted.ensures.same c.change.ensures.ids c.self.invariant.within; agrees = c.change.ensures.agrees; noted = noted_same v.notes v.log.operations c.reserve.new.self.operations c.reserve.ensures.same c.self.invariant.noted }

pub invariant_of-self : goal.invariant_of-self
invariant_of-self g c =
    let v = c.self.inside in
    let kept : List (Cell ℕ) = g.S.TextStore.list v.store in
    record { within = within_later v.log.operations c.reserve.new.self.operations v.states v.states kept kept v.clock v.limit c.reserve.ensures.same refl (keeps_itself v.states) c.self.invariant.within; agrees = c.self.invariant.agrees; noted = noted_same v.notes v.log.operations c.reserve.new.self.operations c.reserve.ensures.same c.self.invariant.noted }

pub invariant_of-self-2 : goal.invariant_of-self-2
invariant_of-self-2 g c =
    let v = c.self.inside in
    let ops = items_in c.args.ops in
    let log : v.log.operations ≡ c.args.self.now.log = ap (λ (a : ReplicaValue). a.log) c.self.view_is in
    let newest : AreNewest v.log.operations ops = subst (λ (l : List Operation). AreNewest l ops) (sym log) c.requires.newest in
    let more : c.push_few.new.log.operations ≡ reverse ops ++ v.log.operations =
    c.push_few.ensures.operations ∙ ap (with_operations ops) c.reserve.ensures.same ∙ in_front ops v.log.operations newest in
    let changes : IfSome c.in_ok-noted.noted (λ changes. AreNotedOf v.log.operations ops changes.items) =
    subst (λ (p : Type 0). p) (λ i. IfSome c.in_ok-noted.noted (λ changes. AreNotedOf (c.reserve.ensures.same i) (c.list_of-made.ensures i) changes.items)) c.in_ok-noted.ensures.noted in
    let now = c.args.self.now in
    let kept : List (Cell ℕ) = g.S.TextStore.list v.store in
    let many : length now.cells ≡ length kept = sym (ap (λ (a : ReplicaValue). length a.cells) c.self.view_is) ∙ length-map kept (shown v.states) in
    let limit : v.limit ≡ now.limit = ap (λ (a : ReplicaValue). a.limit) c.self.view_is in
    let cells = ap (λ (l : List Operation). length (fresh_cells l)) c.list_of-made.ensures in
    let after : List (Cell ℕ) = g.S.TextStore.list c.change.new.store in
    let made : with_operations c.list_of-made.result.now c.reserve.new.self.operations ≡ c.push_few.new.log.operations =
    ap (λ (l : List Operation). with_operations l c.reserve.new.self.operations) c.list_of-made.ensures ∙ sym c.push_few.ensures.operations in
    record {
      within = record {
        replica = subst (λ (l : List Operation). IsReplica l c.change.new.states after) made c.in_ok-noted.ensures.replica;
        seen = c.push_few.ensures.seen;
        cells = omega (arith, c.in_ok-noted.ensures.cells, many, limit, cells, c.requires.room);
        most = c.self.invariant.within.most;
      };
      agrees = c.change.ensures.agrees;
      noted = subst (AreNotes c.add.new.self) (sym more) (c.add.ensures v.log.operations ops c.self.invariant.noted changes);
    }

pub returns-in_err-reserve : goal.returns-in_err-reserve
returns-in_err-reserve g c =
    let (y, is, gives) = err_from_is_err_and c.from_residual.result c.from_residual.ensures.1 in
    let v = c.self.inside in
    let kept : List (Cell ℕ) = g.S.TextStore.list v.store in
    let ids : KeepsIds v.states v.states = keeps_itself v.states in
    rw (is, gives) (record {
      log = tt;
      cells = tt;
      same = same_value v.log.operations c.reserve.new.self.operations v.states v.states kept kept v.site.number v.limit c.reserve.ensures.same refl ids c.self.invariant.within.replica.states
          ∙ ap (λ (a : ReplicaValue). record a { table = v.states }) c.self.view_is;
      site = ap (λ (a : ReplicaValue). a.site) c.self.view_is;
      limit = ap (λ (a : ReplicaValue). a.limit) c.self.view_is;
      ids = subst (λ (t : TagStates). KeepsIds t v.states) (ap (λ (a : ReplicaValue). a.table) c.self.view_is) ids;
      fault = c.in_err-reserve.ensures.fault;
    })

pub returns-in_err-noted : goal.returns-in_err-noted
returns-in_err-noted g c =
    let (y, is, gives) = err_from_is_err_and c.from_residual-in_err-noted.result c.from_residual-in_err-noted.ensures.1 in
    let v = c.self.inside in
    let kept : List (Cell ℕ) = g.S.TextStore.list v.store in
    let ids : KeepsIds v.states c.change.new.states = c.change.ensures.ids in
    rw (is, gives) (record {
      log = tt;
      cells = tt;
      same = same_value v.log.operations c.reserve.new.self.operations v.states c.change.new.states kept (g.S.TextStore.list c.change.new.store) v.site.number v.limit c.reserve.ensures.same c.in_err-noted.ensures.same ids c.self.invariant.within.replica.states
          ∙ ap (λ (a : ReplicaValue). record a { table = c.change.new.states }) c.self.view_is;
      site = ap (λ (a : ReplicaValue). a.site) c.self.view_is;
      limit = ap (λ (a : ReplicaValue). a.limit) c.self.view_is;
      ids = subst (λ (t : TagStates). KeepsIds t c.change.new.states) (ap (λ (a : ReplicaValue). a.table) c.self.view_is) ids;
      fault = c.in_err-noted.ensures.fault;
    })

pub returns-clause-log : goal.returns-clause-log
returns-clause-log g c = c.push_few.ensures.operations ∙ ap (with_operations (items_in c.args.ops)) (c.reserve.ensures.same ∙ ap (λ (a : ReplicaValue). a.log) c.self.view_is)

pub returns-clause-same : goal.returns-clause-same
returns-clause-same g c = tt

pub returns-clause-site : goal.returns-clause-site
returns-clause-site g c = ap (λ (a : ReplicaValue). a.site) c.self.view_is

pub returns-clause-limit : goal.returns-clause-limit
returns-clause-limit g c = ap (λ (a : ReplicaValue). a.limit) c.self.view_is

pub returns-clause-ids : goal.returns-clause-ids
returns-clause-ids g c = subst (λ (t : TagStates). KeepsIds t c.change.new.states) (ap (λ (a : ReplicaValue). a.table) c.self.view_is) c.change.ensures.ids

pub returns-clause-fault : goal.returns-clause-fault
returns-clause-fault g c = tt

pub change-requires-clause-agrees : goal.change-requires-clause-agrees
change-requires-clause-agrees g c = c.self.invariant.agrees
