use Rattle.std.proofs.Common.{◌≡◌, ◌∙◌, ◌+◌, ◌≤◌, ℕ, List, ap, arith, length, max, refl, subst, sym}
use Rattle.std.proofs.lemmas.List.{length-map}
use Rattle.rt_oplog.specs.Logs.{with_operation}
use Rattle.rt_ops.specs.Operations.{Operation}
use Rattle.rt_store.specs.declared.cell.Cell.{Cell}
use Rattle.rt_tags.specs.States.{KeepsIds, TagStates}
use Rattle.rt_tags.proofs.Keeping.{keeps_itself}
use Rattle.rt_rga.specs.Histories.{Continues, IsHistory, greatest_last_count, inserted}
use Rattle.rt_rga.specs.Kept.{ReplicaValue}
use Rattle.rt_rga.specs.Replicas.{IsReplica}
use Rattle.rt_rga.specs.Taken.{IsChange}
use Rattle.rt_tags.proofs.Listing.{keeps_both}
use Rattle.rt_rga.proofs.Noted.{noted_same}
use Rattle.rt_rga.proofs.Pushing.{taken_in}
use Rattle.rt_rga.proofs.Replicas.{replica_distinct}
use Rattle.rt_rga.proofs.Within.{final_spared, placed_by, same_value, within_later, within_more}
use Rattle.rt_store.specs.Shown.{shown, TaggedCell}
use Rattle.std.specs.Prelude.{false, true, Result, Ok, Err, OnErr, OnOk}
use Rattle.std.specs.Result.{is_err}
use Rattle.rt_rga.proofs.replica.Replica.take_next.Goals as goal

on_ok : {A B P : Type 0} (r : Result A B) → false ≡ is_err r → OnOk r P → P
on_ok (Ok a) e p = p
on_ok (Err b) e p = absurd (cc e)

on_err : {A B P : Type 0} (r : Result A B) → true ≡ is_err r → OnErr r P → P
on_err (Ok a) e p = absurd (cc e)
on_err (Err b) e p = p

pub describe-requires-clause-placed : goal.describe-requires-clause-placed
describe-requires-clause-placed g c =
    let v = c.self.inside in
    let log = v.log.operations in
    let kept : List (Cell ℕ) = g.S.TextStore.list v.store in
    let seen : log ≡ c.args.self.now.log = ap (λ (a : ReplicaValue). a.log) c.self.view_is in
    let continues : Continues log c.args.op = subst (λ (l : List Operation). Continues l c.args.op) (sym seen) c.requires.continues in
    placed_by log v.states kept c.args.op c.self.invariant.within.replica continues

pub describe-requires-clause-distinct : goal.describe-requires-clause-distinct
describe-requires-clause-distinct g c =
    let v = c.self.inside in
    let log = v.log.operations in
    let kept : List (Cell ℕ) = g.S.TextStore.list v.store in
    replica_distinct log v.states kept c.self.invariant.within.replica

pub describe-requires-clause-few : goal.describe-requires-clause-few
describe-requires-clause-few g c = omega (arith, c.self.invariant.within.cells, c.self.invariant.within.most)

pub describe-requires-clause-stays : goal.describe-requires-clause-stays
describe-requires-clause-stays g c =
    let v = c.self.inside in
    let log = v.log.operations in
    let kept : List (Cell ℕ) = g.S.TextStore.list v.store in
    let seen : log ≡ c.args.self.now.log = ap (λ (a : ReplicaValue). a.log) c.self.view_is in
    let continues : Continues log c.args.op = subst (λ (l : List Operation). Continues l c.args.op) (sym seen) c.requires.continues in
    final_spared log v.states kept c.args.op c.self.invariant.within.replica continues

pub invariant_of-self-in-Err : goal.invariant_of-self-in-Err
invariant_of-self-in-Err g c =
    let v = c.self.inside in
    let log = v.log.operations in
    let kept : List (Cell ℕ) = g.S.TextStore.list v.store in
    record { within = within_later log c.reserve.new.self.operations v.states c.describe.new.states kept kept v.clock v.limit c.reserve.ensures.same refl c.describe.ensures.ids c.self.invariant.within; agrees = g.met.S.TextStore.grows v.store v.states c.describe.new.states c.describe.ensures.ids c.self.invariant.agrees; noted = noted_same v.notes log c.reserve.new.self.operations c.reserve.ensures.same c.self.invariant.noted }

pub change-requires-clause-replica : goal.change-requires-clause-replica
change-requires-clause-replica g c =
    let v = c.self.inside in
    let log = v.log.operations in
    let kept : List (Cell ℕ) = g.S.TextStore.list v.store in
    (within_later log c.reserve.new.self.operations v.states c.describe.new.states kept kept v.clock v.limit c.reserve.ensures.same refl c.describe.ensures.ids c.self.invariant.within).replica

pub invariant_of-self-then-is_err-2 : goal.invariant_of-self-then-is_err-2
invariant_of-self-then-is_err-2 g c =
    let v = c.self.inside in
    let log = v.log.operations in
    let kept : List (Cell ℕ) = g.S.TextStore.list v.store in
    let ids : KeepsIds v.states c.change.new.states = keeps_both v.states c.describe.new.states c.change.new.states c.describe.ensures.ids c.change.ensures.ids in
    record { within = within_later log c.reserve.new.self.operations v.states c.change.new.states kept (g.S.TextStore.list c.change.new.store) v.clock v.limit c.reserve.ensures.same (on_err c.change.result c.if-is_err-2.ensures.value c.change.ensures.same) ids c.self.invariant.within; agrees = c.change.ensures.agrees; noted = noted_same v.notes log c.reserve.new.self.operations c.reserve.ensures.same c.self.invariant.noted }

pub push_next-requires-clause-continues : goal.push_next-requires-clause-continues
push_next-requires-clause-continues g c =
    let v = c.self.inside in
    let seen : v.log.operations ≡ c.args.self.now.log = ap (λ (a : ReplicaValue). a.log) c.self.view_is in
    let continues : Continues v.log.operations c.args.op = subst (λ (l : List Operation). Continues l c.args.op) (sym seen) c.requires.continues in
    subst (λ (l : List Operation). Continues l c.args.op) (sym c.reserve.ensures.same) continues

pub push_next-requires-clause-history : goal.push_next-requires-clause-history
push_next-requires-clause-history g c = subst IsHistory (sym c.reserve.ensures.same) c.self.invariant.within.replica.history

pub push_next-requires-clause-room : goal.push_next-requires-clause-room
push_next-requires-clause-room g c = let r = on_ok c.reserve.result c.if-is_err.ensures.value c.reserve.ensures.ok in omega (arith, r)

pub push_next-requires-clause-seen : goal.push_next-requires-clause-seen
push_next-requires-clause-seen g c = c.self.invariant.within.seen ∙ ap greatest_last_count (sym c.reserve.ensures.same)

pub invariant_of-self-2 : goal.invariant_of-self-2
invariant_of-self-2 g c =
    let v = c.self.inside in
    let log = v.log.operations in
    let kept : List (Cell ℕ) = g.S.TextStore.list v.store in
    let after : List (Cell ℕ) = g.S.TextStore.list c.change.new.store in
    let replica : IsReplica c.push_next.new.log.operations c.change.new.states after =
    subst (λ (l : List Operation). IsReplica l c.change.new.states after) (sym c.push_next.ensures.operations) (on_ok c.change.result c.if-is_err-2.ensures.value c.change.ensures.replica) in
    record {
      within = record {
        replica = replica;
        seen = c.push_next.ensures.seen;
        cells = omega (
          arith,
          on_ok c.change.result c.if-is_err-2.ensures.value c.change.ensures.cells,
          c.requires.room,
          ap (λ (a : ReplicaValue). length a.cells) c.self.view_is,
          ap (λ (a : ReplicaValue). a.limit) c.self.view_is,
          length-map kept (shown v.states),
        );
        most = c.self.invariant.within.most;
      };
      agrees = c.change.ensures.agrees;
      noted = c.lose.ensures c.push_next.new.log.operations;
    }

pub returns-clause-log : goal.returns-clause-log
returns-clause-log g c =
    let seen : c.self.inside.log.operations ≡ c.args.self.now.log = ap (λ (a : ReplicaValue). a.log) c.self.view_is in
    c.push_next.ensures.operations ∙ ap (with_operation c.args.op) (c.reserve.ensures.same ∙ seen)

pub returns-clause-change : goal.returns-clause-change
returns-clause-change g c = subst (λ (cells : List TaggedCell). IsChange c.args.op cells c.in-Ok.told) (ap (λ (a : ReplicaValue). a.cells) c.self.view_is) c.in-Ok.ensures.change

pub returns-clause-ids : goal.returns-clause-ids
returns-clause-ids g c =
    let v = c.self.inside in
    let log = v.log.operations in
    let kept : List (Cell ℕ) = g.S.TextStore.list v.store in
    let ids : KeepsIds v.states c.change.new.states = keeps_both v.states c.describe.new.states c.change.new.states c.describe.ensures.ids c.change.ensures.ids in
    subst (λ (t : TagStates). KeepsIds t c.change.new.states) (ap (λ (a : ReplicaValue). a.table) c.self.view_is) ids

pub invariant_of-self : goal.invariant_of-self
invariant_of-self g c =
    let v = c.self.inside in
    let kept : List (Cell ℕ) = g.S.TextStore.list v.store in
    record { within = within_later v.log.operations c.reserve.new.self.operations v.states v.states kept kept v.clock v.limit c.reserve.ensures.same refl (keeps_itself v.states) c.self.invariant.within; agrees = c.self.invariant.agrees; noted = noted_same v.notes v.log.operations c.reserve.new.self.operations c.reserve.ensures.same c.self.invariant.noted }

pub returns-clause-same : goal.returns-clause-same
returns-clause-same g c = tt

pub returns-clause-site : goal.returns-clause-site
returns-clause-site g c = ap (λ (a : ReplicaValue). a.site) c.self.view_is

pub returns-clause-limit : goal.returns-clause-limit
returns-clause-limit g c = ap (λ (a : ReplicaValue). a.limit) c.self.view_is

pub change-requires-clause-agrees : goal.change-requires-clause-agrees
change-requires-clause-agrees g c = g.met.S.TextStore.grows c.self.inside.store c.self.inside.states c.describe.new.states c.describe.ensures.ids c.self.invariant.agrees

pub returns-in-Err-clause-same : goal.returns-in-Err-clause-same
returns-in-Err-clause-same g c =
    let v = c.self.inside in
    let kept : List (Cell ℕ) = g.S.TextStore.list v.store in
    same_value v.log.operations c.reserve.new.self.operations v.states c.describe.new.states kept kept v.site.number v.limit c.reserve.ensures.same refl c.describe.ensures.ids c.self.invariant.within.replica.states
    ∙ ap (λ (a : ReplicaValue). record a { table = c.describe.new.states }) c.self.view_is

pub returns-then-is_err-2-clause-same : goal.returns-then-is_err-2-clause-same
returns-then-is_err-2-clause-same g c =
    let v = c.self.inside in
    let kept : List (Cell ℕ) = g.S.TextStore.list v.store in
    let ids : KeepsIds v.states c.change.new.states = keeps_both v.states c.describe.new.states c.change.new.states c.describe.ensures.ids c.change.ensures.ids in
    same_value v.log.operations c.reserve.new.self.operations v.states c.change.new.states kept (g.S.TextStore.list c.change.new.store) v.site.number v.limit c.reserve.ensures.same (on_err c.change.result c.if-is_err-2.ensures.value c.change.ensures.same) ids c.self.invariant.within.replica.states
    ∙ ap (λ (a : ReplicaValue). record a { table = c.change.new.states }) c.self.view_is

pub returns-then-is_err-2-clause-ids : goal.returns-then-is_err-2-clause-ids
returns-then-is_err-2-clause-ids g c =
    let v = c.self.inside in
    let ids : KeepsIds v.states c.change.new.states = keeps_both v.states c.describe.new.states c.change.new.states c.describe.ensures.ids c.change.ensures.ids in
    subst (λ (t : TagStates). KeepsIds t c.change.new.states) (ap (λ (a : ReplicaValue). a.table) c.self.view_is) ids
