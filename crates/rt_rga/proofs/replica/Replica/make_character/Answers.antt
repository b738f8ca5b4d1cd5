use Rattle.std.proofs.Common.{◌≡◌, ◌∙◌, ◌+◌, ◌∷◌, [], ℕ, List, ap, arith, length, refl, subst, sym}
use Rattle.std.proofs.lemmas.List.{length-map}
use Rattle.std.proofs.lemmas.Result.{err_from_is_err_and}
use Rattle.std.specs.Prelude.{IfSome, None, Option, Some}
use Rattle.rt_ops.specs.Operations.{Operation, stamp_of}
use Rattle.rt_oplog.specs.Logs.{with_operation}
use Rattle.rt_store.specs.Cells.{IsPlaced}
use Rattle.rt_stamps.specs.declared.stamp.Stamp.{Stamp}
use Rattle.rt_store.specs.declared.cell.Cell.{Cell}
use Rattle.rt_store.specs.Shown.{shown}
use Rattle.rt_tags.proofs.Keeping.{keeps_itself}
use Rattle.rt_rga.specs.Cells.{cells_of}
use Rattle.rt_rga.specs.Drafts.{one_character, with_drafts}
use Rattle.rt_rga.specs.Histories.{Continues, greatest_last_count}
use Rattle.rt_rga.specs.Kept.{ReplicaValue}
use Rattle.rt_rga.specs.Making.{next_insert}
use Rattle.rt_rga.specs.Replicas.{IsReplica}
use Rattle.rt_rga.specs.Noted.{AreNotedOf, AreNotes}
use Rattle.rt_rga.proofs.Drafting.{newest}
use Rattle.rt_rga.proofs.Noted.{noted_same}
use Rattle.rt_rga.proofs.Replicas.{replica_distinct}
use Rattle.rt_rga.proofs.Within.{placed_by, same_value, within_later}
use Rattle.rt_rga.proofs.replica.Replica.make_character.Goals as goal

pub put_character-requires : goal.put_character-requires
put_character-requires g c =
    let v = c.self.inside in
    let now = c.args.self.now in
    let kept : List (Cell ℕ) = g.S.TextStore.list v.store in
    let log : c.reserve.new.self.operations ≡ now.log = c.reserve.ensures.same ∙ ap (λ (a : ReplicaValue). a.log) c.self.view_is in
    let site : c.args.stamp.site ≡ now.site = ap (λ (s : Stamp). s.site) c.requires.stamp in
    let many : length now.cells ≡ length kept = sym (ap (λ (a : ReplicaValue). length a.cells) c.self.view_is) ∙ length-map kept (shown v.states) in
    let limit : v.limit ≡ now.limit = ap (λ (a : ReplicaValue). a.limit) c.self.view_is in
    record {
      replica = subst (λ (ops : List Operation). IsReplica ops v.states kept) (sym c.reserve.ensures.same) c.self.invariant.within.replica;
      agrees = c.self.invariant.agrees;
      next = ap (λ (s : Stamp). s.count) c.requires.stamp ∙ ap (λ (ops : List Operation). greatest_last_count ops + 1) (sym log);
      continues = subst (λ (p : Type 0). p) (λ i. Continues (sym log i) (next_insert (sym site i) c.args.after c.args.character (sym log i))) c.requires.continues;
      room = omega (arith, many, limit, c.requires.room, c.self.invariant.within.most);
    }

pub push_character-requires : goal.push_character-requires
push_character-requires g c =
    let v = c.self.inside in
    let now = c.args.self.now in
    let log : c.reserve.new.self.operations ≡ now.log = c.reserve.ensures.same ∙ ap (λ (a : ReplicaValue). a.log) c.self.view_is in
    let site : c.args.stamp.site ≡ now.site = ap (λ (s : Stamp). s.site) c.requires.stamp in
    record {
      next = ap (λ (s : Stamp). s.count) c.requires.stamp ∙ ap (λ (ops : List Operation). greatest_last_count ops + 1) (sym log);
      continues = subst (λ (p : Type 0). p) (λ i. Continues (sym log i) (next_insert (sym site i) c.args.after c.args.character (sym log i))) c.requires.continues;
      room = omega (arith, c.in_ok-reserve.ensures.ok);
      seen = c.self.invariant.within.seen ∙ ap greatest_last_count (sym c.reserve.ensures.same);
    }

pub invariant_of-self : goal.invariant_of-self
invariant_of-self g c =
    let v = c.self.inside in
    let kept : List (Cell ℕ) = g.S.TextStore.list v.store in
    record { within = within_later v.log.operations c.reserve.new.self.operations v.states v.states kept kept v.clock v.limit c.reserve.ensures.same refl (keeps_itself v.states) c.self.invariant.within; agrees = c.self.invariant.agrees; noted = noted_same v.notes v.log.operations c.reserve.new.self.operations c.reserve.ensures.same c.self.invariant.noted }

pub invariant_of-self-in_err-put_character : goal.invariant_of-self-in_err-put_character
invariant_of-self-in_err-put_character g c =
    let v = c.self.inside in
    let kept : List (Cell ℕ) = g.S.TextStore.list v.store in
    record { within = within_later v.log.operations c.reserve.new.self.operations v.states v.states kept (g.S.TextStore.list c.put_character.new.store) v.clock v.limit c.reserve.ensures.same c.in_err-put_character.ensures.same (keeps_itself v.states) c.self.invariant.within; agrees = c.put_character.ensures.agrees; noted = noted_same v.notes v.log.operations c.reserve.new.self.operations c.reserve.ensures.same c.self.invariant.noted }

pub of_character-noted-requires-clause-placed : goal.of_character-noted-requires-clause-placed
of_character-noted-requires-clause-placed g c =
    let v = c.self.inside in
    let now = c.args.self.now in
    let op : Operation = next_insert now.site c.args.after c.args.character now.log in
    let kept : List (Cell ℕ) = g.S.TextStore.list v.store in
    let log : v.log.operations ≡ now.log = ap (λ (a : ReplicaValue). a.log) c.self.view_is in
    let continues : Continues v.log.operations op = subst (λ (ops : List Operation). Continues ops op) (sym log) c.requires.continues in
    let placed = placed_by v.log.operations v.states kept op c.self.invariant.within.replica continues c.args.after [] (c.args.character ∷ []) refl in
    subst (λ (s : Stamp). IsPlaced kept c.args.after s) (sym c.requires.stamp) placed

pub of_character-noted-requires-clause-distinct : goal.of_character-noted-requires-clause-distinct
of_character-noted-requires-clause-distinct g c =
    let v = c.self.inside in
    replica_distinct v.log.operations v.states (g.S.TextStore.list v.store) c.self.invariant.within.replica

-- what is told of one thing is told of another that it gives
weaker : {A : Type 0} {P Q : A → Type 0} (o : Option A) → ((a : A) → P a → Q a) → IfSome o P → IfSome o Q
weaker None f h = tt
weaker (Some a) f h = f a h

pub invariant_of-self-2 : goal.invariant_of-self-2
invariant_of-self-2 g c =
    let v = c.self.inside in
    let now = c.args.self.now in
    let site : c.args.stamp.site ≡ now.site = ap (λ (s : Stamp). s.site) c.requires.stamp in
    let log : v.log.operations ≡ now.log = ap (λ (a : ReplicaValue). a.log) c.self.view_is in
    let op : Operation = next_insert now.site c.args.after c.args.character v.log.operations in
    let stamp : stamp_of op ≡ c.args.stamp = (λ i. record { count = greatest_last_count (log i) + 1; site = now.site }) ∙ sym c.requires.stamp in
    let front : with_operation op v.log.operations ≡ op ∷ v.log.operations = newest op v.log.operations (omega arith) in
    let more : c.push_character.new.log.operations ≡ op ∷ v.log.operations =
    c.push_character.ensures.operations ∙ (λ i. with_drafts (site i) (one_character c.args.after c.args.character) (c.reserve.ensures.same i)) ∙ front in
    let changes : IfSome c.of_character-noted.result (λ changes. AreNotedOf v.log.operations (op ∷ []) changes.items) =
    weaker c.of_character-noted.result (λ changes told. told v.log.operations v.states op c.args.character stamp refl c.self.invariant.within.replica.cells) c.of_character-noted.ensures in
    let kept : List (Cell ℕ) = g.S.TextStore.list v.store in
    let many : length now.cells ≡ length kept = sym (ap (λ (a : ReplicaValue). length a.cells) c.self.view_is) ∙ length-map kept (shown v.states) in
    let limit : v.limit ≡ now.limit = ap (λ (a : ReplicaValue). a.limit) c.self.view_is in
    record {
      within = record {
        replica = subst (λ (ops : List Operation). IsReplica ops v.states (g.S.TextStore.list c.put_character.new.store)) (sym c.push_character.ensures.operations) c.in_ok-put_character.ensures.replica;
        seen = c.push_character.ensures.seen;
        cells = omega (arith, c.in_ok-put_character.ensures.cells, many, limit, c.requires.room);
        most = c.self.invariant.within.most;
      };
      agrees = c.put_character.ensures.agrees;
      noted = subst (AreNotes c.add.new.self) (sym more) (c.add.ensures v.log.operations (op ∷ []) c.self.invariant.noted changes);
    }

pub returns-in_err-reserve : goal.returns-in_err-reserve
returns-in_err-reserve g c =
    let (y, is, gives) = err_from_is_err_and c.from_residual.result c.from_residual.ensures.1 in
    let v = c.self.inside in
    let kept : List (Cell ℕ) = g.S.TextStore.list v.store in
    rw (is, gives) (record {
      log = tt;
      cells = tt;
      same = same_value v.log.operations c.reserve.new.self.operations v.states v.states kept kept v.site.number v.limit c.reserve.ensures.same refl (keeps_itself v.states) c.self.invariant.within.replica.states ∙ c.self.view_is;
      site = ap (λ (a : ReplicaValue). a.site) c.self.view_is;
      limit = ap (λ (a : ReplicaValue). a.limit) c.self.view_is;
      table = ap (λ (a : ReplicaValue). a.table) c.self.view_is;
      fault = c.in_err-reserve.ensures.fault;
    })

pub returns-in_err-put_character : goal.returns-in_err-put_character
returns-in_err-put_character g c =
    let (y, is, gives) = err_from_is_err_and c.from_residual-in_err-put_character.result c.from_residual-in_err-put_character.ensures.1 in
    let v = c.self.inside in
    let kept : List (Cell ℕ) = g.S.TextStore.list v.store in
    rw (is, gives) (record {
      log = tt;
      cells = tt;
      same = same_value v.log.operations c.reserve.new.self.operations v.states v.states kept (g.S.TextStore.list c.put_character.new.store) v.site.number v.limit c.reserve.ensures.same c.in_err-put_character.ensures.same (keeps_itself v.states) c.self.invariant.within.replica.states ∙ c.self.view_is;
      site = ap (λ (a : ReplicaValue). a.site) c.self.view_is;
      limit = ap (λ (a : ReplicaValue). a.limit) c.self.view_is;
      table = ap (λ (a : ReplicaValue). a.table) c.self.view_is;
      fault = c.in_err-put_character.ensures.fault;
    })

pub returns : goal.returns
returns g c =
    let v = c.self.inside in
    let now = c.args.self.now in
    let log : c.reserve.new.self.operations ≡ now.log = c.reserve.ensures.same ∙ ap (λ (a : ReplicaValue). a.log) c.self.view_is in
    let site : c.args.stamp.site ≡ now.site = ap (λ (s : Stamp). s.site) c.requires.stamp in
    record {
      log = c.push_character.ensures.operations ∙ (λ i. with_drafts (site i) (one_character c.args.after c.args.character) (log i));
      cells = c.in_ok-put_character.ensures.replica.cells ∙ ap (λ (ops : List Operation). cells_of ops) (sym c.push_character.ensures.operations);
      same = tt;
      site = ap (λ (a : ReplicaValue). a.site) c.self.view_is;
      limit = ap (λ (a : ReplicaValue). a.limit) c.self.view_is;
      table = ap (λ (a : ReplicaValue). a.table) c.self.view_is;
      fault = tt;
    }
