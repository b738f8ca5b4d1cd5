use Rattle.std.proofs.Common.{◌≡◌, ℕ, ◌∙◌, arith, false, get_or, nat_lt, rules, sym, true, ap}
use Rattle.std.proofs.lemmas.List.Sorted.{IsPartitionPoint-from_clause, IsPartitionedBy-ltb}
use Rattle.std.proofs.lemmas.List.{get_or_default}
use Rattle.rt_stamps.specs.Stamps.{is_same}
use Rattle.rt_store.specs.declared.cell.Cell.{Cell}
use Rattle.rt_rga.proofs.PlannedStates.{counts_up, found_new, not_new}
use Rattle.rt_rga.proofs.plan.cell_in.Goals as goal
use Rattle.rt_rga.proofs.plan.cell_in.Goals.{else-at-new-via-then-at-new+else-eq, else-at-new-via-else-at-new}

pub returns-then-eq : goal.returns-then-eq
returns-then-eq g c =
    let new = c.args.new.now in
    let at = c.partition_point-at.result in
    let t : is_same (get_or new at c.index-new-at.result).stamp c.args.stamp ≡ true = sym c.eq.ensures ∙ c.if-eq.true in
    found_new new (g.S.TextStore.list c.args.store.now) c.args.stamp at c.index-new-at.result c.index-new-at-then-eq.result c.requires c.if-at-new.true c.index-new-at-then-eq.is t

pub returns : goal.returns
returns g c =
    let new = c.args.new.now in
    let stamp = c.args.stamp in
    let at = c.partition_point-at.result in
    let point = IsPartitionPoint-from_clause (λ cell. nat_lt cell.stamp.count stamp.count) new at c.partition_point-at.ensures.partitioned
    (IsPartitionedBy-ltb (λ cell. cell.stamp.count) new stamp.count (counts_up new c.requires)) (λ a r q k. search rules) in
    c.cell_of.ensures ∙ sym (not_new new (g.S.TextStore.list c.args.store.now) stamp at c.requires (λ k d l m. point.0 k d (omega arith) l) (λ k d l m. point.1 k d l m)
    (λ d l. elim c.else-at-new.branch [
      | else-at-new-via-then-at-new+else-eq w ↦ (let f : is_same (get_or new at w.index-new-at.result).stamp stamp ≡ false = sym w.eq.ensures ∙ w.if-eq.false in
          ap (λ (x : Cell ℕ). is_same x.stamp stamp) (get_or_default new at d w.index-new-at.result l) ∙ f)
      | else-at-new-via-else-at-new w ↦ absurd (omega arith)
    ]))
