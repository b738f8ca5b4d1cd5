use Rattle.std.proofs.Common.{◌≡◌, ◌∙◌, ◌+◌, ◌<◌, ap, arith, get_or, length, refl, set, subst, sym, ℕ}
use Rattle.rt_marks.specs.Seen.{seen_all, slot_stands}
use Rattle.rt_marks.specs.Tables.{slots_of}
use Rattle.rt_marks.proofs.Writing.{IsWritten, all_written, not_written, nothing_written, one_more_written, room_for}
use Rattle.rt_marks.proofs.table.Table.write_those.Goals as goal
use Rattle.rt_marks.proofs.table.Table.write_those.Goals.{then-stands, else-stands}

pub loop-rank-init : goal.loop-rank-init
loop-rank-init c =
    let table = c.args.self.now in
    record {
      marks = refl;
      by_name = refl;
      written = nothing_written (slot_stands c.args.place c.args.gravity (slots_of table)) table.by_name.items table.in_order.items c.args.at (omega (arith, c.requires));
    }

pub index_mut-requires : goal.index_mut-requires
index_mut-requires c =
    let table = c.args.self.now in
    let now = c.loop-rank.self in
    let slot = c.index-slot.result.now in
    let inside : c.loop-rank.rank < length table.by_name.items = omega (arith, c.loop-rank-test.true, c.len-rank-end.ensures, table.by_name.ok.0) in
    let read : slot ≡ get_or table.by_name.items c.loop-rank.rank slot = c.index-slot.ensures ∙ ap (λ v. get_or v.items c.loop-rank.rank slot) c.loop-rank.invariant.by_name in
    let told = sym (c.stands.ensures ∙ ap (λ v. slot_stands c.args.place c.args.gravity (seen_all v.items) slot) c.loop-rank.invariant.marks) in
    subst (λ v. c.loop-rank.next < v) (sym now.in_order.ok.0)
    (room_for (slot_stands c.args.place c.args.gravity (slots_of table)) table.by_name.items table.in_order.items now.in_order.items c.args.at c.loop-rank.next c.loop-rank.rank slot c.loop-rank.invariant.written c.requires inside read (told ∙ c.if-stands.true))

pub loop-rank-preserved : goal.loop-rank-preserved
loop-rank-preserved c =
    let table = c.args.self.now in
    let now = c.loop-rank.self in
    let slot = c.index-slot.result.now in
    let rank = c.loop-rank.rank in
    let test = slot_stands c.args.place c.args.gravity (slots_of table) in
    let inside : rank < length table.by_name.items = omega (arith, c.loop-rank-test.true, c.len-rank-end.ensures, table.by_name.ok.0) in
    let read : slot ≡ get_or table.by_name.items rank slot = c.index-slot.ensures ∙ ap (λ v. get_or v.items rank slot) c.loop-rank.invariant.by_name in
    let told = sym (c.stands.ensures ∙ ap (λ v. slot_stands c.args.place c.args.gravity (seen_all v.items) slot) c.loop-rank.invariant.marks) in
    elim c.if-stands.branch [
      | then-stands w ↦ record {
        marks = ap (λ v. v.marks) w.self-is ∙ c.loop-rank.invariant.marks;
        by_name = ap (λ v. v.by_name) w.self-is ∙ c.loop-rank.invariant.by_name;
        written = subst (λ v. IsWritten test table.by_name.items table.in_order.items v c.args.at c.if-stands.next (rank + 1)) (sym (ap (λ v. v.in_order.items) w.self-is))
            (subst (λ (v : ℕ). IsWritten test table.by_name.items table.in_order.items (set now.in_order.items c.loop-rank.next slot) c.args.at v (rank + 1)) (sym w.next-is)
            (one_more_written test table.by_name.items table.in_order.items now.in_order.items c.args.at c.loop-rank.next rank slot c.loop-rank.invariant.written c.requires inside read (told ∙ w.if-stands.true)));
      }
      | else-stands w ↦ record {
        marks = ap (λ v. v.marks) w.self-is ∙ c.loop-rank.invariant.marks;
        by_name = ap (λ v. v.by_name) w.self-is ∙ c.loop-rank.invariant.by_name;
        written = subst (λ v. IsWritten test table.by_name.items table.in_order.items v c.args.at c.if-stands.next (rank + 1)) (sym (ap (λ v. v.in_order.items) w.self-is))
            (subst (λ (v : ℕ). IsWritten test table.by_name.items table.in_order.items now.in_order.items c.args.at v (rank + 1)) (sym w.next-is)
            (not_written test table.by_name.items table.in_order.items now.in_order.items c.args.at c.loop-rank.next rank slot c.loop-rank.invariant.written inside read (told ∙ w.if-stands.false)));
      }
    ]

pub returns-clause-end : goal.returns-clause-end
returns-clause-end c =
    let table = c.args.self.now in
    (all_written (slot_stands c.args.place c.args.gravity (slots_of table)) table.by_name.items table.in_order.items c.loop-rank.self.in_order.items c.args.at c.loop-rank.next c.loop-rank.rank c.loop-rank.invariant.written (omega (arith, c.loop-rank-test.false, c.len-rank-end.ensures, table.by_name.ok.0))).0

pub returns-clause-in_order : goal.returns-clause-in_order
returns-clause-in_order c =
    let table = c.args.self.now in
    (all_written (slot_stands c.args.place c.args.gravity (slots_of table)) table.by_name.items table.in_order.items c.loop-rank.self.in_order.items c.args.at c.loop-rank.next c.loop-rank.rank c.loop-rank.invariant.written (omega (arith, c.loop-rank-test.false, c.len-rank-end.ensures, table.by_name.ok.0))).1
