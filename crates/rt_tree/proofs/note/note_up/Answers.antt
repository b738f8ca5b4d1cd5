use Rattle.std.proofs.Common.{◌≡◌, ◌≢◌, ◌⊎◌, ℕ, suc, ◌+◌, ◌<◌, ◌≤◌, ◌∙◌, ap, arith, get_or, length, refl, subst, sym, inl, inr}
use Rattle.std.specs.Prelude.{IfSome}
use Rattle.std.proofs.lemmas.Bool.{cases_eq}
use Rattle.rt_nodes.specs.Nodes.{entries}
use Rattle.rt_tags.specs.Borders.{first, last}
use Rattle.rt_tags.specs.States.{IsState}
use Rattle.rt_tree.specs.declared.summary.Summary.{Summary}
use Rattle.rt_tree.specs.Changes.{above, kid}
use Rattle.rt_tree.specs.Shape.{level_of, parent_of, runs}
use Rattle.rt_tree.specs.Summaries.{IsSummary, shown_before, shown_behind, shown_states, summary_of}
use Rattle.rt_tree.proofs.Noting.{AreRightBelow, above_is, ends_of, first_all, first_first, first_is, is_node, last_all, last_first, last_is, right_up, shows_now, stands_in, was_is}
use Rattle.rt_tree.proofs.Passes.{get-any}
use Rattle.rt_tree.proofs.Paths.{at}
use Rattle.rt_tree.proofs.Twice.{summed_beside}
use Rattle.rt_tree.proofs.note.note_up.Goals as goal

pub returns-then-is_beside-clause-summed : goal.returns-then-is_beside-clause-summed
returns-then-is_beside-clause-summed c =
    let m = c.args.mem.now in
    let x = c.args.restated.place.leaf.index in
    let i = c.args.restated.place.entry in
    let e = c.widened-around.ensures.before ∙ last_first m c.args.top.height c.args.top.root.index c.requires.tree x c.requires.leaf.0 c.requires.leaf.1 i (level_of m x) c.requires.leaf.1 in
    let f = c.widened-around.ensures.after ∙ first_first m c.args.top.height c.args.top.root.index c.requires.tree x c.requires.leaf.0 c.requires.leaf.1 i (level_of m x) (i + 1) c.requires.leaf.1 (omega arith) in
    let own = get_or (entries m x) i (kid 0) in
    let here = get-any (entries m x) i (kid 0) own c.requires.within in
    let beside = c.is_beside.ensures.beside c.if-is_beside.true in
    let side : (last (shown_before m 0 x i) ≡ c.args.restated.change.to) ⊎ (first (shown_behind m 0 x i) ≡ c.args.restated.change.to) = elim beside [ inl b ↦ inl (sym e ∙ b) | inr b ↦ inr (sym f ∙ b) ] in
    summed_beside c.args.states.now m c.args.each.now c.args.top.height c.args.top.root.index x i c.requires.tree c.requires.leaf.0 c.requires.leaf.1 own c.args.restated.change.from c.args.restated.change.to c.requires.within here (c.requires.shows own here)
    (c.is_beside.ensures.none c.if-is_beside.true) side c.requires.but

pub widened-around-requires-clause-node : goal.widened-around-requires-clause-node
widened-around-requires-clause-node c = (c.requires.leaf.0, subst (λ n. c.args.restated.place.leaf.index < n) c.requires.tree.same c.requires.leaf.0)

pub widened-around-requires-clause-ends : goal.widened-around-requires-clause-ends
widened-around-requires-clause-ends c =
    let m = c.args.mem.now in
    let x = c.args.restated.place.leaf.index in
    ends_of m c.args.top.height c.args.top.root.index c.requires.tree c.args.states.now c.args.each.now (level_of m x) x c.requires.many c.requires.leaf.0 refl (λ d is lower. absurd (omega (arith, lower, c.requires.leaf.1)))

pub replace_at-requires-clause-before : goal.replace_at-requires-clause-before
replace_at-requires-clause-before c =
    let m = c.args.mem.now in
    let x = c.args.restated.place.leaf.index in
    let i = c.args.restated.place.entry in
    let e = c.widened-around.ensures.before ∙ last_first m c.args.top.height c.args.top.root.index c.requires.tree x c.requires.leaf.0 c.requires.leaf.1 i (level_of m x) c.requires.leaf.1 in
    subst (λ o. IfSome o (IsState c.args.states.now)) (sym e) (last_all (IsState c.args.states.now) (shown_before m 0 x i) (c.requires.beside.before 0 (omega arith)))

pub replace_at-requires-clause-was : goal.replace_at-requires-clause-was
replace_at-requires-clause-was c =
    let m = c.args.mem.now in
    let x = c.args.restated.place.leaf.index in
    let i = c.args.restated.place.entry in
    let e = c.widened-around.ensures.before ∙ last_first m c.args.top.height c.args.top.root.index c.requires.tree x c.requires.leaf.0 c.requires.leaf.1 i (level_of m x) c.requires.leaf.1 in
    let f = c.widened-around.ensures.after ∙ first_first m c.args.top.height c.args.top.root.index c.requires.tree x c.requires.leaf.0 c.requires.leaf.1 i (level_of m x) (i + 1) c.requires.leaf.1 (omega arith) in
    record {
      left = shown_before m 0 x i;
      right = shown_behind m 0 x i;
      ends = sym e;
      begins = sym f;
      short = c.requires.beside.short 0 (omega arith);
      is = c.requires.but.path 0 (omega arith);
    }

pub replace_at-requires-clause-after : goal.replace_at-requires-clause-after
replace_at-requires-clause-after c =
    let m = c.args.mem.now in
    let x = c.args.restated.place.leaf.index in
    let i = c.args.restated.place.entry in
    let f = c.widened-around.ensures.after ∙ first_first m c.args.top.height c.args.top.root.index c.requires.tree x c.requires.leaf.0 c.requires.leaf.1 i (level_of m x) (i + 1) c.requires.leaf.1 (omega arith) in
    subst (λ o. IfSome o (IsState c.args.states.now)) (sym f) (first_all (IsState c.args.states.now) (shown_behind m 0 x i) (c.requires.beside.behind 0 (omega arith)))

pub loop-level-init : goal.loop-level-init
loop-level-init c =
    let m = c.args.mem.now in
    let x = c.args.restated.place.leaf.index in
    let i = c.args.restated.place.entry in
    let e = c.widened-around.ensures.before ∙ last_first m c.args.top.height c.args.top.root.index c.requires.tree x c.requires.leaf.0 c.requires.leaf.1 i (level_of m x) c.requires.leaf.1 in
    let f = c.widened-around.ensures.after ∙ first_first m c.args.top.height c.args.top.root.index c.requires.tree x c.requires.leaf.0 c.requires.leaf.1 i (level_of m x) (i + 1) c.requires.leaf.1 (omega arith) in
    let own = get_or (entries m x) i (kid 0) in
    let here = get-any (entries m x) i (kid 0) own c.requires.within in
    let shows = shows_now m c.args.top.height c.args.top.root.index c.requires.tree x c.requires.leaf.0 c.requires.leaf.1 i own c.args.restated.change.to c.requires.within here (c.requires.shows own here) 0 (omega arith) in
    let summed = c.replace_at.ensures.is (shown_before m 0 x i) (shown_behind m 0 x i) (sym e) (sym f) (c.requires.but.path 0 (omega arith)) in
    record {
      low = omega arith;
      at = refl;
      before = e;
      after = f;
      right = right_up m c.args.top.height c.args.top.root.index c.requires.tree x c.requires.leaf.0 c.requires.leaf.1 i c.args.states.now c.args.each.now c.args.each.now c.replace_at.new.each c.args.restated.change.from c.args.restated.change.to c.requires.but 0 (omega arith) (λ d is lower. absurd (omega (arith, lower))) (λ d is high. refl) c.replace_at.ensures.others
          (subst (λ l. IsSummary c.args.states.now l (summary_of c.replace_at.new.each x)) (sym shows) summed);
      rest = λ d is high. c.replace_at.ensures.others d (λ same. absurd (let z = ap (level_of m) same in omega (arith, z, high, c.requires.leaf.1)));
      many = c.replace_at.ensures.many;
      memory = λ d. elim (cases_eq d x) [
        | inl same ↦ subst (λ n. (summary_of c.replace_at.new.each n).counts.capacity ≡ (summary_of c.args.each.now n).counts.capacity) (sym same) c.replace_at.ensures.memory.2
        | inr ne ↦ ap (λ (s : Summary). s.counts.capacity) (c.replace_at.ensures.others d ne)
      ];
      minus = c.replace_at.ensures.memory.0;
      plus = c.replace_at.ensures.memory.1;
    }

pub parent_of-parent-requires : goal.parent_of-parent-requires
parent_of-parent-requires c =
    let m = c.args.mem.now in
    let x = c.args.restated.place.leaf.index in
    let i = c.args.restated.place.entry in
    let inv = c.loop-level.invariant in
    let n = at m c.args.top.height c.args.top.root.index c.requires.tree x c.requires.leaf.0 c.requires.leaf.1 c.loop-level.level inv.low in
    let is = subst (λ d. d < length m.heads) (sym inv.at) n.0 in
    (is, subst (λ k. c.loop-level.node.index < k) c.requires.tree.same is)

pub slot_of-slot-requires-clause-node : goal.slot_of-slot-requires-clause-node
slot_of-slot-requires-clause-node c =
    let m = c.args.mem.now in
    let x = c.args.restated.place.leaf.index in
    let i = c.args.restated.place.entry in
    let inv = c.loop-level.invariant in
    let j = c.loop-level.level in
    let p = c.parent_of-parent.result.index in
    let le : suc j ≤ c.args.top.height = omega (arith, c.loop-level-test.true) in
    let p_is : p ≡ above m (suc j) x = c.parent_of-parent.ensures ∙ ap (parent_of m) inv.at in
    is_node m c.args.top.height c.args.top.root.index c.requires.tree x c.requires.leaf.0 c.requires.leaf.1 i j le p c.loop-level.node.index p_is inv.at

pub slot_of-slot-requires-clause-stands : goal.slot_of-slot-requires-clause-stands
slot_of-slot-requires-clause-stands c =
    let m = c.args.mem.now in
    let x = c.args.restated.place.leaf.index in
    let i = c.args.restated.place.entry in
    let inv = c.loop-level.invariant in
    let j = c.loop-level.level in
    let p = c.parent_of-parent.result.index in
    let le : suc j ≤ c.args.top.height = omega (arith, c.loop-level-test.true) in
    let p_is : p ≡ above m (suc j) x = c.parent_of-parent.ensures ∙ ap (parent_of m) inv.at in
    stands_in m c.args.top.height c.args.top.root.index c.requires.tree x c.requires.leaf.0 c.requires.leaf.1 i j le p c.loop-level.node.index p_is inv.at

pub widened-wider-requires-clause-ends : goal.widened-wider-requires-clause-ends
widened-wider-requires-clause-ends c =
    let m = c.args.mem.now in
    let x = c.args.restated.place.leaf.index in
    let i = c.args.restated.place.entry in
    let inv = c.loop-level.invariant in
    let j = c.loop-level.level in
    let p = c.parent_of-parent.result.index in
    let le : suc j ≤ c.args.top.height = omega (arith, c.loop-level-test.true) in
    let p_is : p ≡ above m (suc j) x = c.parent_of-parent.ensures ∙ ap (parent_of m) inv.at in
    let n = above_is m c.args.top.height c.args.top.root.index c.requires.tree x c.requires.leaf.0 c.requires.leaf.1 i j le p c.loop-level.node.index p_is inv.at in
    let more : j + 1 ≡ level_of m p = omega (arith, n.1) in
    ends_of m c.args.top.height c.args.top.root.index c.requires.tree c.args.states.now c.loop-level.each (level_of m p) p (omega (arith, inv.many, c.requires.many)) n.0 refl (subst (AreRightBelow m c.args.states.now c.loop-level.each) more inv.right)

pub replace_at-requires-in-loop-level-clause-before : goal.replace_at-requires-in-loop-level-clause-before
replace_at-requires-in-loop-level-clause-before c =
    let m = c.args.mem.now in
    let x = c.args.restated.place.leaf.index in
    let i = c.args.restated.place.entry in
    let inv = c.loop-level.invariant in
    let j = c.loop-level.level in
    let p = c.parent_of-parent.result.index in
    let le : suc j ≤ c.args.top.height = omega (arith, c.loop-level-test.true) in
    let p_is : p ≡ above m (suc j) x = c.parent_of-parent.ensures ∙ ap (parent_of m) inv.at in
    let lvl = (above_is m c.args.top.height c.args.top.root.index c.requires.tree x c.requires.leaf.0 c.requires.leaf.1 i j le p c.loop-level.node.index p_is inv.at).1 in
    let slot = c.slot_of-slot.result in
    let own = get_or (entries m p) slot (kid 0) in
    let here = get-any (entries m p) slot (kid 0) own c.slot_of-slot.ensures.within in
    let to = c.slot_of-slot.ensures.is own here in
    let e = c.widened-wider.ensures.before ∙ last_is m c.args.top.height c.args.top.root.index c.requires.tree x c.requires.leaf.0 c.requires.leaf.1 i j le p c.loop-level.node.index p_is inv.at slot own c.loop-level.around.before c.slot_of-slot.ensures.within here to inv.before in
    subst (λ o. IfSome o (IsState c.args.states.now)) (sym e) (last_all (IsState c.args.states.now) (shown_before m (suc j) x i) (c.requires.beside.before (suc j) le))

pub replace_at-requires-in-loop-level-clause-after : goal.replace_at-requires-in-loop-level-clause-after
replace_at-requires-in-loop-level-clause-after c =
    let m = c.args.mem.now in
    let x = c.args.restated.place.leaf.index in
    let i = c.args.restated.place.entry in
    let inv = c.loop-level.invariant in
    let j = c.loop-level.level in
    let p = c.parent_of-parent.result.index in
    let le : suc j ≤ c.args.top.height = omega (arith, c.loop-level-test.true) in
    let p_is : p ≡ above m (suc j) x = c.parent_of-parent.ensures ∙ ap (parent_of m) inv.at in
    let lvl = (above_is m c.args.top.height c.args.top.root.index c.requires.tree x c.requires.leaf.0 c.requires.leaf.1 i j le p c.loop-level.node.index p_is inv.at).1 in
    let slot = c.slot_of-slot.result in
    let own = get_or (entries m p) slot (kid 0) in
    let here = get-any (entries m p) slot (kid 0) own c.slot_of-slot.ensures.within in
    let to = c.slot_of-slot.ensures.is own here in
    let f = c.widened-wider.ensures.after ∙ first_is m c.args.top.height c.args.top.root.index c.requires.tree x c.requires.leaf.0 c.requires.leaf.1 i j le p c.loop-level.node.index p_is inv.at slot own c.loop-level.around.after c.slot_of-slot.ensures.within here to inv.after in
    subst (λ o. IfSome o (IsState c.args.states.now)) (sym f) (first_all (IsState c.args.states.now) (shown_behind m (suc j) x i) (c.requires.beside.behind (suc j) le))

pub replace_at-requires-in-loop-level-clause-memory : goal.replace_at-requires-in-loop-level-clause-memory
replace_at-requires-in-loop-level-clause-memory c =
    let m = c.args.mem.now in
    let x = c.args.restated.place.leaf.index in
    let i = c.args.restated.place.entry in
    let inv = c.loop-level.invariant in
    let j = c.loop-level.level in
    let p = c.parent_of-parent.result.index in
    let le : suc j ≤ c.args.top.height = omega (arith, c.loop-level-test.true) in
    let p_is : p ≡ above m (suc j) x = c.parent_of-parent.ensures ∙ ap (parent_of m) inv.at in
    let n = above_is m c.args.top.height c.args.top.root.index c.requires.tree x c.requires.leaf.0 c.requires.leaf.1 i j le p c.loop-level.node.index p_is inv.at in
    let own = c.requires.memory p n.0 in
    let kept = inv.memory p in
    (omega (arith, c.requires.minus, inv.minus), omega (arith, c.requires.plus, inv.plus), omega (arith, own, kept))

pub replace_at-requires-in-loop-level-clause-was : goal.replace_at-requires-in-loop-level-clause-was
replace_at-requires-in-loop-level-clause-was c =
    let m = c.args.mem.now in
    let x = c.args.restated.place.leaf.index in
    let i = c.args.restated.place.entry in
    let inv = c.loop-level.invariant in
    let j = c.loop-level.level in
    let p = c.parent_of-parent.result.index in
    let le : suc j ≤ c.args.top.height = omega (arith, c.loop-level-test.true) in
    let p_is : p ≡ above m (suc j) x = c.parent_of-parent.ensures ∙ ap (parent_of m) inv.at in
    let lvl = (above_is m c.args.top.height c.args.top.root.index c.requires.tree x c.requires.leaf.0 c.requires.leaf.1 i j le p c.loop-level.node.index p_is inv.at).1 in
    let slot = c.slot_of-slot.result in
    let own = get_or (entries m p) slot (kid 0) in
    let here = get-any (entries m p) slot (kid 0) own c.slot_of-slot.ensures.within in
    let to = c.slot_of-slot.ensures.is own here in
    let e = c.widened-wider.ensures.before ∙ last_is m c.args.top.height c.args.top.root.index c.requires.tree x c.requires.leaf.0 c.requires.leaf.1 i j le p c.loop-level.node.index p_is inv.at slot own c.loop-level.around.before c.slot_of-slot.ensures.within here to inv.before in
    let f = c.widened-wider.ensures.after ∙ first_is m c.args.top.height c.args.top.root.index c.requires.tree x c.requires.leaf.0 c.requires.leaf.1 i j le p c.loop-level.node.index p_is inv.at slot own c.loop-level.around.after c.slot_of-slot.ensures.within here to inv.after in
    let n = above_is m c.args.top.height c.args.top.root.index c.requires.tree x c.requires.leaf.0 c.requires.leaf.1 i j le p c.loop-level.node.index p_is inv.at in
    let rest = inv.rest p n.0 (omega (arith, n.1)) in
    record {
      left = shown_before m (suc j) x i;
      right = shown_behind m (suc j) x i;
      ends = sym e;
      begins = sym f;
      short = c.requires.beside.short (suc j) le;
      is = was_is c.args.states.now m c.args.each.now c.loop-level.each c.args.top.height x i c.args.restated.change.from c.requires.but (suc j) p le p_is rest;
    }

pub loop-level-preserved : goal.loop-level-preserved
loop-level-preserved c =
    let m = c.args.mem.now in
    let x = c.args.restated.place.leaf.index in
    let i = c.args.restated.place.entry in
    let inv = c.loop-level.invariant in
    let j = c.loop-level.level in
    let p = c.parent_of-parent.result.index in
    let le : suc j ≤ c.args.top.height = omega (arith, c.loop-level-test.true) in
    let p_is : p ≡ above m (suc j) x = c.parent_of-parent.ensures ∙ ap (parent_of m) inv.at in
    let lvl = (above_is m c.args.top.height c.args.top.root.index c.requires.tree x c.requires.leaf.0 c.requires.leaf.1 i j le p c.loop-level.node.index p_is inv.at).1 in
    let slot = c.slot_of-slot.result in
    let own = get_or (entries m p) slot (kid 0) in
    let here = get-any (entries m p) slot (kid 0) own c.slot_of-slot.ensures.within in
    let to = c.slot_of-slot.ensures.is own here in
    let e = c.widened-wider.ensures.before ∙ last_is m c.args.top.height c.args.top.root.index c.requires.tree x c.requires.leaf.0 c.requires.leaf.1 i j le p c.loop-level.node.index p_is inv.at slot own c.loop-level.around.before c.slot_of-slot.ensures.within here to inv.before in
    let f = c.widened-wider.ensures.after ∙ first_is m c.args.top.height c.args.top.root.index c.requires.tree x c.requires.leaf.0 c.requires.leaf.1 i j le p c.loop-level.node.index p_is inv.at slot own c.loop-level.around.after c.slot_of-slot.ensures.within here to inv.after in
    let n = above_is m c.args.top.height c.args.top.root.index c.requires.tree x c.requires.leaf.0 c.requires.leaf.1 i j le p c.loop-level.node.index p_is inv.at in
    let rest = inv.rest p n.0 (omega (arith, n.1)) in
    let more : j + 1 ≡ suc j = omega arith in
    let now = c.replace_at-in-loop-level.new.each in
    let first_entry = get_or (entries m x) i (kid 0) in
    let first_here = get-any (entries m x) i (kid 0) first_entry c.requires.within in
    let shows = shows_now m c.args.top.height c.args.top.root.index c.requires.tree x c.requires.leaf.0 c.requires.leaf.1 i first_entry c.args.restated.change.to c.requires.within first_here (c.requires.shows first_entry first_here) (suc j) le in
    let summed = c.replace_at-in-loop-level.ensures.is (shown_before m (suc j) x i) (shown_behind m (suc j) x i) (sym e) (sym f) (was_is c.args.states.now m c.args.each.now c.loop-level.each c.args.top.height x i c.args.restated.change.from c.requires.but (suc j) p le p_is rest) in
    let own_now = subst (λ l. IsSummary c.args.states.now l (summary_of now p)) (sym shows) summed in
    let others : (d : ℕ) → d ≢ above m (suc j) x → summary_of now d ≡ summary_of c.loop-level.each d = λ d ne. c.replace_at-in-loop-level.ensures.others d (λ same. ne (same ∙ p_is)) in
    record {
      low = omega (arith, le);
      at = p_is ∙ ap (λ k. above m k x) (sym more);
      before = e ∙ ap (λ k. last (shown_before m k x i)) (sym more);
      after = f ∙ ap (λ k. first (shown_behind m k x i)) (sym more);
      right = subst (AreRightBelow m c.args.states.now now) (let z : suc (suc j) ≡ j + 1 + 1 = omega arith in z)
          (right_up m c.args.top.height c.args.top.root.index c.requires.tree x c.requires.leaf.0 c.requires.leaf.1 i c.args.states.now c.args.each.now c.loop-level.each now c.args.restated.change.from c.args.restated.change.to c.requires.but (suc j) le (subst (AreRightBelow m c.args.states.now c.loop-level.each) more inv.right)
          (λ d is high. inv.rest d is (omega (arith, high))) others (subst (λ q. IsSummary c.args.states.now (shown_states (runs m (suc j) (above m (suc j) x))) (summary_of now q)) p_is own_now));
      rest = λ d is high. c.replace_at-in-loop-level.ensures.others d (λ same. absurd (let z = ap (level_of m) same in omega (arith, z, n.1, high))) ∙ inv.rest d is (omega (arith, high));
      many = c.replace_at-in-loop-level.ensures.many ∙ inv.many;
      memory = λ d. elim (cases_eq d p) [
        | inl same ↦ subst (λ q. (summary_of now q).counts.capacity ≡ (summary_of c.loop-level.each q).counts.capacity) (sym same) c.replace_at-in-loop-level.ensures.memory.2 ∙ inv.memory d
        | inr ne ↦ ap (λ (s : Summary). s.counts.capacity) (c.replace_at-in-loop-level.ensures.others d ne) ∙ inv.memory d
      ];
      minus = c.replace_at-in-loop-level.ensures.memory.0 ∙ inv.minus;
      plus = c.replace_at-in-loop-level.ensures.memory.1 ∙ inv.plus;
    }
