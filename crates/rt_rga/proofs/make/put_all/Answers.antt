use Rattle.std.proofs.Common.{◌≡◌, ℕ, ◌+◌, ◌∙◌, ◌∷◌, List, ap, arith, drop, length, subst, sym}
use Rattle.std.proofs.lemmas.List.{drop_all, length-drop}
use Rattle.std.proofs.lemmas.List.Elements.{All-drop}
use Rattle.rt_ops.specs.Operations.{Operation}
use Rattle.rt_store.specs.declared.cell.Cell.{Cell}
use Rattle.rt_store.specs.Tagged.{AreStates}
use Rattle.rt_tags.specs.States.{IsState}
use Rattle.rt_rga.specs.Making.{CanAllBePut, cuts_of, kept_after}
use Rattle.rt_rga.specs.Requests.{characters_in}
use Rattle.rt_rga.proofs.Making.{ops_left}
use Rattle.rt_rga.proofs.make.put_all.Goals as goal

pub loop-op-preserved : goal.loop-op-preserved
loop-op-preserved g c =
    let i = c.loop-op.op-index in
    let op : Operation = c.op-item.result in
    let states = c.args.states.now in
    let new : List (Cell ℕ) = c.loop-op.left.now in
    let kept : List (Cell ℕ) = g.S.TextStore.list c.loop-op.store in
    let left : drop i c.args.ops.now ≡ op ∷ drop (i + 1) c.args.ops.now = ops_left c.args.ops.now i op c.loop-op-test.true c.op-item.is in
    let before = c.loop-op.invariant in
    let can = subst (λ (ops : List Operation). CanAllBePut ops new kept) left before.put in
    let cuts = ap cuts_of left in
    let used = ap length c.put-left.ensures.left in
    let rest = length-drop (characters_in op.body) new in
    record {
      list = (λ j. kept_after (drop (i + 1) c.args.ops.now) (c.put-left.ensures.left j) (c.put-left.ensures.list j)) ∙ ap (λ (ops : List Operation). kept_after ops new kept) (sym left) ∙ before.list;
      put = subst (λ (p : _). p) (λ j. CanAllBePut (drop (i + 1) c.args.ops.now) (sym c.put-left.ensures.left j) (sym c.put-left.ensures.list j)) can.1;
      states = c.put-left.ensures.states;
      given = subst (AreStates states) (sym c.put-left.ensures.left) (All-drop (λ (cell : Cell ℕ). IsState states cell.state) (characters_in op.body) new before.given);
      room = (omega (arith, c.put-left.ensures.room.0, before.room.0, used, rest), omega (arith, c.put-left.ensures.room.1, before.room.1, cuts), omega (arith, c.put-left.ensures.room.2, before.room.2));
      spent = omega (arith, c.put-left.ensures.room.1, before.spent, cuts);
      tags = omega (arith, c.put-left.ensures.room.2, before.tags);
    }

pub put-left-requires-clause-put : goal.put-left-requires-clause-put
put-left-requires-clause-put g c =
    let i = c.loop-op.op-index in
    let op : Operation = c.op-item.result in
    let left : drop i c.args.ops.now ≡ op ∷ drop (i + 1) c.args.ops.now = ops_left c.args.ops.now i op c.loop-op-test.true c.op-item.is in
    (subst (λ (ops : List Operation). CanAllBePut ops c.loop-op.left.now (g.S.TextStore.list c.loop-op.store)) left c.loop-op.invariant.put).0

pub put-left-requires-clause-states : goal.put-left-requires-clause-states
put-left-requires-clause-states g c = c.loop-op.invariant.states

pub put-left-requires-clause-given : goal.put-left-requires-clause-given
put-left-requires-clause-given g c = c.loop-op.invariant.given

pub returns-clause-list : goal.returns-clause-list
returns-clause-list g c =
    let none = drop_all c.loop-op.op-index c.args.ops.now c.loop-op-test.false in
    sym (ap (λ (ops : List Operation). kept_after ops c.loop-op.left.now (g.S.TextStore.list c.loop-op.store)) none) ∙ c.loop-op.invariant.list

pub returns-clause-room : goal.returns-clause-room
returns-clause-room g c = omega (arith, c.loop-op.invariant.spent, ap cuts_of (drop_all c.loop-op.op-index c.args.ops.now c.loop-op-test.false))

pub returns-clause-states : goal.returns-clause-states
returns-clause-states g c = c.loop-op.invariant.states
