use Rattle.std.proofs.Common.{◌≡◌, ◌∙◌, ◌+◌, ◌++◌, ℕ, [], ◌∷◌, List, ap, arith, drop, length, map, refl, reverse, subst, sym, take}
use Rattle.std.specs.Prelude.{IfSome}
use Rattle.std.proofs.lemmas.List.{drop_all, length-drop, take_more, take-append-drop}
use Rattle.std.proofs.lemmas.List.Elements.{All-drop}
use Rattle.rt_ops.specs.Operations.{Operation, stamp_of}
use Rattle.rt_store.specs.declared.cell.Cell.{Cell}
use Rattle.rt_store.specs.Shown.{TaggedCell, shown}
use Rattle.rt_store.specs.Tagged.{AreStates}
use Rattle.rt_tags.specs.States.{IsState}
use Rattle.rt_rga.specs.Batches.{after_tags, all_put, put_by}
use Rattle.rt_rga.specs.Cells.{cells_of}
use Rattle.rt_rga.specs.Drafts.{ContinueInTurn}
use Rattle.rt_rga.specs.Making.{AreNewest, CanAllBePut, cuts_of, fresh_cells, kept_after}
use Rattle.rt_rga.specs.Noted.{AreDisjoint, AreNotedOf}
use Rattle.rt_rga.specs.Requests.{characters_in}
use Rattle.rt_rga.specs.declared.taken.Change.{Change}
use Rattle.rt_rga.proofs.Batching.{batch_placed}
use Rattle.rt_rga.proofs.Making.{ops_left}
use Rattle.rt_rga.proofs.NotedPuts.{alike_distinct, cells_in_all, enough_left, goes_in, newline_stays}
use Rattle.rt_rga.proofs.NotedTags.{all_put_more, done_cells, done_history, found_alike}
use Rattle.rt_rga.proofs.Putting.{left_shown, put_shown}
use Rattle.rt_rga.proofs.noting.put_all_noting.Goals as goal

-- all operations are those that are done and those that are left
split_at : (ops : List Operation) (i : ℕ) (op : Operation) → drop i ops ≡ op ∷ drop (i + 1) ops → ops ≡ take i ops ++ op ∷ drop (i + 1) ops
split_at ops i op left = sym (take-append-drop i ops) ∙ ap (λ (rest : List Operation). take i ops ++ rest) left

pub loop-op-init : goal.loop-op-init
loop-op-init g c =
    let log = c.args.log.now.operations in
    let kept : List (Cell ℕ) = g.S.TextStore.list c.args.store.now in
    record {
      list = refl;
      put = batch_placed log c.args.ops.now c.args.states.now c.args.states.now kept c.args.new.now c.requires.replica c.requires.continues c.requires.fresh;
      states = c.requires.agrees;
      given = c.requires.given;
      room = c.requires.room;
      spent = omega arith;
      tags = omega arith;
      cells = c.requires.replica.cells;
      fresh = c.requires.fresh;
      many = refl;
      noted = subst (λ (l : List Change). AreNotedOf log [] l) (sym c.new.ensures.items) (record { many = refl; each = tt });
    }

pub and_change-changes-requires-clause-placed : goal.and_change-changes-requires-clause-placed
and_change-changes-requires-clause-placed g c =
    let i = c.loop-op.op-index in
    let op : Operation = c.op-item.result in
    let kept : List (Cell ℕ) = g.S.TextStore.list c.loop-op.store in
    let left : drop i c.args.ops.now ≡ op ∷ drop (i + 1) c.args.ops.now = ops_left c.args.ops.now i op c.loop-op-test.true c.op-item.is in
    let can = (subst (λ (ops : List Operation). CanAllBePut ops c.loop-op.left.now kept) left c.loop-op.invariant.put).0 in
    goes_in (stamp_of op) op.body c.loop-op.left.now kept can

pub and_change-changes-requires-clause-stays : goal.and_change-changes-requires-clause-stays
and_change-changes-requires-clause-stays g c =
    let i = c.loop-op.op-index in
    let op : Operation = c.op-item.result in
    let kept : List (Cell ℕ) = g.S.TextStore.list c.loop-op.store in
    let left : drop i c.args.ops.now ≡ op ∷ drop (i + 1) c.args.ops.now = ops_left c.args.ops.now i op c.loop-op-test.true c.op-item.is in
    let can = (subst (λ (ops : List Operation). CanAllBePut ops c.loop-op.left.now kept) left c.loop-op.invariant.put).0 in
    newline_stays (stamp_of op) op.body c.loop-op.left.now kept can

pub and_change-changes-requires-clause-distinct : goal.and_change-changes-requires-clause-distinct
and_change-changes-requires-clause-distinct g c =
    let i = c.loop-op.op-index in
    let op : Operation = c.op-item.result in
    let log = c.args.log.now.operations in
    let ops : List Operation = c.args.ops.now in
    let done : List Operation = take i ops in
    let rest : List Operation = drop (i + 1) ops in
    let kept : List (Cell ℕ) = g.S.TextStore.list c.loop-op.store in
    let whole = split_at ops i op (ops_left ops i op c.loop-op-test.true c.op-item.is) in
    let history = c.requires.replica.history in
    let turn = subst (ContinueInTurn log) whole c.requires.continues in
    let newest = subst (AreNewest log) whole c.requires.newest in
    alike_distinct (reverse done ++ log) c.args.states.now (after_tags done) kept (all_put done (cells_of log)) (done_history log done (op ∷ rest) history turn newest) (λ cell. refl)
    c.loop-op.invariant.cells (done_cells log done (op ∷ rest) history turn newest)

pub put-left-requires-clause-put : goal.put-left-requires-clause-put
put-left-requires-clause-put g c =
    let i = c.loop-op.op-index in
    let op : Operation = c.op-item.result in
    let left : drop i c.args.ops.now ≡ op ∷ drop (i + 1) c.args.ops.now = ops_left c.args.ops.now i op c.loop-op-test.true c.op-item.is in
    (subst (λ (ops : List Operation). CanAllBePut ops c.loop-op.left.now (g.S.TextStore.list c.loop-op.store)) left c.loop-op.invariant.put).0

pub put-left-requires-clause-room : goal.put-left-requires-clause-room
put-left-requires-clause-room g c =
    let i = c.loop-op.op-index in
    let op : Operation = c.op-item.result in
    let rest : List Operation = drop (i + 1) c.args.ops.now in
    let left : drop i c.args.ops.now ≡ op ∷ rest = ops_left c.args.ops.now i op c.loop-op-test.true c.op-item.is in
    let before = c.loop-op.invariant in
    let enough = enough_left c.args.states.now (stamp_of op) op.body c.loop-op.left.now (fresh_cells rest) (before.fresh ∙ ap fresh_cells left) in
    let cuts = ap cuts_of left in
    let room = before.room in
    (omega (arith, room.0, enough), omega (arith, room.1, cuts), room.2)

pub loop-op-preserved : goal.loop-op-preserved
loop-op-preserved g c =
    let i = c.loop-op.op-index in
    let op : Operation = c.op-item.result in
    let log = c.args.log.now.operations in
    let ops : List Operation = c.args.ops.now in
    let states = c.args.states.now in
    let new : List (Cell ℕ) = c.loop-op.left.now in
    let now : List (Cell ℕ) = c.put-left.result.now in
    let kept : List (Cell ℕ) = g.S.TextStore.list c.loop-op.store in
    let cells : List (Cell ℕ) = g.S.TextStore.list c.put-left.new.store in
    let done : List Operation = take i ops in
    let rest : List Operation = drop (i + 1) ops in
    let known : List TaggedCell = map (shown states) kept in
    let left : drop i ops ≡ op ∷ rest = ops_left ops i op c.loop-op-test.true c.op-item.is in
    let whole = split_at ops i op left in
    let more : take (i + 1) ops ≡ done ++ op ∷ [] = take_more ops i op c.loop-op-test.true ∙ ap (λ (x : Operation). done ++ x ∷ []) (sym c.op-item.is) in
    let before = c.loop-op.invariant in
    let can : CanAllBePut (op ∷ rest) new kept = subst (λ (l : List Operation). CanAllBePut l new kept) left before.put in
    let fresh = before.fresh ∙ ap fresh_cells left in
    let enough = enough_left states (stamp_of op) op.body new (fresh_cells rest) fresh in
    let cuts = ap cuts_of left in
    let used = ap (λ (xs : List (Cell ℕ)). length xs) c.put-left.ensures.left in
    let fewer = length-drop (characters_in op.body) new in
    let spent = c.put-left.ensures.room in
    let room = before.room in
    let history = c.requires.replica.history in
    let turn = subst (ContinueInTurn log) whole c.requires.continues in
    let newest = subst (AreNewest log) whole c.requires.newest in
    let alike = found_alike log done rest op known history turn newest (subst AreDisjoint whole c.requires.disjoint) before.cells in
    let true_cells = ap (map (after_tags done)) before.cells ∙ done_cells log done (op ∷ rest) history turn newest in
    record {
      list = (λ j. kept_after rest (c.put-left.ensures.left j) (c.put-left.ensures.list j)) ∙ ap (λ (l : List Operation). kept_after l new kept) (sym left) ∙ before.list;
      put = subst (λ (p : _). p) (λ j. CanAllBePut rest (sym c.put-left.ensures.left j) (sym c.put-left.ensures.list j)) can.1;
      states = c.put-left.ensures.states;
      given = subst (AreStates states) (sym c.put-left.ensures.left) (All-drop (λ (cell : Cell ℕ). IsState states cell.state) (characters_in op.body) new before.given);
      room = (omega (arith, spent.0, room.0, used, fewer, enough), omega (arith, spent.1, room.1, cuts), omega (arith, spent.2, room.2));
      spent = omega (arith, spent.1, before.spent, cuts);
      tags = omega (arith, spent.2, before.tags);
      cells = ap (map (shown states)) c.put-left.ensures.list ∙ put_shown states (stamp_of op) op.body new kept (fresh_cells rest) fresh
          ∙ ap (put_by (stamp_of op) op.body) before.cells ∙ sym (all_put_more done op (cells_of log)) ∙ ap (λ (l : List Operation). all_put l (cells_of log)) (sym more);
      fresh = ap (map (shown states)) c.put-left.ensures.left ∙ left_shown states (stamp_of op) op.body new (fresh_cells rest) fresh;
      many = cells_in_all op states new now kept cells (fresh_cells rest) (length (g.S.TextStore.list c.args.store.now) + length c.args.new.now)
          c.put-left.ensures.left c.put-left.ensures.list can.0 fresh before.many;
      noted = subst (λ (l : List Operation). IfSome c.and_change-changes.result (λ changes. AreNotedOf log l changes.items)) (sym more)
          (c.and_change-changes.ensures log done (after_tags done) alike true_cells before.noted);
    }

pub returns-clause-list : goal.returns-clause-list
returns-clause-list g c =
    let none = drop_all c.loop-op.op-index c.args.ops.now c.loop-op-test.false in
    sym (ap (λ (ops : List Operation). kept_after ops c.loop-op.left.now (g.S.TextStore.list c.loop-op.store)) none) ∙ c.loop-op.invariant.list

pub returns-clause-room : goal.returns-clause-room
returns-clause-room g c = omega (arith, c.loop-op.invariant.spent, ap cuts_of (drop_all c.loop-op.op-index c.args.ops.now c.loop-op-test.false))

pub returns-clause-states : goal.returns-clause-states
returns-clause-states g c = c.loop-op.invariant.states
