use Rattle.std.proofs.Common.{◌≡◌, ◌∙◌, ◌+◌, ◌-◌, ◌≤◌, ◌++◌, ◌⊎◌, inl, inr, true, false, ap, sym, subst, refl, arith, length, get_or, take, drop}
use Rattle.std.proofs.lemmas.Result.{err_from_is_err_and}
use Rattle.std.specs.List.{AllByRecursion}
use Rattle.rt_stamps.specs.Stamps.{is_before}
use Rattle.rt_ops.specs.Operations.{stamp_of}
use Rattle.rt_rows.specs.Places.{HasPlace, op_at}
use Rattle.rt_oplog.specs.Logs.{same_operation}
use Rattle.rt_oplog.specs.Merged.{IsTakenOver}
use Rattle.rt_oplog.proofs.Sets.{operation_true}
use Rattle.rt_oplog.proofs.Merges.{rest_of, within_at, within_drop}
use Rattle.rt_oplog.proofs.Merging.{IsMerging, first_place, starts, go_left, go_right, go_both, clash_at, ends}
use Rattle.rt_oplog.proofs.merge.merge.Goals as goal
use Rattle.rt_oplog.proofs.merge.merge.Goals.{then-loop-left-test+else-right-theirs, else-loop-left-test}

pub loop-left-init : goal.loop-left-init
loop-left-init c =
    subst (λ order. IsMerging c.args.ops.now.rows c.args.more.now.rows c.args.mine.now c.args.theirs.now c.args.ops.now.rows order 0 0) (sym c.new-order.ensures.items)
    (starts c.args.ops.now.rows c.args.more.now.rows c.args.mine.now c.args.theirs.now c.requires.one.falling c.requires.other.falling)

pub loop-left-preserved-then-is_before : goal.loop-left-preserved-then-is_before
loop-left-preserved-then-is_before c =
    let ops = c.args.ops.now.rows in
    let more = c.args.more.now.rows in
    let mine = c.args.mine.now in
    let theirs = c.args.theirs.now in
    let now = c.loop-left.ops.rows in
    let order = c.loop-left.order.items in
    let i = c.loop-left.left in
    let j = c.loop-left.right in
    let s = c.loop-left.invariant in
    let h = c.loop-left-test.true in
    let k = c.if-right-theirs.true in
    let one = (s.kept (get_or mine i first_place) (within_at (HasPlace ops) i mine h c.requires.mine)).1 in
    let x : c.stamp_at-one.result ≡ stamp_of (op_at ops (get_or mine i first_place)) = c.stamp_at-one.ensures ∙ ap stamp_of one in
    let y : c.stamp_at-other.result ≡ stamp_of (op_at more (get_or theirs j first_place)) = c.stamp_at-other.ensures in
    let e : is_before (stamp_of (op_at ops (get_or mine i first_place))) (stamp_of (op_at more (get_or theirs j first_place))) ≡ true = ap (λ z. is_before z (stamp_of (op_at more (get_or theirs j first_place)))) (sym x) ∙ ap (is_before c.stamp_at-one.result) (sym y) ∙ sym c.is_before.ensures ∙ c.if-is_before.true in
    subst (λ places. IsMerging ops more mine theirs now places (i + 1) j) (sym c.in_ok-push.ensures.items) (go_left ops more mine theirs now order i j s h k c.requires.mine e)

pub loop-left-preserved-then-is_before-2 : goal.loop-left-preserved-then-is_before-2
loop-left-preserved-then-is_before-2 c =
    let ops = c.args.ops.now.rows in
    let more = c.args.more.now.rows in
    let mine = c.args.mine.now in
    let theirs = c.args.theirs.now in
    let now = c.loop-left.ops.rows in
    let order = c.loop-left.order.items in
    let i = c.loop-left.left in
    let j = c.loop-left.right in
    let s = c.loop-left.invariant in
    let h = c.loop-left-test.true in
    let k = c.if-right-theirs.true in
    let one = (s.kept (get_or mine i first_place) (within_at (HasPlace ops) i mine h c.requires.mine)).1 in
    let x : c.stamp_at-one.result ≡ stamp_of (op_at ops (get_or mine i first_place)) = c.stamp_at-one.ensures ∙ ap stamp_of one in
    let y : c.stamp_at-other.result ≡ stamp_of (op_at more (get_or theirs j first_place)) = c.stamp_at-other.ensures in
    let e : is_before (stamp_of (op_at more (get_or theirs j first_place))) (stamp_of (op_at ops (get_or mine i first_place))) ≡ true = ap (λ z. is_before z (stamp_of (op_at ops (get_or mine i first_place)))) (sym y) ∙ ap (is_before c.stamp_at-other.result) (sym x) ∙ sym c.is_before-else-is_before.ensures ∙ c.if-is_before-2.true in
    go_right ops more mine theirs now order i j c.take_over.new.ops.rows c.take_over.new.order.items s h k e c.in_ok-take_over.ensures.kept c.in_ok-take_over.ensures.taken

pub loop-left-preserved : goal.loop-left-preserved
loop-left-preserved c =
    let ops = c.args.ops.now.rows in
    let more = c.args.more.now.rows in
    let mine = c.args.mine.now in
    let theirs = c.args.theirs.now in
    let now = c.loop-left.ops.rows in
    let order = c.loop-left.order.items in
    let i = c.loop-left.left in
    let j = c.loop-left.right in
    let s = c.loop-left.invariant in
    let h = c.loop-left-test.true in
    let k = c.if-right-theirs.true in
    let one = (s.kept (get_or mine i first_place) (within_at (HasPlace ops) i mine h c.requires.mine)).1 in
    let same = sym (c.are_same.ensures ∙ ap (λ z. same_operation z (op_at more (get_or theirs j first_place))) one) ∙ c.if-are_same.true in
    let e = operation_true (op_at ops (get_or mine i first_place)) (op_at more (get_or theirs j first_place)) same in
    subst (λ places. IsMerging ops more mine theirs now places (i + 1) (j + 1)) (sym c.in_ok-push-2.ensures.items) (go_both ops more mine theirs now order i j s h k c.requires.mine e)

pub returns-else-are_same : goal.returns-else-are_same
returns-else-are_same c =
    let ops = c.args.ops.now.rows in
    let more = c.args.more.now.rows in
    let mine = c.args.mine.now in
    let theirs = c.args.theirs.now in
    let now = c.loop-left.ops.rows in
    let order = c.loop-left.order.items in
    let i = c.loop-left.left in
    let j = c.loop-left.right in
    let s = c.loop-left.invariant in
    let h = c.loop-left-test.true in
    let k = c.if-right-theirs.true in
    let one = (s.kept (get_or mine i first_place) (within_at (HasPlace ops) i mine h c.requires.mine)).1 in
    let x : c.stamp_at-one.result ≡ stamp_of (op_at ops (get_or mine i first_place)) = c.stamp_at-one.ensures ∙ ap stamp_of one in
    let y : c.stamp_at-other.result ≡ stamp_of (op_at more (get_or theirs j first_place)) = c.stamp_at-other.ensures in
    let same = sym (c.are_same.ensures ∙ ap (λ z. same_operation z (op_at more (get_or theirs j first_place))) one) ∙ c.if-are_same.false in
    let e : is_before (stamp_of (op_at ops (get_or mine i first_place))) (stamp_of (op_at more (get_or theirs j first_place))) ≡ false = ap (λ z. is_before z (stamp_of (op_at more (get_or theirs j first_place)))) (sym x) ∙ ap (is_before c.stamp_at-one.result) (sym y) ∙ sym c.is_before.ensures ∙ c.if-is_before.false in
    let f : is_before (stamp_of (op_at more (get_or theirs j first_place))) (stamp_of (op_at ops (get_or mine i first_place))) ≡ false = ap (λ z. is_before z (stamp_of (op_at ops (get_or mine i first_place)))) (sym y) ∙ ap (is_before c.stamp_at-other.result) (sym x) ∙ sym c.is_before-else-is_before.ensures ∙ c.if-is_before-2.false in
    inr (refl, clash_at ops more mine theirs i j h k c.requires.other e f same)

pub take_rest-requires : goal.take_rest-requires
take_rest-requires c =
    let theirs = c.args.theirs.now in
    let j = c.loop-left.right in
    subst (AllByRecursion (HasPlace c.args.more.now.rows)) (sym (rest_of j theirs)) (within_drop (HasPlace c.args.more.now.rows) j theirs c.requires.theirs)

pub returns : goal.returns
returns c =
    let ops = c.args.ops.now.rows in
    let more = c.args.more.now.rows in
    let mine = c.args.mine.now in
    let theirs = c.args.theirs.now in
    let i = c.loop-left.left in
    let j = c.loop-left.right in
    let named = c.in_ok-extend_from_slice.ensures.items ∙ ap (λ xs. c.loop-left.order.items ++ xs) (rest_of i mine) in
    let taken = subst (λ left. IsTakenOver more c.take_rest.new.ops.rows left (c.loop-left.order.items ++ drop i mine) c.take_rest.new.order.items) (rest_of j theirs)
    (subst (λ old. IsTakenOver more c.take_rest.new.ops.rows (take (length theirs - j) (drop j theirs)) old c.take_rest.new.order.items) named c.in_ok-take_rest.ensures.taken) in
    let empty : (length mine ≤ i) ⊎ (length theirs ≤ j) = elim c.loop-left-test.branch [ then-loop-left-test+else-right-theirs w ↦ inr (omega arith) | else-loop-left-test w ↦ inl (omega arith) ] in
    ends ops more mine theirs c.loop-left.ops.rows c.loop-left.order.items i j c.take_rest.new.ops.rows c.take_rest.new.order.items c.loop-left.invariant c.requires.mine empty
    c.in_ok-take_rest.ensures.kept taken

pub returns-in_err-push : goal.returns-in_err-push
returns-in_err-push c =
    let (y, is, gives) = err_from_is_err_and c.from_residual.result c.from_residual.ensures.1 in
    rw (is, gives) (inl refl)

pub returns-in_err-take_over : goal.returns-in_err-take_over
returns-in_err-take_over c =
    let (y, is, gives) = err_from_is_err_and c.from_residual-in_err-take_over.result c.from_residual-in_err-take_over.ensures.1 in
    rw (is, gives) (inl c.in_err-take_over.ensures.fault)

pub returns-in_err-push-2 : goal.returns-in_err-push-2
returns-in_err-push-2 c =
    let (y, is, gives) = err_from_is_err_and c.from_residual-in_err-push-2.result c.from_residual-in_err-push-2.ensures.1 in
    rw (is, gives) (inl refl)

pub returns-in_err-extend_from_slice : goal.returns-in_err-extend_from_slice
returns-in_err-extend_from_slice c =
    let (y, is, gives) = err_from_is_err_and c.from_residual-in_err-extend_from_slice.result c.from_residual-in_err-extend_from_slice.ensures.1 in
    rw (is, gives) (inl refl)

pub returns-in_err-take_rest : goal.returns-in_err-take_rest
returns-in_err-take_rest c =
    let (y, is, gives) = err_from_is_err_and c.from_residual-in_err-take_rest.result c.from_residual-in_err-take_rest.ensures.1 in
    rw (is, gives) (inl c.in_err-take_rest.ensures.fault)
