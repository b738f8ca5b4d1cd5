use Rattle.std.proofs.Common.{◌≡◌, ◌∙◌, [], Some, ap, arith, drop, length, sym, subst}
use Rattle.std.specs.VecDeque.{deque_len}
use Rattle.rt_undo.specs.Flag.{IsTold, flag_shown}
use Rattle.rt_undo.specs.Groups.{numbers_of}
use Rattle.rt_undo.specs.Undo.{rest_after}
use Rattle.rt_undo.proofs.Told.{group_agrees, group_beside}
use Rattle.rt_undo.proofs.flag.Flag.tell_group.Goals as goal

pub returns-then-self-len-clause-told : goal.returns-then-self-len-clause-told
returns-then-self-len-clause-told c =
    let q = c.args.closed.now in
    let len : deque_len q ≡ length q.items = q.ok.0 in
    group_beside c.args.self.now q.items c.args.group.now c.requires
    (λ g. absurd (omega (arith, g, ap (λ f. f.groups) c.self.view_is, c.if-self-len.true, c.len.ensures, len)))

pub returns-in-Some-clause-told : goal.returns-in-Some-clause-told
returns-in-Some-clause-told c =
    let s = c.self.inside in
    let q = c.args.closed.now in
    let len : deque_len q ≡ length q.items = q.ok.0 in
    let told : IsTold (flag_shown s) q.items [] = subst (λ f. IsTold f q.items []) (sym c.self.view_is) c.requires in
    group_agrees (flag_shown s) q.items c.args.group.now (drop c.in-Some.place s.numbers.items) told
    (omega (arith, told.groups, c.if-self-len.false, c.len.ensures, len))
    ((λ i. rest_after (numbers_of (sym c.deref.ensures.value i)) (drop s.place (sym c.deref-2.ensures.value i)))
    ∙ sym c.in-Some.ensures.rest ∙ ap (λ l. Some (drop c.in-Some.place l)) c.deref-2.ensures.value)

pub returns-in_default-clause-told : goal.returns-in_default-clause-told
returns-in_default-clause-told c =
    let s = c.self.inside in
    group_beside c.args.self.now c.args.closed.now.items c.args.group.now c.requires
    (λ g. ap (λ f. rest_after (numbers_of c.args.group.now.items) f.rest) (sym c.self.view_is)
    ∙ (λ i. rest_after (numbers_of (sym c.deref.ensures.value i)) (drop s.place (sym c.deref-2.ensures.value i)))
    ∙ sym c.in_default.ensures.rest)
