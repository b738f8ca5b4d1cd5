use Rattle.std.proofs.Common.{◌≡◌, ◌∙◌, ◌∷◌, [], None, Some, ap, arith, drop, length, subst, sym}
use Rattle.std.specs.VecDeque.{deque_len}
use Rattle.rt_undo.specs.Flag.{IsTold, flag_shown}
use Rattle.rt_undo.specs.Undo.{rest_after}
use Rattle.rt_undo.proofs.Told.{action_agrees, action_beside}
use Rattle.rt_undo.proofs.flag.Flag.tell_action.Goals as goal

pub returns-then-self-len-clause-told : goal.returns-then-self-len-clause-told
returns-then-self-len-clause-told c =
    let q = c.args.closed.now in
    let len : deque_len q ≡ length q.items = q.ok.0 in
    action_beside c.args.self.now q.items c.args.current.now c.args.action.now c.requires
    (λ g n. absurd (omega (arith, g, ap (λ f. f.groups) c.self.view_is, c.if-self-len.true, c.len.ensures, len)))

pub returns-then-self-current-clause-told : goal.returns-then-self-current-clause-told
returns-then-self-current-clause-told c =
    action_beside c.args.self.now c.args.closed.now.items c.args.current.now c.args.action.now c.requires
    (λ g n. absurd (omega (arith, n, ap (λ f. f.actions) c.self.view_is, c.if-self-current.true)))

pub returns-in-Some-clause-told : goal.returns-in-Some-clause-told
returns-in-Some-clause-told c =
    let s = c.self.inside in
    let q = c.args.closed.now in
    let closed = q.items in
    let current = c.args.current.now in
    let a = c.args.action.now in
    let len : deque_len q ≡ length q.items = q.ok.0 in
    let told : IsTold (flag_shown s) closed current = subst (λ f. IsTold f closed current) (sym c.self.view_is) c.requires in
    action_agrees (flag_shown s) closed current a (drop c.in-Some.place s.numbers.items) told
    (omega (arith, told.groups, c.if-self-len.false, c.len.ensures, len)) (omega (arith, told.actions, c.if-self-current.false))
    (subst (λ l. rest_after (a.number ∷ []) (drop s.place l) ≡ Some (drop c.in-Some.place l)) c.deref.ensures.value (sym c.in-Some.ensures.rest))

pub returns-in_default-clause-told : goal.returns-in_default-clause-told
returns-in_default-clause-told c =
    let s = c.self.inside in
    let a = c.args.action.now in
    action_beside c.args.self.now c.args.closed.now.items c.args.current.now a c.requires
    (λ g n. ap (λ f. rest_after (a.number ∷ []) f.rest) (sym c.self.view_is)
    ∙ subst (λ l. rest_after (a.number ∷ []) (drop s.place l) ≡ None) c.deref.ensures.value (sym c.in_default.ensures.rest))
