use Rattle.std.proofs.Common.{◌≡◌, ◌∙◌, ◌<◌, ◌++◌, ℕ, ap, arith, false, length, nat_eq, subst, sym}
use Rattle.std.specs.VecDeque.{deque_len}
use Rattle.std.proofs.lemmas.Bool.Decides.{nat_tests}
use Rattle.rt_undo.specs.Flag.{IsTold, flag_shown}
use Rattle.rt_undo.specs.Groups.{numbers_of, numbers_of_groups}
use Rattle.rt_undo.specs.Undo.{same_numbers}
use Rattle.rt_undo.proofs.Histories.{empty_drop}
use Rattle.rt_undo.proofs.Told.{other_actions, other_groups, same_groups}
use Rattle.rt_undo.proofs.flag.Flag.is_same.Goals as goal

apart : (m n : ℕ) → m < n → nat_eq m n ≡ false
apart m n l = grind (arith, nat_tests)

pub returns-then-self-len : goal.returns-then-self-len
returns-then-self-len c =
    let q = c.args.closed.now in
    let len : deque_len q ≡ length q.items = q.ok.0 in
    other_groups c.args.self.now q.items c.args.current.now c.requires.not_forced c.requires.told
    (omega (arith, ap (λ f. f.groups) c.self.view_is, c.if-self-len.true, c.len.ensures, len))

pub returns-then-self-current : goal.returns-then-self-current
returns-then-self-current c =
    let s = c.self.inside in
    let q = c.args.closed.now in
    let closed = q.items in
    let current = c.args.current.now in
    let len : deque_len q ≡ length q.items = q.ok.0 in
    let told : IsTold (flag_shown s) closed current = subst (λ f. IsTold f closed current) (sym c.self.view_is) c.requires.told in
    let long : c.len-then-self-current.result ≡ length s.numbers.items = omega (arith, c.len-then-self-current.ensures) in
    ap (nat_eq s.place) long
    ∙ sym (empty_drop s.place s.numbers.items c.self.invariant.place)
    ∙ same_groups (flag_shown s) closed current told (omega (arith, told.groups, c.if-self-len.false, c.len.ensures, len)) (omega (arith, c.if-self-current.true))
    ∙ ap (λ f. same_numbers (numbers_of_groups closed ++ numbers_of current) f.kept) c.self.view_is

pub returns-else-self-current : goal.returns-else-self-current
returns-else-self-current c =
    let s = c.self.inside in
    let q = c.args.closed.now in
    let closed = q.items in
    let current = c.args.current.now in
    let len : deque_len q ≡ length q.items = q.ok.0 in
    let told : IsTold (flag_shown s) closed current = subst (λ f. IsTold f closed current) (sym c.self.view_is) c.requires.told in
    let less : s.actions < length current = omega (arith, told.actions, c.if-self-current.false) in
    apart s.actions (length current) less
    ∙ other_actions (flag_shown s) closed current (ap (λ f. f.forced) c.self.view_is ∙ c.requires.not_forced) told
    (omega (arith, told.groups, c.if-self-len.false, c.len.ensures, len)) less
    ∙ ap (λ f. same_numbers (numbers_of_groups closed ++ numbers_of current) f.kept) c.self.view_is
