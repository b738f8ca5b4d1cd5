use Rattle.std.proofs.Common.{◌∙◌, ◌-◌, ◌≤◌, Some, ap, drop, subst, sym, take}
use Rattle.rt_undo.specs.Flag.{IsTold, flag_shown}
use Rattle.rt_undo.specs.Groups.{numbers_of, numbers_of_groups}
use Rattle.rt_undo.proofs.Told.{actions_go, actions_long, place_back, place_fits}
use Rattle.rt_undo.proofs.flag.Flag.tell_none.Goals as goal

pub overflow_sub-self : goal.overflow_sub-self
overflow_sub-self c =
    let s = c.self.inside in
    let closed = c.args.closed.now.items in
    let current = c.args.current.now in
    let told : IsTold (flag_shown s) closed current = subst (λ f. IsTold f closed current) (sym c.self.view_is) c.requires in
    subst (λ n. n ≤ s.place) (actions_long (flag_shown s) closed current told)
    (place_fits s.numbers.items s.passed s.place (numbers_of_groups (take s.groups closed)) (numbers_of (take s.actions current)) c.self.invariant.passed c.self.invariant.place told.rest)

pub returns-clause-told : goal.returns-clause-told
returns-clause-told c =
    let s = c.self.inside in
    let closed = c.args.closed.now.items in
    let current = c.args.current.now in
    let told : IsTold (flag_shown s) closed current = subst (λ f. IsTold f closed current) (sym c.self.view_is) c.requires in
    actions_go (flag_shown s) closed current (drop (s.place - s.actions) s.numbers.items) told
    (place_back s.numbers.items s.passed s.place (numbers_of_groups (take s.groups closed)) (numbers_of (take s.actions current)) c.self.invariant.passed c.self.invariant.place told.rest
    ∙ ap (λ n. Some (drop (s.place - n) s.numbers.items)) (actions_long (flag_shown s) closed current told))
