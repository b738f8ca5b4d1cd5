use Rattle.std.proofs.Common.{◌≡◌, ◌∙◌, ◌-◌, ◌<◌, [], Some, ap, arith, drop, get_or, length, false, true, refl, subst, sym}
use Rattle.std.specs.VecDeque.{deque_len}
use Rattle.std.proofs.lemmas.List.{length-map}
use Rattle.rt_undo.specs.Flag.{IsTold, flag_shown}
use Rattle.rt_undo.specs.Groups.{numbers_of, numbers_of_groups}
use Rattle.rt_undo.specs.Undo.{but_newest, rest_after}
use Rattle.rt_undo.proofs.Told.{by_less, groups_agree, last_agrees, last_beside, last_of_none, place_back, place_fits, with_last}
use Rattle.rt_undo.proofs.flag.Flag.tell_last.Goals as goal

pub overflow_sub-self : goal.overflow_sub-self
overflow_sub-self c =
    let s = c.self.inside in
    let q = c.args.closed.now in
    let v = c.in-Some.group.now in
    let len : deque_len q ≡ length q.items = q.ok.0 in
    let told : IsTold (flag_shown s) q.items [] = subst (λ f. IsTold f q.items []) (sym c.self.view_is) c.requires in
    let some : 0 < deque_len q = c.in-Some.ensures.variant.0 refl in
    let is : get_or q.items (length q.items - 1) v ≡ v = ap (λ n. get_or q.items (n - 1) v) (sym len) ∙ sym c.in-Some.ensures.lookup in
    let all = ap (λ l. rest_after l (flag_shown s).kept) (sym (with_last q.items v (omega (arith, some, len)) is))
    ∙ groups_agree (flag_shown s) q.items told (omega (arith, told.groups, c.if-self-len.false, c.len.ensures, len)) in
    let fits = place_fits s.numbers.items s.passed s.place (numbers_of_groups (but_newest q.items)) (numbers_of v.items) c.self.invariant.passed c.self.invariant.place all in
    omega (arith, fits, length-map v.items (λ a. a.number), c.len-in-Some.ensures)

pub returns-in-Some-clause-told : goal.returns-in-Some-clause-told
returns-in-Some-clause-told c =
    let s = c.self.inside in
    let q = c.args.closed.now in
    let v = c.in-Some.group.now in
    let len : deque_len q ≡ length q.items = q.ok.0 in
    let told : IsTold (flag_shown s) q.items [] = subst (λ f. IsTold f q.items []) (sym c.self.view_is) c.requires in
    let some : 0 < deque_len q = c.in-Some.ensures.variant.0 refl in
    let is : get_or q.items (length q.items - 1) v ≡ v = ap (λ n. get_or q.items (n - 1) v) (sym len) ∙ sym c.in-Some.ensures.lookup in
    let g : s.groups ≡ length q.items = omega (arith, told.groups, c.if-self-len.false, c.len.ensures, len) in
    let all = ap (λ l. rest_after l (flag_shown s).kept) (sym (with_last q.items v (omega (arith, some, len)) is)) ∙ groups_agree (flag_shown s) q.items told g in
    let long : length (numbers_of v.items) ≡ c.len-in-Some.result = omega (arith, length-map v.items (λ a. a.number), c.len-in-Some.ensures) in
    last_agrees (flag_shown s) q.items (drop (s.place - c.len-in-Some.result) s.numbers.items) told g
    (place_back s.numbers.items s.passed s.place (numbers_of_groups (but_newest q.items)) (numbers_of v.items) c.self.invariant.passed c.self.invariant.place all
    ∙ ap (λ n. Some (drop (s.place - n) s.numbers.items)) long)

pub returns-then-self-len-clause-told : goal.returns-then-self-len-clause-told
returns-then-self-len-clause-told c =
    let q = c.args.closed.now in
    let len : deque_len q ≡ length q.items = q.ok.0 in
    last_beside c.args.self.now q.items c.requires (omega (arith, ap (λ f. f.groups) c.self.view_is, c.if-self-len.true, c.len.ensures, len))

pub returns-in_default-clause-told : goal.returns-in_default-clause-told
returns-in_default-clause-told c =
    let q = c.args.closed.now in
    let len : deque_len q ≡ length q.items = q.ok.0 in
    let none : length q.items ≡ 0 = by_less 0 (length q.items) (omega arith)
    (λ l. let there : false ≡ true = c.in_default.ensures.variant.1 (omega (arith, l, len)) in absurd (cc)) (λ e. sym e) in
    last_of_none c.args.self.now q.items none c.requires
