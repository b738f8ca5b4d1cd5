use Rattle.std.proofs.Common.{◌≡◌, ◌∙◌, ℕ, ◌+◌, ◌-◌, ◌∷◌, ◌||◌, [], Some, ap, arith, drop, drop-drop, drop_of_length-le, is_some, length, not, suc, subst, sym, true}
use Rattle.std.specs.Prelude.{unwrap_or}
use Rattle.std.proofs.lemmas.List.{length-map}
use Rattle.rt_undo.specs.Flag.{IsTold, flag_shown}
use Rattle.rt_undo.specs.Groups.{numbers_of}
use Rattle.rt_undo.specs.Undo.{rest_after}
use Rattle.rt_undo.proofs.Dropping.{or_false}
use Rattle.rt_undo.proofs.Told.{first_agrees, first_goes, forced_then, lost_told, nothing_kept, numbers_fit}
use Rattle.rt_undo.proofs.flag.Flag.pass.Goals as goal

pub invariant_of-self : goal.invariant_of-self
invariant_of-self c =
    let s = c.self.inside in
    let v = c.args.dropped.now in
    let closed = c.args.closed.now.items in
    let current = c.args.current.now in
    let told : IsTold (flag_shown s) (v ∷ closed) current = subst (λ f. IsTold f (v ∷ closed) current) (sym c.self.view_is) c.requires in
    let first = first_agrees (flag_shown s) v closed current (s.groups - 1) (omega (arith, c.if-self-gt0.true)) told in
    let fits = numbers_fit s.numbers.items s.passed (numbers_of v.items) (drop (length v.items) (flag_shown s).kept) c.self.invariant.passed first in
    record { passed = omega (arith, fits, length-map v.items (λ a. a.number), c.len.ensures); place = c.self.invariant.place }

pub returns-then-self-gt0-clause-kept : goal.returns-then-self-gt0-clause-kept
returns-then-self-gt0-clause-kept c =
    let s = c.self.inside in
    let v = c.args.dropped.now in
    let closed = c.args.closed.now.items in
    let current = c.args.current.now in
    let told : IsTold (flag_shown s) (v ∷ closed) current = subst (λ f. IsTold f (v ∷ closed) current) (sym c.self.view_is) c.requires in
    let first = first_agrees (flag_shown s) v closed current (s.groups - 1) (omega (arith, c.if-self-gt0.true)) told in
    let long : c.len.result ≡ length v.items = omega (arith, c.len.ensures) in
    ap (λ n. drop (s.passed + n) s.numbers.items) long
    ∙ sym (drop-drop (length v.items) s.passed s.numbers.items)
    ∙ ap (λ o. unwrap_or o []) (sym first)
    ∙ ap (λ f. unwrap_or (rest_after (numbers_of v.items) f.kept) []) c.self.view_is

pub returns-then-self-gt0-clause-forced : goal.returns-then-self-gt0-clause-forced
returns-then-self-gt0-clause-forced c =
    let s = c.self.inside in
    let v = c.args.dropped.now in
    let closed = c.args.closed.now.items in
    let current = c.args.current.now in
    let told : IsTold (flag_shown s) (v ∷ closed) current = subst (λ f. IsTold f (v ∷ closed) current) (sym c.self.view_is) c.requires in
    let first = first_agrees (flag_shown s) v closed current (s.groups - 1) (omega (arith, c.if-self-gt0.true)) told in
    sym (or_false s.forced)
    ∙ ap (λ o. s.forced || not (is_some o)) (sym first)
    ∙ ap (λ f. f.forced || not (is_some (rest_after (numbers_of v.items) f.kept))) c.self.view_is

pub returns-then-self-gt0-clause-told : goal.returns-then-self-gt0-clause-told
returns-then-self-gt0-clause-told c =
    let s = c.self.inside in
    let v = c.args.dropped.now in
    let closed = c.args.closed.now.items in
    let current = c.args.current.now in
    let told : IsTold (flag_shown s) (v ∷ closed) current = subst (λ f. IsTold f (v ∷ closed) current) (sym c.self.view_is) c.requires in
    let one : s.groups ≡ suc (s.groups - 1) = omega (arith, c.if-self-gt0.true) in
    let first = first_agrees (flag_shown s) v closed current (s.groups - 1) one told in
    let long : c.len.result ≡ length v.items = omega (arith, c.len.ensures) in
    let next : rest_after (numbers_of v.items) (flag_shown s).kept ≡ Some (drop (s.passed + c.len.result) s.numbers.items) =
    first ∙ ap Some (drop-drop (length v.items) s.passed s.numbers.items ∙ ap (λ n. drop (s.passed + n) s.numbers.items) (sym long)) in
    first_goes (flag_shown s).kept (flag_shown s).rest (drop (s.passed + c.len.result) s.numbers.items) s.forced (s.groups - 1) s.actions v closed current next
    (subst (λ n. IsTold (record (flag_shown s) { groups = n }) (v ∷ closed) current) one told)

pub returns-else-self-gt0-clause-kept : goal.returns-else-self-gt0-clause-kept
returns-else-self-gt0-clause-kept c =
    let s = c.self.inside in
    let none : s.groups ≡ 0 = omega (arith, c.if-self-gt0.false) in
    ap (λ n. drop n s.numbers.items) c.len-self-inside.ensures
    ∙ drop_of_length-le s.numbers.items (omega arith)
    ∙ sym (nothing_kept c.args.self.now c.args.dropped.now c.args.closed.now.items c.args.current.now (sym (ap (λ f. f.groups) c.self.view_is) ∙ none) c.requires)

pub returns-else-self-gt0-clause-forced : goal.returns-else-self-gt0-clause-forced
returns-else-self-gt0-clause-forced c =
    let none : c.self.inside.groups ≡ 0 = omega (arith, c.if-self-gt0.false) in
    sym (forced_then c.args.self.now c.args.dropped.now c.args.closed.now.items c.args.current.now (sym (ap (λ f. f.groups) c.self.view_is) ∙ none) c.requires)

pub returns-else-self-gt0-clause-told : goal.returns-else-self-gt0-clause-told
returns-else-self-gt0-clause-told c =
    let s = c.self.inside in
    let ns = s.numbers.items in
    let v = c.args.dropped.now in
    let closed = c.args.closed.now.items in
    let current = c.args.current.now in
    let told : IsTold (flag_shown s) (v ∷ closed) current = subst (λ f. IsTold f (v ∷ closed) current) (sym c.self.view_is) c.requires in
    let none : s.groups ≡ 0 = omega (arith, c.if-self-gt0.false) in
    let passed : length ns ≡ c.len-self-inside.result = omega (arith, c.len-self-inside.ensures) in
    let place : length ns ≡ c.len-self-inside-else-self-gt0.result = omega (arith, c.len-self-inside-else-self-gt0.ensures) in
    subst (λ (p : ℕ × ℕ). IsTold (record { kept = drop p.0 ns; forced = true; groups = s.groups; actions = s.actions; rest = drop p.1 ns }) closed current)
    (λ i. (passed i, place i)) (lost_told ns s.groups s.actions closed current none (told.behind (omega (arith, none))))
