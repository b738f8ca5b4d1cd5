use Rattle.std.proofs.Common.{◌≡◌, ◌∙◌, ◌++◌, Some, ap, sym}
use Rattle.rt_stamps.specs.declared.fault.Fault.TheVariants.{NothingToUndo}
use Rattle.rt_undo.specs.Actions.{group_of}
use Rattle.rt_undo.specs.Groups.{groups_of}
use Rattle.rt_undo.specs.Renames.{now_of}
use Rattle.rt_undo.specs.Seen.{history_kept}
use Rattle.rt_undo.specs.Undo.{as_group, newest, next_undo, with_stamps_in}
use Rattle.rt_undo.proofs.Histories.{if_ok, none_or_some, only_memory, undo_is}
use Rattle.rt_undo.proofs.stacks.Stacks.undo.Goals as goal

pub returns-in-Some-clause-ok : goal.returns-in-Some-clause-ok
returns-in-Some-clause-ok c =
    let s = c.self.inside in
    let group = group_of c.in-Some.group.now in
    let e : newest (groups_of s.closed.items ++ as_group (group_of s.current.items)) ≡ Some (group_of c.in-Some.group.now) = ap (λ l. newest (groups_of s.closed.items ++ as_group (group_of l))) (sym c.deref.ensures.value) ∙ sym c.in-Some.ensures in
    let there : next_undo c.args.self.now.history ≡ Some (with_stamps_in (now_of s.renames) group) =
    sym (ap (λ v. next_undo v.history) c.self.view_is) ∙ undo_is (now_of s.renames) (history_kept s) group e in
    if_ok c.group_now.result (λ copy same. there ∙ ap Some (sym same)) c.group_now.ensures.ok

pub returns-in-Some-clause-none : goal.returns-in-Some-clause-none
returns-in-Some-clause-none c =
    let s = c.self.inside in
    let group = group_of c.in-Some.group.now in
    let e : newest (groups_of s.closed.items ++ as_group (group_of s.current.items)) ≡ Some (group_of c.in-Some.group.now) = ap (λ l. newest (groups_of s.closed.items ++ as_group (group_of l))) (sym c.deref.ensures.value) ∙ sym c.in-Some.ensures in
    let there : next_undo c.args.self.now.history ≡ Some (with_stamps_in (now_of s.renames) group) =
    sym (ap (λ v. next_undo v.history) c.self.view_is) ∙ undo_is (now_of s.renames) (history_kept s) group e in
    (λ is. absurd (only_memory c.group_now.result NothingToUndo (λ d. cc) c.group_now.ensures.fault is), λ none. absurd (none_or_some (sym none ∙ there)))
