use Rattle.std.proofs.Common.{◌≡◌, ◌∙◌, ◌&&◌, ◌||◌, [], ◌∷◌, ap, if◌then◌else◌, subst, sym}
use Rattle.std.proofs.lemmas.List.{map-append}
use Rattle.rt_undo.specs.Actions.{action_of, group_of, is_replace}
use Rattle.rt_undo.specs.Groups.{IsStill, groups_of}
use Rattle.rt_undo.specs.Renames.{now_of}
use Rattle.rt_undo.specs.Seen.{UndoStacks, history_kept}
use Rattle.rt_undo.specs.Undo.{asks_separator, differs_from, newest, limited, recorded, renamed_by, separated}
use Rattle.rt_undo.proofs.Histories.{action_still, recorded_with, recorded_with_renamed}
use Rattle.rt_undo.proofs.stacks.Stacks.add.Goals as goal
use Rattle.rt_undo.proofs.stacks.Stacks.add.Goals.{then-auto_separators+then-asks_separator, else-auto_separators, else-auto_separators-via-then-auto_separators+else-asks_separator, else-auto_separators-via-else-auto_separators}

pub returns-clause-history : goal.returns-clause-history
returns-clause-history c =
    let s = c.self.inside in
    let t = c.if-auto_separators.self-inside in
    let f = now_of s.renames in
    let h = history_kept s in
    let auto = c.args.auto_separators in
    let a = action_of c.args.action in
    let stays : UndoStacks → Type 0 = λ v. IsStill v.moves a in
    c.limit.ensures.history ∙ ap limited ((λ i. renamed_by (now_of t.renames) (record (history_kept t) {
      current = (ap group_of c.push_action.ensures.items ∙ map-append action_of t.current.items (c.args.action ∷ [])) i;
      undone = groups_of (c.clear.ensures.items i);
      kept = c.tell_action.ensures.kept.0 i;
      forced = c.tell_action.ensures.kept.1 i;
    }))
    ∙ (elim c.if-auto_separators.branch as (λ _. renamed_by (now_of t.renames) (recorded a (history_kept t)) ≡ renamed_by f (recorded_with auto a h)) [
      | then-auto_separators+then-asks_separator w ↦
          (λ i. renamed_by (now_of (w.self-inside-is i).renames) (recorded a (history_kept (w.self-inside-is i))))
          ∙ (λ i. renamed_by f (recorded a (record h {
            closed = w.close.ensures.groups i;
            current = group_of ((ap (λ v. v.items) (w.close.ensures.next ∙ w.replace-next.ensures.value) ∙ c.self.invariant.spare) i);
            kept = w.close.ensures.kept.0 i;
            forced = w.close.ensures.kept.1 i;
          })))
          ∙ (λ i. renamed_by f (recorded a (if sym w.if-auto_separators.true i && sym (sym (w.asks_separator.ensures ∙ ap (λ l. is_replace a.kind || differs_from a.kind (newest (group_of l))) w.deref.ensures.value) ∙ w.if-asks_separator.true) i then separated h else h)))
      | else-auto_separators w ↦
          (λ i. renamed_by (now_of (w.self-inside-is i).renames) (recorded a (history_kept (w.self-inside-is i))))
          ∙ elim w.else-auto_separators.branch as (λ _. renamed_by f (recorded a h) ≡ renamed_by f (recorded_with auto a h)) [
            | else-auto_separators-via-then-auto_separators+else-asks_separator v ↦
                (λ i. renamed_by f (recorded a (if sym v.if-auto_separators.true i && sym (sym (v.asks_separator.ensures ∙ ap (λ l. is_replace a.kind || differs_from a.kind (newest (group_of l))) v.deref.ensures.value) ∙ v.if-asks_separator.false) i then separated h else h)))
            | else-auto_separators-via-else-auto_separators v ↦
                (λ i. renamed_by f (recorded a (if sym v.if-auto_separators.false i && asks_separator a.kind h then separated h else h)))
          ]
    ])
    ∙ recorded_with_renamed f auto a h (action_still s.renames a (subst stays (sym c.self.view_is) c.requires.still))
    ∙ ap (λ v. recorded_with auto a v.history) c.self.view_is)
